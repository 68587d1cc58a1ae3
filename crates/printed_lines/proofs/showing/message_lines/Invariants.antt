use Rattle.std.proofs.Common.{◌≡◌, ◌++◌}
use Rattle.std.specs.List.{flat_map}
use Rattle.diameter_avp.specs.Avps.{avp_items}
use Rattle.printed_lines.specs.Show.{item_line}
use Rattle.printed_lines.proofs.showing.message_lines.Given as goal

-- the lines of what is left complete those that were written
abbrev pub invariant-loop-item : goal.invariant-loop-item
invariant-loop-item l =
    l.lines.items ++ flat_map item_line l.item-iterator
    ≡ l.initial.lines.items ++ flat_map item_line (avp_items l.message.avps.now)
