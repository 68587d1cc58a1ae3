use Rattle.std.proofs.Common.{◌≡◌, ◌++◌}
use Rattle.std.specs.List.{flat_map}
use Rattle.printed_lines.specs.Show.{attribute_line}
use Rattle.printed_lines.proofs.showing.packet_lines.Given as goal

-- the lines of what is left complete those that were written
abbrev pub invariant-loop-attribute : goal.invariant-loop-attribute
invariant-loop-attribute l =
    l.lines.items ++ flat_map attribute_line l.attribute-iterator
    ≡ l.initial.lines.items ++ flat_map attribute_line l.packet.attributes
