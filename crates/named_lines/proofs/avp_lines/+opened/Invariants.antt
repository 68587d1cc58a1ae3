use Rattle.std.proofs.Common.{◌≡◌, ◌++◌, ◌+◌, ◌*◌}
use Rattle.std.specs.List.{flat_map}
use Rattle.diameter_avp.specs.Avps.{avp_items}
use Rattle.named_lines.specs.NamedText.{lines_at}
use Rattle.named_lines.proofs.avp_lines.+opened.Given as goal

abbrev pub decreases-push_avps : goal.decreases-push_avps
decreases-push_avps l = 2 * l.depth + 1

abbrev pub decreases-push_opened : goal.decreases-push_opened
decreases-push_opened l = 2 * l.depth

-- the lines of what is left complete those that were written
abbrev pub invariant-push_avps-loop-item : goal.invariant-push_avps-loop-item
invariant-push_avps-loop-item l =
    (goal.iterator-push_avps-loop-item).can_next l.item-iterator ×
    (goal.iterator-push_avps-loop-item).is_finite l.item-iterator ×
    (l.text.items ++ flat_map (lines_at l.depth l.indent) l.item-iterator ≡ l.initial.text.items ++ flat_map (lines_at l.depth l.indent) (avp_items l.octets))
