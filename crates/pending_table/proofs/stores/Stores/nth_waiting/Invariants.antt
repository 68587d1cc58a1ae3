use Rattle.std.proofs.Common.{◌≡◌, filter, slice_get}
use Rattle.std.specs.BTreeMap.{values}
use Rattle.pending_table.specs.Stores.{is_live}
use Rattle.pending_table.proofs.stores.Stores.nth_waiting.Given as goal

-- it is the one after `left` more of those to come
abbrev pub invariant-loop-row : goal.invariant-loop-row
invariant-loop-row l =
    (goal.iterator-loop-row).can_next l.row-iterator ×
    (goal.iterator-loop-row).is_finite l.row-iterator ×
    (slice_get (filter (is_live l.self l.moment) (values l.self.waiting)) l.k ≡ slice_get (filter (is_live l.self l.moment) l.row-iterator) l.left)
