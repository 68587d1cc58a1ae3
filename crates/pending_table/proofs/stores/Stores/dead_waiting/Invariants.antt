use Rattle.std.proofs.Common.{◌≡◌, ◌+◌, filter, length}
use Rattle.std.specs.BTreeMap.{values, btree_map_len}
use Rattle.pending_table.specs.Merged.{Pairs}
use Rattle.pending_table.specs.Stores.{is_live, ends_before}
use Rattle.pending_table.proofs.stores.Stores.dead_waiting.Given as goal

-- what lives is among those to come
abbrev pub invariant-loop-row : goal.invariant-loop-row
invariant-loop-row l =
    (goal.iterator-loop-row).can_next l.row-iterator ×
    (goal.iterator-loop-row).is_finite l.row-iterator ×
    (filter (is_live l.self l.moment) (values l.self.waiting) ≡ filter (is_live l.self l.moment) l.row-iterator) ×
    (l.dead + length l.row-iterator ≡ btree_map_len l.self.waiting) ×
    Pairs (ends_before l.self) l.row-iterator
