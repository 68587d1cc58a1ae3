use Rattle.std.proofs.Common.{◌≡◌, ◌+◌, ◌++◌, filter, length}
use Rattle.pending_table.specs.Merged.{Pairs, rows}
use Rattle.pending_table.specs.Stores.{is_live, ends_before}
use Rattle.pending_table.proofs.stores.Stores.dead_settled.Given as goal

-- what lives is among those to come
abbrev pub invariant-loop-held : goal.invariant-loop-held
invariant-loop-held l =
    (goal.iterator-loop-held).can_next l.held-iterator ×
    (goal.iterator-loop-held).is_finite l.held-iterator ×
    (filter (is_live l.self l.moment) (rows l.self.settled.items) ≡ filter (is_live l.self l.moment) (rows (l.held-iterator.head.now ++ l.held-iterator.wrapped.now))) ×
    (l.dead + length (l.held-iterator.head.now ++ l.held-iterator.wrapped.now) ≡ length l.self.settled.items) ×
    Pairs (ends_before l.self) (rows (l.held-iterator.head.now ++ l.held-iterator.wrapped.now))
