use Rattle.std.proofs.Common.{◌≡◌, ◌+◌, ◌++◌, filter, length, nat_lt}
use Rattle.reverse_core.specs.Windows.{IsNoLater, Pairs}
use Rattle.reverse_core.proofs.kept_answers.count_past.Given as goal

-- what is still to be kept is among those to come
abbrev pub invariant-loop-held : goal.invariant-loop-held
invariant-loop-held l = record {
  can : (goal.iterator-loop-held).can_next l.held-iterator;
  finite : (goal.iterator-loop-held).is_finite l.held-iterator;
  kept : filter (λ k. nat_lt l.moment (k.at + l.retention)) l.list.items ≡ filter (λ k. nat_lt l.moment (k.at + l.retention)) (l.held-iterator.head.now ++ l.held-iterator.wrapped.now);
  past : l.past + length (l.held-iterator.head.now ++ l.held-iterator.wrapped.now) ≡ length l.list.items;
  cooled : Pairs IsNoLater (l.held-iterator.head.now ++ l.held-iterator.wrapped.now);
}
