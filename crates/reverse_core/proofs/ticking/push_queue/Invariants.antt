use Rattle.std.proofs.Common.{◌≡◌, ◌++◌}
use Rattle.std.specs.List.{flat_map}
use Rattle.reverse_core.specs.History.{overdue}
use Rattle.reverse_core.specs.Ticking.{silences}
use Rattle.reverse_core.specs.Windows.{filled, IsSentBefore, Pairs}
use Rattle.reverse_core.proofs.ticking.push_queue.Given as goal

-- what was put in, and what is left to put in
abbrev pub invariant-loop-slot : goal.invariant-loop-slot
invariant-loop-slot l = record {
  can : (goal.iterator-loop-slot).can_next l.slot-iterator;
  finite : (goal.iterator-loop-slot).is_finite l.slot-iterator;
  outputs : l.overdue.outputs.items ++ flat_map (overdue l.own l.moment) (filled (l.slot-iterator.head.now ++ l.slot-iterator.wrapped.now))
      ≡ l.fn.overdue.outputs.items ++ flat_map (overdue l.own l.moment) (filled l.slots.items);
  answers : l.overdue.answers.items ++ silences l.own l.moment (filled (l.slot-iterator.head.now ++ l.slot-iterator.wrapped.now))
      ≡ l.fn.overdue.answers.items ++ silences l.own l.moment (filled l.slots.items);
  rising : Pairs IsSentBefore (filled (l.slot-iterator.head.now ++ l.slot-iterator.wrapped.now));
}
