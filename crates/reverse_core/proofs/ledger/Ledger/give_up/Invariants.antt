use Rattle.std.proofs.Common.{◌≡◌, ◌++◌, map, filter, not}
use Rattle.std.specs.Vec.Iter.{into_iter_items}
use Rattle.reverse_core.specs.Requests.{given_up, is_spent}
use Rattle.reverse_core.specs.State.{IsSound}
use Rattle.reverse_core.specs.Ticking.{silences}
use Rattle.reverse_core.proofs.ledger.Ledger.give_up.Given as goal

-- there is an answer for each that is left to close
abbrev pub invariant-loop-answer : goal.invariant-loop-answer
invariant-loop-answer l = record {
  sound : IsSound l.self;
  own : l.self.own ≡ l.fn.self.own;
  left : into_iter_items l.answer-iterator ≡ silences l.fn.self.own l.moment l.self.open_ones.list;
  others : filter (λ o. not (is_spent l.moment o)) l.self.open_ones.list ≡ filter (λ o. not (is_spent l.moment o)) l.fn.self.open_ones.list;
  next : l.self.open_ones.next ≡ l.fn.self.open_ones.next;
  kept : l.self.kept.list ++ map (given_up l.fn.self.own l.moment) (filter (is_spent l.moment) l.self.open_ones.list)
      ≡ l.fn.self.kept.list ++ map (given_up l.fn.self.own l.moment) (filter (is_spent l.moment) l.fn.self.open_ones.list);
  moment_is : l.self.moment ≡ l.moment;
}
