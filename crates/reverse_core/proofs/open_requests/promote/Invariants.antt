use Rattle.std.proofs.Common.{◌≡◌, ℕ, ◌+◌, ◌<◌, ◌≤◌, ◌++◌, map, length}
use Rattle.std.specs.List.{AllByRecursion}
use Rattle.std.specs.VecDeque.{deque_capacity}
use Rattle.reverse_core.specs.Requests.{renewed}
use Rattle.reverse_core.specs.Windows.{filled, numbers, IsSent, IsSentBefore, Pairs}
use Rattle.reverse_core.proofs.open_requests.promote.Given as goal

abbrev pub decreases-loop-from : goal.decreases-loop-from
decreases-loop-from l = length l.from.items

-- what was moved, and what is left to move
abbrev pub invariant-loop-from : goal.invariant-loop-from
invariant-loop-from l = record {
  list : filled l.to.items ++ map (renewed l.moment) (filled l.from.items) ≡ filled l.fn.to.items ++ map (renewed l.moment) (filled l.fn.from.items);
  numbers_are : numbers (l.to.items ++ l.from.items) ≡ numbers (l.fn.to.items ++ l.fn.from.items);
  sent : (n : ℕ) → n < 3 → IsSent n l.fn.from.items → IsSent (n + 1) l.fn.to.items → IsSent (n + 1) l.to.items × IsSent n l.from.items;
  rising : Pairs IsSentBefore (filled l.from.items);
  late : AllByRecursion (λ o. o.sent.last ≤ l.moment) (filled l.to.items);
  lengths : length l.to.items + length l.from.items ≡ length l.fn.to.items + length l.fn.from.items;
  room_from : deque_capacity l.from ≡ deque_capacity l.fn.from;
  room_to : deque_capacity l.to ≡ deque_capacity l.fn.to;
}
