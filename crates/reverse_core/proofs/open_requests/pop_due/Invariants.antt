use Rattle.std.proofs.Common.{◌≡◌, ℕ, ◌≤◌, drop, length}
use Rattle.std.specs.VecDeque.{deque_capacity}
use Rattle.reverse_core.specs.Windows.{filled}
use Rattle.reverse_core.proofs.open_requests.pop_due.Given as goal

abbrev pub decreases-loop-slots : goal.decreases-loop-slots
decreases-loop-slots l = length l.slots.items

-- empty slots were dropped
abbrev pub invariant-loop-slots : goal.invariant-loop-slots
invariant-loop-slots l = record {
  same : filled l.slots.items ≡ filled l.fn.slots.items;
  dropped : (k : ℕ) × (k ≤ length l.fn.slots.items) × (l.slots.items ≡ drop k l.fn.slots.items);
  capacity : deque_capacity l.slots ≡ deque_capacity l.fn.slots;
}
