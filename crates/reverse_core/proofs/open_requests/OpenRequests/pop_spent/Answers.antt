use Rattle.std.proofs.Common.{◌≡◌, ◌+◌, ◌-◌, ◌∙◌, ap, sym, subst, arith, length, filter}
use Rattle.std.specs.VecDeque.{deque_capacity}
use Rattle.reverse_core.specs.Requests.{is_spent}
use Rattle.reverse_core.specs.Windows.{OpenParts, IsSent, IsWindow}
use Rattle.reverse_core.proofs.QueueLemmas.{keeps-drop}
use Rattle.reverse_core.proofs.WindowSteps.{filled-dropped, filled-still, window-dropped, window-spent}
use Rattle.reverse_core.proofs.open_requests.OpenRequests.pop_spent.Goals as goal

pub invariant_of-self : goal.invariant_of-self
invariant_of-self c =
    let w = c.self.inside in
    let a = w.thrice.items in
    let b = w.twice.items in
    let d = w.once.items in
    let a' = c.pop_due.new.slots.items in
    let is = c.in-Some.ensures in
    let first : w.first + (length a - length a') ≡ w.first + (c.slots_of-before.result - c.slots_of.result) = omega (arith, c.slots_of-before.ensures, c.slots_of.ensures) in
    subst (λ n. IsWindow n a' b d (w.count - 1) (deque_capacity c.pop_due.new.slots) (deque_capacity w.twice) (deque_capacity w.once)) first
    (window-dropped w.first is.dropped.0 a b d a' w.count (w.count - 1) (deque_capacity w.thrice) (deque_capacity w.twice) (deque_capacity w.once) (deque_capacity c.pop_due.new.slots)
    c.self.invariant is.dropped.1 is.dropped.2 (omega (arith, c.self.invariant.counted, ap length (filled-dropped a b d a' c.in-Some.found is.some.0))) is.capacity)

pub invariant_of-self-in-None : goal.invariant_of-self-in-None
invariant_of-self-in-None c =
    let w = c.self.inside in
    let a = w.thrice.items in
    let b = w.twice.items in
    let d = w.once.items in
    let a' = c.pop_due.new.slots.items in
    let is = c.in-None.ensures in
    let first : w.first + (length a - length a') ≡ w.first + (c.slots_of-before.result - c.slots_of-in-None.result) = omega (arith, c.slots_of-before.ensures, c.slots_of-in-None.ensures) in
    subst (λ n. IsWindow n a' b d w.count (deque_capacity c.pop_due.new.slots) (deque_capacity w.twice) (deque_capacity w.once)) first
    (window-dropped w.first is.dropped.0 a b d a' w.count w.count (deque_capacity w.thrice) (deque_capacity w.twice) (deque_capacity w.once) (deque_capacity c.pop_due.new.slots)
    c.self.invariant is.dropped.1 is.dropped.2 (c.self.invariant.counted ∙ sym (ap length (filled-still a b d a' is.none.0))) is.capacity)

pub returns-in-None-clause-none : goal.returns-in-None-clause-none
returns-in-None-clause-none c =
    let w = c.self.inside in
    let a = w.thrice.items in
    let b = w.twice.items in
    let d = w.once.items in
    let a' = c.pop_due.new.slots.items in
    let is = c.in-None.ensures in
    let sent : IsSent 3 a' = subst (IsSent 3) (sym is.dropped.2) (keeps-drop is.dropped.0 a 3 c.self.invariant.thrice_sent) in
    let view = ap (λ (p : OpenParts). p.list) c.self.view_is in
    let same = filled-still a b d a' is.none.0 ∙ view in
    (same, ap (filter (is_spent c.args.moment)) (sym same) ∙ window-spent c.args.moment a' b d sent c.self.invariant.twice_sent c.self.invariant.once_sent is.none.1)
