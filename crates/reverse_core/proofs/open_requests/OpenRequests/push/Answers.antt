use Rattle.std.proofs.Common.{◌≡◌, ◌+◌, ◌≤◌, ◌++◌, ◌∷◌, [], ◌∙◌, ap, sym, subst, arith, length, Some}
use Rattle.std.specs.List.{AllByRecursion}
use Rattle.std.specs.VecDeque.{deque_capacity}
use Rattle.reverse_core.specs.declared.requests.Sent.{Sent}
use Rattle.reverse_core.specs.Requests.{first_sent}
use Rattle.reverse_core.specs.Windows.{OpenParts, IsWindow, filled}
use Rattle.reverse_core.proofs.WindowLemmas.{filled-short, length-three}
use Rattle.reverse_core.proofs.WindowSteps.{window-more}
use Rattle.reverse_core.proofs.open_requests.OpenRequests.push.Goals as goal

pub overflow_add-self : goal.overflow_add-self
overflow_add-self c =
    let w = c.self.inside in
    let few = c.self.invariant.few in
    omega (arith, filled-short (w.thrice.items ++ w.twice.items ++ w.once.items), length-three w.thrice.items w.twice.items w.once.items, c.self.invariant.counted)

pub invariant_of-self : goal.invariant_of-self
invariant_of-self c =
    let w = c.self.inside in
    let f = c.free_slot-self-inside in
    let a = f.new.thrice.items in
    let b = f.new.twice.items in
    let d = f.new.once.items in
    let m = c.args.moment in
    let next = ap (λ (p : OpenParts). p.next) c.self.view_is in
    let late : AllByRecursion (λ o. o.sent.last ≤ m) (filled (a ++ b ++ d)) =
    subst (AllByRecursion (λ o. o.sent.last ≤ m)) (sym (f.ensures.same ∙ ap (λ (p : OpenParts). p.list) c.self.view_is)) c.requires.late in
    let more = window-more f.result m a b d c.args.taken w.count (deque_capacity f.new.thrice) (deque_capacity f.new.twice) (deque_capacity c.push_slot.new.slots) f.ensures.window f.ensures.room
    (omega (arith, f.ensures.next, next, c.requires.fits)) (c.requires.numbered ∙ sym next ∙ sym f.ensures.next)
    (c.self.invariant.counted ∙ ap length (sym f.ensures.same)) (f.ensures.thrice 3 c.self.invariant.thrice_sent) (f.ensures.twice 2 c.self.invariant.twice_sent)
    (f.ensures.once 1 c.self.invariant.once_sent) late
    (omega (arith, f.ensures.rooms.0, c.self.invariant.room_thrice)) (omega (arith, f.ensures.rooms.1, c.self.invariant.room_twice))
    (omega (arith, c.push_slot.ensures.capacity, f.ensures.rooms.2, c.self.invariant.room_once)) in
    let put : c.push_slot.new.slots.items ≡ d ++ Some (record { taken = c.args.taken; sent = first_sent m }) ∷ [] =
    c.push_slot.ensures.items ∙ ap (λ (s : Sent). d ++ Some (record { taken = c.args.taken; sent = s }) ∷ []) c.first-sent.ensures in
    subst (λ l. IsWindow f.result a b l (w.count + 1) (deque_capacity f.new.thrice) (deque_capacity f.new.twice) (deque_capacity c.push_slot.new.slots)) (sym put) more
