use Rattle.std.proofs.Common.{◌≡◌, true, ◌+◌, ◌≤◌, ◌++◌, ◌∷◌, [], ◌∙◌, map, ap, sym, subst, arith, length, Option}
use Rattle.std.specs.Prelude.{option_map}
use Rattle.std.specs.List.{AllByRecursion}
use Rattle.reverse_core.specs.declared.requests.OpenRequest.{OpenRequest}
use Rattle.reverse_core.specs.Requests.{renewed}
use Rattle.reverse_core.specs.Windows.{filled, numbers, is_first_passed, IsSent, IsSentBefore, Pairs}
use Rattle.reverse_core.proofs.QueueLemmas.{length-moved, moved-late, moved-list, moved-numbers, moved-sent, queue-due, renewed-still, rising-rest}
use Rattle.reverse_core.proofs.open_requests.promote.Goals as goal

pub loop-from-preserved-in-Some : goal.loop-from-preserved-in-Some
loop-from-preserved-in-Some c =
    let m = c.args.moment in
    let inv = c.loop-from.invariant in
    let to = c.loop-from.to.items in
    let rest = c.pop_front.new.self.items in
    let slot = c.in-Some.slot in
    let split : c.loop-from.from.items ≡ slot ∷ rest = c.in-Some.ensures.items in
    let more : c.push_slot.new.slots.items ≡ to ++ option_map (renewed m) slot ∷ [] =
    c.push_slot.ensures.items ∙ ap (λ (s : Option OpenRequest). to ++ s ∷ []) c.again.ensures in
    let passed : is_first_passed m (slot ∷ rest) ≡ true = ap (is_first_passed m) (sym split) ∙ sym c.is_first_passed.ensures ∙ c.loop-from-test.true in
    record {
      list = ap (λ l. filled l ++ map (renewed m) (filled rest)) more ∙ moved-list m to rest slot ∙ ap (λ l. filled to ++ map (renewed m) (filled l)) (sym split) ∙ inv.list;
      numbers_are = ap (λ l. numbers (l ++ rest)) more ∙ moved-numbers m to rest slot ∙ ap (λ l. numbers (to ++ l)) (sym split) ∙ inv.numbers_are;
      sent = λ n few from_sent to_sent. (let both = inv.sent n few from_sent to_sent in
          let moved = moved-sent m n to rest slot passed inv.late few both.0 (subst (IsSent n) split both.1) in
          (subst (IsSent (n + 1)) (sym more) moved.0, moved.1));
      rising = rising-rest rest slot (subst (λ l. Pairs IsSentBefore (filled l)) split inv.rising);
      late = subst (λ l. AllByRecursion (λ o. o.sent.last ≤ m) (filled l)) (sym more) (moved-late m to rest slot passed inv.late);
      lengths = omega (arith, ap length more, ap length split, length-moved to rest slot (option_map (renewed m) slot), inv.lengths);
      room_from = c.in-Some.ensures.capacity ∙ inv.room_from;
      room_to = c.push_slot.ensures.capacity ∙ inv.room_to;
    }

pub returns-clause-list : goal.returns-clause-list
returns-clause-list c =
    let m = c.args.moment in
    let inv = c.loop-from.invariant in
    let from = c.loop-from.from.items in
    ap (λ l. filled c.loop-from.to.items ++ l) (sym (renewed-still m (filled from) (queue-due m from inv.rising (sym c.is_first_passed.ensures ∙ c.loop-from-test.false)))) ∙ inv.list
