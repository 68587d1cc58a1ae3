use Rattle.std.proofs.Common.{◌≡◌, false, ◌++◌, ◌∷◌, [], ◌∙◌, Some, Option, ap, sym, subst}
use Rattle.std.specs.List.{flat_map}
use Rattle.std.proofs.lemmas.List.{append-nil}
use Rattle.reverse_core.specs.declared.requests.OpenRequest.{OpenRequest}
use Rattle.reverse_core.specs.History.{overdue}
use Rattle.reverse_core.specs.Requests.{is_due}
use Rattle.reverse_core.specs.Ticking.{silences}
use Rattle.reverse_core.specs.Windows.{filled, IsSentBefore, Pairs}
use Rattle.reverse_core.proofs.QueueLemmas.{none-due}
use Rattle.reverse_core.proofs.ReplyLemmas.{no-silences, none-overdue}
use Rattle.reverse_core.proofs.ticking.push_queue.Goals as goal

pub returns-then-not-is_due-clause-outputs : goal.returns-then-not-is_due-clause-outputs
returns-then-not-is_due-clause-outputs c =
    let m = c.args.moment in
    let own = c.args.own.now in
    let inv = c.loop-slot.invariant in
    let later = c.next.new.self.head.now ++ c.next.new.self.wrapped.now in
    let rest = c.loop-slot.slot-iterator.head.now ++ c.loop-slot.slot-iterator.wrapped.now in
    let split : rest ≡ Some c.in-Some-slot.one ∷ later = c.in-Some.ensures.steps ∙ ap (λ (s : Option OpenRequest). s ∷ later) c.in-Some-slot.is in
    let rising = subst (λ l. Pairs IsSentBefore (filled l)) split inv.rising in
    let still : is_due m c.in-Some-slot.one.sent ≡ false = sym c.is_due.ensures ∙ c.if-not-is_due.true in
    let none : flat_map (overdue own m) (filled rest) ≡ [] =
    ap (λ l. flat_map (overdue own m) (filled l)) split
    ∙ none-overdue own m (c.in-Some-slot.one ∷ filled later) (still, none-due m c.in-Some-slot.one (filled later) still rising.0) in
    sym (append-nil c.loop-slot.overdue.outputs.items) ∙ ap (λ l. c.loop-slot.overdue.outputs.items ++ l) (sym none) ∙ inv.outputs

pub returns-then-not-is_due-clause-answers : goal.returns-then-not-is_due-clause-answers
returns-then-not-is_due-clause-answers c =
    let m = c.args.moment in
    let own = c.args.own.now in
    let inv = c.loop-slot.invariant in
    let later = c.next.new.self.head.now ++ c.next.new.self.wrapped.now in
    let rest = c.loop-slot.slot-iterator.head.now ++ c.loop-slot.slot-iterator.wrapped.now in
    let split : rest ≡ Some c.in-Some-slot.one ∷ later = c.in-Some.ensures.steps ∙ ap (λ (s : Option OpenRequest). s ∷ later) c.in-Some-slot.is in
    let rising = subst (λ l. Pairs IsSentBefore (filled l)) split inv.rising in
    let still : is_due m c.in-Some-slot.one.sent ≡ false = sym c.is_due.ensures ∙ c.if-not-is_due.true in
    let none : silences own m (filled rest) ≡ [] =
    ap (λ l. silences own m (filled l)) split
    ∙ no-silences own m (c.in-Some-slot.one ∷ filled later) (still, none-due m c.in-Some-slot.one (filled later) still rising.0) in
    sym (append-nil c.loop-slot.overdue.answers.items) ∙ ap (λ l. c.loop-slot.overdue.answers.items ++ l) (sym none) ∙ inv.answers
