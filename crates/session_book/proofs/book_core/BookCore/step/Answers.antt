-- The ledger's step is the rule's, and the book stands for the history with the event.
use Rattle.std.proofs.Common.{◌≡◌, List, [], ◌∷◌, ◌++◌, ◌∙◌, ap, subst}
use Rattle.std.specs.Prelude.{IfOk, OnOk}
use Rattle.session_book.specs.Places.{BookEvent}
use Rattle.session_book.specs.Standing.{BookState, BookStandsFor}
use Rattle.session_book.specs.History.{book_outputs_after}
use Rattle.session_book.specs.State.{state_of}
use Rattle.session_book.proofs.Simulation.{answers-of, stands-of, config-of, book-of}
use Rattle.session_book.proofs.book_core.BookCore.step.Goals as goal

pub invariant_of-self : goal.invariant_of-self
invariant_of-self c =
    let e : BookEvent = record { moment = c.args.moment; input = c.args.input.now } in
    book-of c.step.result (state_of c.self.inside.ledger) (state_of c.step.new.self) e c.self.invariant c.step.ensures.ok c.step.ensures.err

pub returns-clause-answers : goal.returns-clause-answers
returns-clause-answers c =
    let e : BookEvent = record { moment = c.args.moment; input = c.args.input.now } in
    subst (λ (S : BookState). (H : List BookEvent) → BookStandsFor S H → IfOk c.step.result (λ o. o ≡ book_outputs_after S.core.config H e)) c.self.view_is
    (λ H s. answers-of c.step.result (state_of c.self.inside.ledger) (state_of c.step.new.self) H e s c.step.ensures.ok)

pub returns-clause-stands : goal.returns-clause-stands
returns-clause-stands c =
    let e : BookEvent = record { moment = c.args.moment; input = c.args.input.now } in
    subst (λ (S : BookState). (H : List BookEvent) → BookStandsFor S H → OnOk c.step.result (BookStandsFor (state_of c.step.new.self) (H ++ e ∷ []))) c.self.view_is
    (λ H s. stands-of c.step.result (state_of c.self.inside.ledger) (state_of c.step.new.self) H e s c.step.ensures.ok)

pub returns-clause-config : goal.returns-clause-config
returns-clause-config c =
    let e : BookEvent = record { moment = c.args.moment; input = c.args.input.now } in
    config-of c.step.result (state_of c.self.inside.ledger) (state_of c.step.new.self) e c.self.invariant c.step.ensures.ok c.step.ensures.err
    ∙ ap (λ (S : BookState). S.core.config) c.self.view_is
