-- The ledger's step is the rule's, and the core stands for the history with the event.
use Rattle.std.proofs.Common.{◌≡◌, List, [], ◌∷◌, ◌++◌, subst}
use Rattle.std.specs.Prelude.{IfOk, OnOk}
use Rattle.reverse_core.specs.Places.{ReverseEvent}
use Rattle.reverse_core.specs.History.{outputs_after}
use Rattle.reverse_core.specs.Standing.{ReverseState, ReverseStandsFor}
use Rattle.reverse_core.specs.State.{state_of}
use Rattle.reverse_core.proofs.Simulation.{answers-of, stands-of}
use Rattle.reverse_core.proofs.core_step.ReverseCore.step.Goals as goal

pub returns-clause-answers : goal.returns-clause-answers
returns-clause-answers c =
    let e : ReverseEvent = record { moment = c.args.moment; input = c.args.input.now } in
    subst (λ (S : ReverseState). (H : List ReverseEvent) → ReverseStandsFor S H → IfOk c.step.result (λ o. o ≡ outputs_after S.own H e)) c.self.view_is
    (λ H s. answers-of c.step.result (state_of c.self.inside.ledger) (state_of c.step.new.self) H e s c.step.ensures.ok)

pub returns-clause-stands : goal.returns-clause-stands
returns-clause-stands c =
    let e : ReverseEvent = record { moment = c.args.moment; input = c.args.input.now } in
    subst (λ (S : ReverseState). (H : List ReverseEvent) → ReverseStandsFor S H → OnOk c.step.result (ReverseStandsFor (state_of c.step.new.self) (H ++ e ∷ []))) c.self.view_is
    (λ H s. stands-of c.step.result (state_of c.self.inside.ledger) (state_of c.step.new.self) H e s c.step.ensures.ok)
