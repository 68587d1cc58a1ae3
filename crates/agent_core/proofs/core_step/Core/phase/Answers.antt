use Rattle.std.proofs.Common.{◌∙◌, ap}
use Rattle.agent_core.specs.declared.ledger.Ledger.{Ledger}
use Rattle.agent_core.proofs.StandingLemmas.Agreeing.{phase-agrees}
use Rattle.agent_core.proofs.core_step.Core.phase.Goals as goal

pub returns-clause-rule : goal.returns-clause-rule
returns-clause-rule c = λ history stands.
    c.phase.ensures ∙ ap (λ (S : Ledger). S.peer.link.phase) c.ledger.ensures ∙ phase-agrees _ _ c.args.self.now stands
