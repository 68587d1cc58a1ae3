use Rattle.std.proofs.Common.{◌∙◌, ap}
use Rattle.agent_core.specs.declared.ledger.Ledger.{Ledger}
use Rattle.agent_core.proofs.core_step.Core.outbox.Goals as goal

pub returns-clause-rule : goal.returns-clause-rule
returns-clause-rule c = λ history stands. ap (λ (S : Ledger). S.outbox) c.ledger.ensures ∙ stands.outbox
