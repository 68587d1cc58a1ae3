use Rattle.std.proofs.Common.{◌∙◌, ap, length, max}
use Rattle.pending_table.specs.Table as table
use Rattle.agent_core.specs.declared.ledger.Ledger.{Ledger}
use Rattle.agent_core.proofs.StandingLemmas.Observed.{waiting-seen}
use Rattle.agent_core.proofs.core_step.Core.waiting.Goals as goal

pub returns-clause-rule : goal.returns-clause-rule
returns-clause-rule c = λ history stands.
    c.waiting.ensures.exact
    ∙ ap (λ n. length (table.waiting c.ledger-ledger.result.now.table n)) c.max.ensures
    ∙ ap (λ (S : Ledger). length (table.waiting S.table (max S.moment c.args.moment))) c.ledger-ledger.ensures
    ∙ waiting-seen c.args.self.now history c.args.moment stands
