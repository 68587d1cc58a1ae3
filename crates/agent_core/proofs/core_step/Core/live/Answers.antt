use Rattle.std.proofs.Common.{◌∙◌, ap, length, max}
use Rattle.pending_table.specs.Table as table
use Rattle.agent_core.specs.declared.ledger.Ledger.{Ledger}
use Rattle.agent_core.proofs.StandingLemmas.Observed.{live-seen}
use Rattle.agent_core.proofs.core_step.Core.live.Goals as goal

pub returns-clause-rule : goal.returns-clause-rule
returns-clause-rule c = λ history stands.
    c.len.ensures.exact
    ∙ ap (λ n. length (table.live c.ledger-ledger.result.now.table n)) c.max.ensures
    ∙ ap (λ (S : Ledger). length (table.live S.table (max S.moment c.args.moment))) c.ledger-ledger.ensures
    ∙ live-seen c.args.self.now history c.args.moment stands
