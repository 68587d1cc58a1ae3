use Rattle.std.proofs.Common.{◌∙◌, ap, sym, subst}
use Rattle.agent_core.specs.declared.ledger.Ledger.{Ledger}
use Rattle.agent_core.specs.Promise.{IsCore}
use Rattle.agent_core.proofs.core_step.Core.config.Goals as goal

pub returns-clause-value : goal.returns-clause-value
returns-clause-value c = ap (λ (S : Ledger). S.config) (c.deref-ledger.ensures ∙ c.self.view_is)

pub returns-clause-limits : goal.returns-clause-limits
returns-clause-limits c =
    let core : IsCore c.deref-ledger.result.now = subst IsCore (sym c.deref-ledger.ensures) c.self.invariant in
    core.limits
