-- What is steady is so at a later moment.
use Rattle.std.proofs.Common.{◌≡◌, ℕ, max, sym, subst}
use Rattle.agent_core.specs.Standing.{IsSteady}
use Rattle.agent_core.proofs.StandingLemmas.Later.{steady-later}
use Rattle.agent_core.proofs.ledger.Ledger.step.Goals as goal

pub act-requires : goal.act-requires
act-requires c =
    let S = c.args.self.now in
    let later : c.max-self.result ≡ max S.moment c.args.moment = c.max-self.ensures in
    subst (λ (m : ℕ). IsSteady (record S { moment = m })) (sym later) (steady-later S c.args.moment c.requires)
