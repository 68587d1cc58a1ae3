use Rattle.std.proofs.Common.{◌∙◌, [], rules}
use Rattle.agent_core.proofs.StandingLemmas.Histories.{start-stands, start-roomy}
use Rattle.agent_core.proofs.core_step.Core.new.Goals as goal

pub invariant_of-result : goal.invariant_of-result
invariant_of-result c =
    rw (c.in_ok-boxed.ensures.ok ∙ c.in_ok-ledger.ensures) (record { limits = c.requires; boot = search rules; roomy = start-roomy c.args.config; history = []; stands = start-stands c.args.config; real = tt })
