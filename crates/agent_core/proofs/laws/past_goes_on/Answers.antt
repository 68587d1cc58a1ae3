-- By induction on the history.
use Rattle.std.proofs.Common.{[]}
use Rattle.agent_core.proofs.StandingLemmas.Histories.{places-append}
use Rattle.agent_core.proofs.laws.past_goes_on.Goals as goal

pub returns : goal.returns
returns c = λ config history e. places-append config [] history e
