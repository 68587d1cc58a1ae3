use Rattle.agent_core.proofs.LawLemmas.LawOfReach as lemmas
use Rattle.agent_core.proofs.laws.requests_reach_over_links.Goals as goal

pub returns : goal.returns
returns c = lemmas.reach
