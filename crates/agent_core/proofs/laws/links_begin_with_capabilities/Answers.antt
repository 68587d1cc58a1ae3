use Rattle.agent_core.proofs.LawLemmas.LawOfLinks as lemmas
use Rattle.agent_core.proofs.laws.links_begin_with_capabilities.Goals as goal

pub returns : goal.returns
returns c = lemmas.greeted
