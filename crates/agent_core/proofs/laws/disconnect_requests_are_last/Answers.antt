use Rattle.agent_core.proofs.LawLemmas.LawOfLinks as lemmas
use Rattle.agent_core.proofs.laws.disconnect_requests_are_last.Goals as goal

pub returns : goal.returns
returns c = lemmas.disconnect_is_last
