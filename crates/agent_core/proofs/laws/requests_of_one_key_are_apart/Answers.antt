use Rattle.agent_core.proofs.LawLemmas.LawOfKeys as lemmas
use Rattle.agent_core.proofs.laws.requests_of_one_key_are_apart.Goals as goal

pub returns : goal.returns
returns c = lemmas.apart
