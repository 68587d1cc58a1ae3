use Rattle.agent_core.proofs.LawLemmas.LawOfNumbers as lemmas
use Rattle.agent_core.proofs.laws.requests_are_numbered.Goals as goal

pub returns : goal.returns
returns c = lemmas.numbers
