use Rattle.agent_core.proofs.LawLemmas.LawOfCounts as lemmas
use Rattle.agent_core.proofs.laws.outputs_are_few.Goals as goal

pub returns : goal.returns
returns c = lemmas.outputs_are_few
