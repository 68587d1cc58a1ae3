use Rattle.agent_core.proofs.LawLemmas.LawOfMatches as lemmas
use Rattle.agent_core.proofs.laws.answers_settle.Goals as goal

pub returns : goal.returns
returns c = lemmas.settled
