use Rattle.agent_core.proofs.LawLemmas.LawOfAnswers as lemmas
use Rattle.agent_core.proofs.laws.home_requests_are_answered_once.Goals as goal

pub returns : goal.returns
returns c = lemmas.answered_once
