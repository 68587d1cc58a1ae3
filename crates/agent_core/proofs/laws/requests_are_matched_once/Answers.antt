use Rattle.agent_core.proofs.LawLemmas.LawOfMatches as lemmas
use Rattle.agent_core.proofs.laws.requests_are_matched_once.Goals as goal

pub returns : goal.returns
returns c = lemmas.once
