use Rattle.agent_core.proofs.LawLemmas.LawOfReplies as lemmas
use Rattle.agent_core.proofs.laws.replies_are_the_same.Goals as goal

pub returns : goal.returns
returns c = lemmas.same
