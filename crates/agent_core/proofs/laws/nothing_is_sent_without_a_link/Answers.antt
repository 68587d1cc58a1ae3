use Rattle.agent_core.proofs.LawLemmas.LawOfLinks as lemmas
use Rattle.agent_core.proofs.laws.nothing_is_sent_without_a_link.Goals as goal

pub returns : goal.returns
returns c = lemmas.nothing_without
