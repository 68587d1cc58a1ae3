use Rattle.agent_core.proofs.LawLemmas.LawOfSilence as lemmas
use Rattle.agent_core.proofs.laws.silent_links_close.Goals as goal

pub returns : goal.returns
returns c = lemmas.silent_links
