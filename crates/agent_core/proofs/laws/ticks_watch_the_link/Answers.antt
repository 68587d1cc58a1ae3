use Rattle.agent_core.proofs.LawLemmas.LawOfWatches as lemmas
use Rattle.agent_core.proofs.laws.ticks_watch_the_link.Goals as goal

pub returns : goal.returns
returns c = lemmas.ticks_watch
