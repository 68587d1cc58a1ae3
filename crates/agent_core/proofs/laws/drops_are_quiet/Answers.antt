use Rattle.agent_core.proofs.LawLemmas.LawOfDrops as lemmas
use Rattle.agent_core.proofs.laws.drops_are_quiet.Goals as goal

pub returns : goal.returns
returns c = lemmas.quiet
