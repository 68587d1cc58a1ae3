use Rattle.agent_core.proofs.LawLemmas.LawOfImages as lemmas
use Rattle.agent_core.proofs.laws.sends_are_images.Goals as goal

pub returns : goal.returns
returns c = lemmas.image
