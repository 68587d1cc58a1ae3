use Rattle.reverse_core.proofs.Spoken as lemmas
use Rattle.reverse_core.proofs.laws.outputs_are_said.Goals as goal

pub returns : goal.returns
returns c = λ own history e. lemmas.all-said own history e
