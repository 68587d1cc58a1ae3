use Rattle.reverse_core.specs.History.{past}
use Rattle.reverse_core.proofs.LawLemmas as lemmas
use Rattle.reverse_core.proofs.laws.packets_are_images.Goals as goal

pub returns : goal.returns
returns c = λ own history e t is. lemmas.images own (past own history) e t is
