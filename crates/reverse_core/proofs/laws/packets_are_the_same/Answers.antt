use Rattle.reverse_core.specs.Places.{takings}
use Rattle.reverse_core.specs.History.{past}
use Rattle.reverse_core.proofs.LawLemmas as lemmas
use Rattle.reverse_core.proofs.laws.packets_are_the_same.Goals as goal

pub returns : goal.returns
returns c = λ own history. lemmas.each-same own (past own history) (takings (past own history))
