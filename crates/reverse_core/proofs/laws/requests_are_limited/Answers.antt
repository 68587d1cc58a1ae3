use Rattle.reverse_core.specs.Places.{takings}
use Rattle.reverse_core.specs.History.{past}
use Rattle.reverse_core.proofs.LawLemmas as lemmas
use Rattle.reverse_core.proofs.laws.requests_are_limited.Goals as goal

pub returns : goal.returns
returns c = λ own history. lemmas.each-limited own history (takings (past own history))
