use Rattle.session_book.specs.Places.{opened}
use Rattle.session_book.specs.History.{past}
use Rattle.session_book.proofs.LawLemmas as lemmas
use Rattle.session_book.proofs.laws.aborts_are_limited.Goals as goal

pub returns : goal.returns
returns c = λ config history. lemmas.each-limited config history (opened (past config history))
