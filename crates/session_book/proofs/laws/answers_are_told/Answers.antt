use Rattle.session_book.proofs.LawLemmas as lemmas
use Rattle.session_book.proofs.laws.answers_are_told.Goals as goal

pub returns : goal.returns
returns c = λ config history e a ended. lemmas.told config history e a ended
