use Rattle.session_book.proofs.Spoken as lemmas
use Rattle.session_book.proofs.laws.outputs_are_said.Goals as goal

pub returns : goal.returns
returns c = λ config history e. lemmas.all-said config history e
