use Rattle.reverse_core.proofs.AnswerLemmas as lemmas
use Rattle.reverse_core.proofs.laws.answers_differ_in_the_hop.Goals as goal

pub returns : goal.returns
returns c = λ own history. lemmas.each-alike own history
