use Rattle.password_hiding.proofs.TrimLemmas.{zeros_back, last_is_other}
use Rattle.password_hiding.proofs.laws.zeros_at_the_end.Goals as goal

pub returns-clause-zeros : goal.returns-clause-zeros
returns-clause-zeros c = zeros_back

pub returns-clause-all : goal.returns-clause-all
returns-clause-all c = last_is_other
