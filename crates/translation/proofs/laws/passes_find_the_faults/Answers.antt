use Rattle.translation.proofs.FaultLemmas.{faults_in-fold, reason_of_faults_in}
use Rattle.translation.proofs.laws.passes_find_the_faults.Goals as goal

pub returns : goal.returns
returns c = λ client source direction all. (faults_in-fold client source direction all, reason_of_faults_in client source direction all)
