use Rattle.reverse_script.proofs.StepLemmas as step
use Rattle.reverse_script.proofs.work.ReverseWorkWork.is_task.Goals as goal

pub returns : goal.returns
returns c = step.is-task
