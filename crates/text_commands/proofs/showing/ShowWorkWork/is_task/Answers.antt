use Rattle.text_commands.proofs.ShowLemmas as show
use Rattle.text_commands.proofs.showing.ShowWorkWork.is_task.Goals as goal

pub returns : goal.returns
returns c = show.is-task
