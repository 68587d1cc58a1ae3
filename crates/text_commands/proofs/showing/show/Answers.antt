use Rattle.text_commands.specs.Shown.{show_task}
use Rattle.text_commands.proofs.TaskLemmas.{completes}
use Rattle.text_commands.proofs.showing.show.Goals as goal

pub returns-clause-complete : goal.returns-clause-complete
returns-clause-complete g c = λ X told sound short reads writes.
    completes show_task c.run.result X _ _ _ _ _ _ _ _ _ c.run.ensures.begun (c.run.ensures.ends X told) c.run.ensures.counts sound short reads writes
