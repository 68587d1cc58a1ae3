use Rattle.reverse_script.specs.Printed.{reverse_task}
use Rattle.text_commands.proofs.TaskLemmas.{completes}
use Rattle.reverse_script.proofs.command.reverse.Goals as goal

pub returns-clause-complete : goal.returns-clause-complete
returns-clause-complete g c = λ X told sound short reads writes.
    completes reverse_task c.run.result X _ _ _ _ _ _ _ _ _ c.run.ensures.begun (c.run.ensures.ends X told) c.run.ensures.counts sound short reads writes
