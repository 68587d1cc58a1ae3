use Rattle.wire_core.proofs.CountLaws.{Rose-earlier}
use Rattle.text_commands.proofs.TaskLemmas.{completes}
use Rattle.journal.specs.Writing.{write_task}
use Rattle.journal.proofs.WriteLemmas.{titled-ends}
use Rattle.journal.proofs.writer.write_journal.Goals as goal

pub returns-in-Ok-clause-ends : goal.returns-in-Ok-clause-ends
returns-in-Ok-clause-ends g c = λ X told.
    titled-ends (g.W.Work.task c.args.work) c.args.key c.is_task.ensures c.run.result X _ _ _ _ c.in-Ok.ensures.done (c.run.ensures.ends X told)

pub returns-in-Ok-clause-complete : goal.returns-in-Ok-clause-complete
returns-in-Ok-clause-complete g c = λ X told sound short reads writes.
    completes (write_task (g.W.Work.task c.args.work) c.args.key) c.run.result X _ _ _ _ _ _ _ _ _ c.run.ensures.begun (c.run.ensures.ends X told) c.run.ensures.counts sound short reads
    (λ rose. writes (Rose-earlier _ _ _ c.in-Ok.ensures.faults_stay rose))
