use Rattle.journal.proofs.TaskLemmas.{write-is-task}
use Rattle.journal.proofs.writer.WriterWork.is_task.Goals as goal

pub returns : goal.returns
returns g c = write-is-task (g.W.Work.task c.args.self.now.work) c.args.self.now.key c.is_task.ensures
