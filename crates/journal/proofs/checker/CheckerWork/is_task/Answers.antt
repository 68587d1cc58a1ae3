use Rattle.journal.proofs.TaskLemmas.{check-is-task}
use Rattle.journal.proofs.checker.CheckerWork.is_task.Goals as goal

pub returns : goal.returns
returns g c = check-is-task (g.W.Work.task c.args.self.now.work) c.args.self.now.key
