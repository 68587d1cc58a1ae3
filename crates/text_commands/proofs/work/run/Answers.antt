use Rattle.text_commands.proofs.TaskLemmas.{closes-known, ends-all, ends-more, nothing-done}
use Rattle.text_commands.proofs.work.run.Goals as goal

pub returns-in_default-clause-ends : goal.returns-in_default-clause-ends
returns-in_default-clause-ends g c = λ X told. nothing-done (g.W.Work.task c.args.work.now) (g.W.Work.took c.args.work.now) c.is_task.ensures _ _ X told

pub returns-in-Ok-true-clause-ends : goal.returns-in-Ok-true-clause-ends
returns-in-Ok-true-clause-ends g c = λ X told.
    ends-more (g.W.Work.task c.args.work.now) (g.W.Work.took c.take_lines.new.work) c.is_task.ensures _ c.finish.result X c.take_lines.new.lines.line told
    (rw c.in-Ok-true.field-0-test at c.in-Ok-true.ensures.takes)
    (λ lines taken. rw (c.in-Ok-true.ensures.same, c.line.ensures) at (c.finish.ensures.finishes lines taken))

pub returns-in-Ok-false-clause-ends : goal.returns-in-Ok-false-clause-ends
returns-in-Ok-false-clause-ends g c = λ X told.
    ends-all (g.W.Work.task c.args.work.now) (g.W.Work.took c.take_lines.new.work) c.is_task.ensures _ c.close.result X c.take_lines.new.lines.line told
    (rw c.in-Ok-false.field-0-test at c.in-Ok-false.ensures.takes)
    (λ lines taken. rw c.in-Ok-false.ensures.same at (c.close.ensures.closes lines taken))

pub returns-in-Ok-false-clause-known : goal.returns-in-Ok-false-clause-known
returns-in-Ok-false-clause-known g c =
    let takes = rw c.in-Ok-false.field-0-test at c.in-Ok-false.ensures.takes in
    closes-known (g.W.Work.task c.take_lines.new.work) c.close.result takes.lines _ _ (c.close.ensures.closes takes.lines takes.taken)
