use Rattle.std.proofs.Common.{ap, sym, ◌∙◌, subst}
use Rattle.wire_core.specs.Counts.{one_more}
use Rattle.text_commands.specs.Tasks.{IsTask}
use Rattle.journal.specs.Stands.{HasChecked}
use Rattle.journal.proofs.VerdictLemmas.{judges-all, judges-more, judges-not, same-verdict}
use Rattle.journal.proofs.verdict.judge.Goals as goal

pub returns-in-Ok-true-clause-judges : goal.returns-in-Ok-true-clause-judges
returns-in-Ok-true-clause-judges g c = λ X told.
    let (work, key, none) = c.new-checker.ensures.given in
    rw (work, key) at
    (judges-more (g.W.Work.task c.new-checker.result.work) (subst (λ w. IsTask (g.W.Work.task w)) (sym work) c.is_task.ensures) c.new-checker.result.key _ _ _ X
    c.take_lines.new.lines.line c.number.result told (rw c.in-Ok-true.field-0-test at c.in-Ok-true.ensures.takes) (λ lines has. c.number.ensures ∙ ap one_more has.counted))

pub returns-in-Ok-false-clause-judges : goal.returns-in-Ok-false-clause-judges
returns-in-Ok-false-clause-judges g c = λ X told.
    let (work, key, none) = c.new-checker.ensures.given in
    let law = subst (λ w. IsTask (g.W.Work.task w)) (sym work) c.is_task.ensures in
    rw (work, key) at
    (judges-all (g.W.Work.task c.new-checker.result.work) law c.new-checker.result.key _ _ _ X
    c.take_lines.new.lines.line c.verdict.result told (rw c.in-Ok-false.field-0-test at c.in-Ok-false.ensures.takes) (λ lines has.
    rw has.counted at (c.verdict.ensures _ has.at) ∙ same-verdict (g.W.Work.task c.new-checker.result.work) law c.new-checker.result.key
    (g.W.Work.task c.take_lines.new.work.work) c.take_lines.new.work.key lines c.in-Ok-false.ensures.same))

pub returns-clause-judges : goal.returns-clause-judges
returns-clause-judges g c = λ X told.
    let (work, key, none) = c.new-checker.ensures.given in
    let law = subst (λ w. IsTask (g.W.Work.task w)) (sym work) c.is_task.ensures in
    rw c.verdict_of.ensures
    (rw (work, key) at
    (judges-not (g.W.Work.task c.new-checker.result.work) law c.new-checker.result.key (HasChecked g.W.Work.task g.W.Work.took c.take_lines.new.work) _ _ _ X
    c.take_lines.new.lines.line c.in-Err.status _ _ _ _ told c.in-Err.ensures.takes c.in-Err.ensures.counts))
