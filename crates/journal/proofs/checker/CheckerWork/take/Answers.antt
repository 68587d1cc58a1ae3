use Rattle.std.proofs.Common.{[], refl}
use Rattle.wire_core.proofs.SinkLaws.{Appends-none}
use Rattle.journal.proofs.StepLemmas.{has-bad, has-next}
use Rattle.journal.proofs.checker.CheckerWork.take.Goals as goal

pub returns-in-Ok-clause-works : goal.returns-in-Ok-clause-works
returns-in-Ok-clause-works g c = λ lines has.
    let (checked, adds) = has-next g.W.Work.task g.W.Work.took c.args.self.now c.step.new.self lines c.args.line.now c.number-number.result has (c.in-Ok.ensures _ has.at) c.number-number.ensures in
    (checked, ([], adds, Appends-none _))

pub returns-in-Err-Bad-clause-works : goal.returns-in-Err-Bad-clause-works
returns-in-Err-Bad-clause-works g c = λ lines has.
    (has-bad g.W.Work.task g.W.Work.took c.args.self.now c.step.new.self lines c.args.line.now c.number-number.result c.in-Err-Bad.reason has (rw c.in-Err-Bad.field-0-is at (c.in-Err-Bad.ensures _ has.at)) c.number-number.ensures, refl)
