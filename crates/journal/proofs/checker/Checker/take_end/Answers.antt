use Rattle.std.proofs.Common.{ap, ◌∙◌}
use Rattle.journal.proofs.StepLemmas.{end-steps}
use Rattle.journal.proofs.checker.Checker.take_end.Goals as goal

pub returns : goal.returns
returns g c = λ lines seal at.
    let block = c.in-Ok-seal_block.ensures in
    end-steps g.W.Work.task g.W.Work.took c.take_due.result c.args.self.now (record c.args.self.now { due = c.behind.result }) c.take_due.new.self lines seal c.in-Ok.printed.written
    c.args.line.now at (c.in-Ok.ensures.prints lines at.works.0) (rw (c.as_slice.ensures, c.as_slice-given.ensures) at block.short)
    (ap (λ due. record c.args.self.now { due = due }) (rw (c.as_slice.ensures, c.as_slice-given.ensures) at (c.behind.ensures ∙ block.sealed.text)))
    c.take_due.ensures
