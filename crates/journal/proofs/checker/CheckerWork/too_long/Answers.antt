use Rattle.std.proofs.Common.{Err, Some, ap, ◌∙◌, sym}
use Rattle.wire_core.specs.Counts.{one_more}
use Rattle.journal.specs.Checking.{Checked}
use Rattle.journal.proofs.TaskLemmas.{long-step, next-line}
use Rattle.journal.proofs.checker.CheckerWork.too_long.Goals as goal

pub returns : goal.returns
returns g c = λ lines octets has long.
    let task = g.W.Work.task c.args.self.now.work in
    let key = c.args.self.now.key in
    ap (λ (c : Checked). c.stop) (next-line task key lines octets (Err 1) has.sound (long-step task key _ octets has.is_short has.at.short long))
    ∙ ap (λ n. Some (record { line = n; reason = 1 })) (sym (c.number.ensures ∙ ap one_more has.counted))
