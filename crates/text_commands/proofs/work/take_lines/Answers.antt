use Rattle.std.proofs.Common.{Err, ap, ◌∙◌}
use Rattle.wire_core.specs.Counts.{one_more}
use Rattle.wire_core.proofs.CountLaws.{Rose-one_more}
use Rattle.text_commands.proofs.TaskLemmas.{behind-end, behind-last, status-counts, status-known, stops-fault, stops-line, works-known}
use Rattle.text_lines.specs.Streams.{rest_of}
use Rattle.text_commands.proofs.work.take_lines.Goals as goal

pub take-requires : goal.take-requires
take-requires g c = (c.loop-work.invariant.goes.lines, c.loop-work.invariant.goes.taken)

pub returns-in-Err-take-clause-takes : goal.returns-in-Err-take-clause-takes
returns-in-Err-take-clause-takes g c =
    let takes = rw c.in-Ok-Line.field-0-is at c.in-Ok-Line.ensures.line in
    stops-line (g.W.Work.task c.args.work.now) (g.W.Work.took c.loop-work.work) c.is_task.ensures _ _ c.in-Err-take.status c.loop-work.lines c.next_line.new.self _ _ c.loop-work.invariant.goes takes
    c.in-Ok-Line.ensures.unended c.in-Ok-Line.ensures.within (λ lines taken. rw (c.line.ensures, c.loop-work.invariant.same) at (c.in-Err-take.ensures.works lines taken))

pub returns-in-Ok-LastLine-clause-takes : goal.returns-in-Ok-LastLine-clause-takes
returns-in-Ok-LastLine-clause-takes g c =
    let takes = rw c.in-Ok-LastLine.field-0-is at c.in-Ok-LastLine.ensures.line in (
      behind-last (g.W.Work.task c.args.work.now) (g.W.Work.took c.loop-work.work) c.is_task.ensures c.loop-work.lines c.next_line.new.self _ _ c.loop-work.invariant.goes takes c.in-Ok-LastLine.ensures.within,
      c.in-Ok-LastLine.ensures.unended,
      takes.2,
    )

pub returns-in-Ok-End-clause-takes : goal.returns-in-Ok-End-clause-takes
returns-in-Ok-End-clause-takes g c =
    let takes = rw c.in-Ok-End.field-0-is at c.in-Ok-End.ensures.line in
    behind-end (g.W.Work.task c.args.work.now) (g.W.Work.took c.loop-work.work) c.is_task.ensures c.loop-work.lines c.next_line.new.self _ _ c.loop-work.invariant.goes takes c.in-Ok-End.ensures.within

pub returns-in-Err-clause-takes : goal.returns-in-Err-clause-takes
returns-in-Err-clause-takes g c =
    stops-fault (g.W.Work.task c.args.work.now) (g.W.Work.took c.loop-work.work) c.is_task.ensures _ c.in-Err.fault c.fault_status.result c.loop-work.lines c.next_line.new.self _ _ c.loop-work.invariant.goes c.in-Err.ensures.fault (rw c.loop-work.invariant.same at c.fault_status.ensures)

pub returns-in-Err-clause-counts : goal.returns-in-Err-clause-counts
returns-in-Err-clause-counts g c =
    let goes = c.loop-work.invariant.goes in
    let more = c.in-Err.ensures.counts_faults in
    status-counts (g.W.Work.task c.args.work.now) (g.W.Work.took c.loop-work.work) c.in-Err.fault c.fault_status.result goes.lines (rest_of c.loop-work.lines (g.S.Source.left c.loop-work.input)) (g.S.Source.left c.next_line.new.source) c.loop-work.lines c.next_line.new.self goes.limit goes.taken c.in-Err.ensures.fault (rw c.loop-work.invariant.same at c.fault_status.ensures)
    _ _ _ _ _ _ (λ read. Rose-one_more _ _ (more.rises (ap (λ f. Err f) read) ∙ ap (λ n. one_more n) c.loop-work.invariant.reads))

pub returns-in-Err-take-clause-known : goal.returns-in-Err-take-clause-known
returns-in-Err-take-clause-known g c =
    let goes = c.loop-work.invariant.goes in
    works-known (g.W.Work.task c.loop-work.work) c.in-Err-take.status goes.lines _ _ _ (c.in-Err-take.ensures.works goes.lines goes.taken)

pub returns-in-Err-clause-known : goal.returns-in-Err-clause-known
returns-in-Err-clause-known g c =
    let goes = c.loop-work.invariant.goes in
    status-known (g.W.Work.task c.args.work.now) (g.W.Work.took c.loop-work.work) c.in-Err.fault c.fault_status.result goes.lines (rest_of c.loop-work.lines (g.S.Source.left c.loop-work.input)) (g.S.Source.left c.next_line.new.source) c.loop-work.lines c.next_line.new.self goes.limit goes.taken c.in-Err.ensures.fault (rw c.loop-work.invariant.same at c.fault_status.ensures)
