use Rattle.std.proofs.Common.{Err, ap}
use Rattle.replay_command.proofs.MeasureLemmas.{on-line, only-memory}
use Rattle.replay_command.proofs.measuring.replay_all.Goals as goal

pub returns-in-Err-take-clause-memory : goal.returns-in-Err-take-clause-memory
returns-in-Err-take-clause-memory c =
    let next = rw c.in-Ok-Some.field-0-is at c.in-Ok-Some.ensures.line in
    let works = rw c.as_slice.ensures at (c.in-Err-take.ensures.works c.loop-line.invariant.done c.loop-line.invariant.replays) in
    only-memory c.in-Err-take.status c.loop-line.work c.args.lines.now c.loop-line.lines c.next_line.new.self c.in-Ok-Some.line _ _ c.requires.sound
    c.loop-line.invariant next (λ e. c.in-Err-take.ensures.fault (ap (λ s. Err s) e)) works

pub loop-line-preserved : goal.loop-line-preserved
loop-line-preserved c =
    let next = rw c.in-Ok-Some.field-0-is at c.in-Ok-Some.ensures.line in
    let works = rw c.as_slice.ensures at (c.in-Ok-take.ensures.works c.loop-line.invariant.done c.loop-line.invariant.replays) in
    on-line c.loop-line.work c.take.new.self c.args.lines.now c.loop-line.lines c.next_line.new.self c.in-Ok-Some.line c.loop-line.invariant next works.0
