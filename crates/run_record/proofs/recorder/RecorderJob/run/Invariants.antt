use Rattle.std.proofs.Common.{◌≡◌}
use Rattle.turnstile.specs.Passes.{known, table_of}
use Rattle.run_record.specs.Recordings.{Records}
use Rattle.run_record.proofs.recorder.RecorderJob.run.Given as goal

abbrev pub invariant-loop : goal.invariant-loop
invariant-loop g l =
    (table_of l.pass ≡ table_of l.initial.pass)
    × Records g.E.EntryWriter.stands g.E.EntryWriter.faults (known l.initial.pass) (known l.pass) l.initial.writer l.writer
