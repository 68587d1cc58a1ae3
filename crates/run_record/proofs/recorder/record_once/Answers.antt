use Rattle.std.proofs.Common.{◌++◌, subst}
use Rattle.turnstile.specs.Passes.{known}
use Rattle.run_record.proofs.RecordingLemmas.{records-stop}
use Rattle.run_record.proofs.recorder.record_once.Goals as goal

pub returns-then-eq-clause-records : goal.returns-then-eq-clause-records
returns-then-eq-clause-records g c =
    let stands = g.E.EntryWriter.stands in
    records-stop stands g.E.EntryWriter.faults _ c.ask-entries.result c.ask.result c.in-Some.moment (known c.args.pass.now) (known c.ask-entries.new.pass) (known c.ask.new.pass)
    c.args.writer.now c.write.new.self c.ask-entries.ensures.asked c.ask.ensures.asked
    (λ base es stood. subst (λ xs. stands c.write.new.self base (es ++ xs)) c.as_slice-in-Some.ensures (c.write.ensures.wrote base es stood))
