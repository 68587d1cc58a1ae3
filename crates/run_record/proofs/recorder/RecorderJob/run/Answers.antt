use Rattle.std.proofs.Common.{refl, sym, ◌∙◌}
use Rattle.turnstile.specs.Passes.{known}
use Rattle.run_record.proofs.RecordingLemmas.{all-taken, nothing-put, records-none, records-on, sound-taken}
use Rattle.run_record.proofs.recorder.RecorderJob.run.Goals as goal

pub loop-init : goal.loop-init
loop-init g c = (refl, records-none g.E.EntryWriter.stands g.E.EntryWriter.faults (known c.args.self.pass) c.args.self.writer)

pub record_once-requires : goal.record_once-requires
record_once-requires g c = c.loop.invariant.0 ∙ c.requires.table ∙ sym c.deref.ensures

pub loop-preserved : goal.loop-preserved
loop-preserved g c = (
  c.record_once.ensures.table ∙ c.loop.invariant.0,
  records-on g.E.EntryWriter.stands g.E.EntryWriter.faults (known c.args.self.pass) (known c.loop.pass) (known c.record_once.new.pass) c.args.self.writer c.loop.writer c.record_once.new.writer
      c.loop.invariant.1 c.record_once.ensures.records,
)

pub returns-in-None-record_once : goal.returns-in-None-record_once
returns-in-None-record_once g c =
    let stands = g.E.EntryWriter.stands in
    let faults = g.E.EntryWriter.faults in
    let k = known c.args.self.pass in
    let l = known c.record_once.new.pass in
    let w = c.args.self.writer in
    let v = c.record_once.new.writer in
    let all = records-on stands faults k (known c.loop.pass) l w c.loop.writer v c.loop.invariant.1 c.record_once.ensures.records in
    record {
      spent = record {
        table = c.record_once.ensures.table ∙ c.loop.invariant.0;
        numbers = all.numbers ∙ c.requires.numbers;
        puts = nothing-put stands faults k l w v c.requires.numbers c.requires.unused all;
      };
      all = all-taken stands faults k l w v c.requires.numbers c.requires.unused all;
      sound = sound-taken stands faults k l w v c.requires.numbers c.requires.unused all;
    }
