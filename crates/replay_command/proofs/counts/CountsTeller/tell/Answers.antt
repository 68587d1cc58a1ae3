-- The core's step is the rule's, its outputs are printed and counted.
use Rattle.std.proofs.Common.{◌∙◌}
use Rattle.transcript_runs.specs.Runs.{event_at}
use Rattle.replay_command.proofs.CountLemmas.{prints-part, runs-on}
use Rattle.replay_command.proofs.counts.CountsTeller.tell.Goals as goal

pub returns-in-Ok-write_outputs-clause-runs : goal.returns-in-Ok-write_outputs-clause-runs
returns-in-Ok-write_outputs-clause-runs g c =
    runs-on c.past_goes_on.ensures c.args.core.now c.step.new.self c.args.self.now c.add.new.self c.args.number
    (event_at c.args.moment c.args.input.now) c.as_slice-outputs.result.now (g.K.Sink.written c.args.sink.now) (g.K.Sink.written c.write_outputs.new.sink)
    (λ H stands. c.as_slice-outputs.ensures ∙ c.in-Ok.ensures.answers H stands) (λ H stands. c.in-Ok.ensures.stands H stands)
    c.in-Ok.ensures.config c.add.ensures c.in-Ok-write_outputs.ensures.written

pub returns-in-Ok-write_outputs-clause-part : goal.returns-in-Ok-write_outputs-clause-part
returns-in-Ok-write_outputs-clause-part g c =
    prints-part c.args.core.now c.args.self.now c.args.number (event_at c.args.moment c.args.input.now) c.as_slice-outputs.result.now
    (g.K.Sink.written c.args.sink.now) (g.K.Sink.written c.write_outputs.new.sink)
    (λ H stands. c.as_slice-outputs.ensures ∙ c.in-Ok.ensures.answers H stands) c.in-Ok-write_outputs.ensures.part
