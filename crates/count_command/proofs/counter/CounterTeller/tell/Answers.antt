use Rattle.std.proofs.Common.{◌∙◌}
use Rattle.transcript_runs.specs.Runs.{event_at}
use Rattle.count_command.proofs.CounterLemmas.{counts-on, counts-part}
use Rattle.count_command.proofs.counter.CounterTeller.tell.Goals as goal

pub add-requires : goal.add-requires
add-requires g c = c.config.ensures.limits.few

pub returns-in-Ok-add-clause-part : goal.returns-in-Ok-add-clause-part
returns-in-Ok-add-clause-part g c =
    counts-part c.args.core.now c.args.self.now c.args._number (event_at c.args.moment c.args.input.now) c.config.result.now c.as_slice-outputs.result.now
    c.in-Ok-answered.home_answer c.max-moment_so_far.result c.as_slice.result.now c.max-moment_so_far.ensures (c.config.ensures.value ∙ c.in-Ok-step.ensures.config)
    (λ H stands same. c.as_slice.ensures.value ∙ c.in-Ok.ensures H stands same) (λ H stands. c.as_slice-outputs.ensures ∙ c.in-Ok-step.ensures.answers H stands)
    (λ H stands. c.in-Ok-answered.ensures H stands)
    c.write_text.result (g.K.Sink.written c.args.sink.now) (g.K.Sink.written c.write_text.new.sink) c.write_text.ensures.done c.write_text.ensures.failed

pub returns-in-Ok-add-clause-runs : goal.returns-in-Ok-add-clause-runs
returns-in-Ok-add-clause-runs g c =
    counts-on c.args.core.now c.args.self.now c.args._number (event_at c.args.moment c.args.input.now) c.config.result.now c.as_slice-outputs.result.now
    c.in-Ok-answered.home_answer c.max-moment_so_far.result c.as_slice.result.now c.max-moment_so_far.ensures (c.config.ensures.value ∙ c.in-Ok-step.ensures.config)
    (λ H stands same. c.as_slice.ensures.value ∙ c.in-Ok.ensures H stands same) (λ H stands. c.as_slice-outputs.ensures ∙ c.in-Ok-step.ensures.answers H stands)
    (λ H stands. c.in-Ok-answered.ensures H stands)
    c.add.new.self c.in-Ok-add.ensures.moment c.in-Ok-add.ensures.first c.in-Ok-add.ensures.counts
    c.past_goes_on.ensures c.step.new.self c.write_text.result (g.K.Sink.written c.args.sink.now) (g.K.Sink.written c.write_text.new.sink)
    (λ H stands. c.in-Ok-step.ensures.stands H stands) c.in-Ok-step.ensures.config c.write_text.ensures.done
