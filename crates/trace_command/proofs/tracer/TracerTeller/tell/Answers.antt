use Rattle.std.proofs.Common.{◌∙◌, ap, sym}
use Rattle.transcript_runs.specs.Runs.{event_at}
use Rattle.trace_command.specs.Trace.{cause_in as cause_of_answered}
use Rattle.trace_command.proofs.TraceLemmas.{traces-on, traces-part}
use Rattle.trace_command.proofs.tracer.TracerTeller.tell.Goals as goal

pub returns-in-Ok-traced-clause-part : goal.returns-in-Ok-traced-clause-part
returns-in-Ok-traced-clause-part g c =
    traces-part c.args.core.now c.args.self.now c.args.number (event_at c.args.moment c.args.input.now) c.as_slice.result.now c.cause_in-cause.result c.as_slice-in-Ok-traced.result.now
    (λ H stands. c.as_slice.ensures ∙ c.in-Ok-step.ensures.answers H stands) (λ H stands. c.cause_in-cause.ensures ∙ ap cause_of_answered (c.in-Ok.ensures H stands))
    (c.as_slice-in-Ok-traced.ensures.value ∙ c.in-Ok-traced.ensures)
    c.write_text.result (g.K.Sink.written c.args.sink.now) (g.K.Sink.written c.write_text.new.sink) c.write_text.ensures.done c.write_text.ensures.failed

pub returns-in-Ok-traced-clause-runs : goal.returns-in-Ok-traced-clause-runs
returns-in-Ok-traced-clause-runs g c =
    traces-on c.args.core.now c.args.self.now c.args.number (event_at c.args.moment c.args.input.now) c.as_slice.result.now c.cause_in-cause.result c.as_slice-in-Ok-traced.result.now
    (λ H stands. c.as_slice.ensures ∙ c.in-Ok-step.ensures.answers H stands) (λ H stands. c.cause_in-cause.ensures ∙ ap cause_of_answered (c.in-Ok.ensures H stands))
    (c.as_slice-in-Ok-traced.ensures.value ∙ c.in-Ok-traced.ensures)
    c.past_goes_on.ensures c.step.new.self c.args.self.now
    c.write_text.result (g.K.Sink.written c.args.sink.now) (g.K.Sink.written c.write_text.new.sink)
    (λ H stands. c.in-Ok-step.ensures.stands H stands) c.in-Ok-step.ensures.config c.write_text.ensures.done
