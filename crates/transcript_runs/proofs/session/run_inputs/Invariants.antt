use Rattle.std.proofs.Common.{◌≡◌, ◌≤◌, List, drop}
use Rattle.agent_settings.specs.declared.config.Config.{Config}
use Rattle.agent_core.specs.Places.{Place}
use Rattle.transcript_runs.specs.Sessions.{RunsAt}
use Rattle.transcript_runs.proofs.SessionLemmas.{InRun}
use Rattle.transcript_runs.proofs.session.run_inputs.Given as goal

-- the inputs so far were run, and what is told of them was written
abbrev pub invariant-loop-input : goal.invariant-loop-input
invariant-loop-input g l = record {
  same : g.T.Teller.telling l.teller ≡ g.T.Teller.telling l.initial.teller;
  runs : (config : Config) (ps : List Place) → RunsAt g.T.Teller.told l.initial.core l.initial.teller config ps
      → InRun g.T.Teller.told (g.T.Teller.telling l.initial.teller) l.core l.teller config ps l.number l.moment l.inputs (drop l.input-index l.inputs)
      (g.K.Sink.written l.initial.sink) (g.K.Sink.written l.sink);
  faults : g.K.Sink.faults l.initial.sink ≤ g.K.Sink.faults l.sink;
}
