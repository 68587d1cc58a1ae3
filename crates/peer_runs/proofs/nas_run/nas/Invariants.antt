use Rattle.std.proofs.Common.{◌≡◌, ◌-◌, ◌<◌, ◌≤◌}
use Rattle.text_lines.specs.Streams.{most_octets}
use Rattle.peer_runs.proofs.NasRunLemmas.{RunsOn}
use Rattle.peer_runs.proofs.nas_run.nas.Given as goal

abbrev pub invariant-loop-next : goal.invariant-loop-next
invariant-loop-next g l = record {
  runs : RunsOn l.place l.patience l.counts.lines (g.S.Source.left l.initial.input) l.lines (g.S.Source.left l.input) (g.K.Sink.written l.initial.output) (g.K.Sink.written l.output)
      (g.C.Clock.readings l.initial.clock) (g.C.Clock.readings l.clock) (g.D.Datagrams.told l.initial.socket) (g.D.Datagrams.told l.socket);
  row : l.counts.failures ≡ (g.D.Datagrams.told l.socket).row;
  few : l.counts.failures < 16;
  ends : g.S.Source.ends l.input ≡ g.S.Source.ends l.initial.input;
  reads : g.S.Source.faults l.input ≡ g.S.Source.faults l.initial.input;
  writes : g.K.Sink.faults l.initial.output ≤ g.K.Sink.faults l.output;
  faults : (g.D.Datagrams.told l.initial.socket).faults ≤ (g.D.Datagrams.told l.socket).faults;
}

abbrev pub decreases-loop-next : goal.decreases-loop-next
decreases-loop-next g l = most_octets - l.lines.held.passed
