use Rattle.std.proofs.Common.{◌≡◌, ◌-◌, ◌≤◌}
use Rattle.text_commands.proofs.TaskLemmas.{Goes}
use Rattle.text_lines.specs.Streams.{most_octets}
use Rattle.text_commands.proofs.work.take_lines.Given as goal

abbrev pub invariant-loop-work : goal.invariant-loop-work
invariant-loop-work g l = record {
  same : g.W.Work.task l.work ≡ g.W.Work.task l.initial.work;
  goes : Goes (g.W.Work.task l.initial.work) (g.W.Work.took l.work) (g.S.Source.left l.initial.input) l.lines (g.S.Source.left l.input)
      (g.K.Sink.written l.initial.output) (g.K.Sink.written l.output);
  ends : g.S.Source.ends l.input ≡ g.S.Source.ends l.initial.input;
  reads : g.S.Source.faults l.input ≡ g.S.Source.faults l.initial.input;
  writes : g.K.Sink.faults l.initial.output ≤ g.K.Sink.faults l.output;
}

abbrev pub decreases-loop-work : goal.decreases-loop-work
decreases-loop-work g l = most_octets - l.lines.held.passed
