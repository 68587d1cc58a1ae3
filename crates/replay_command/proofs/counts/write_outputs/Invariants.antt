use Rattle.std.proofs.Common.{◌≤◌, take}
use Rattle.std.specs.List.{flat_map}
use Rattle.wire_core.specs.Sink.{Appends}
use Rattle.printed_lines.specs.Text.{output_line}
use Rattle.replay_command.proofs.counts.write_outputs.Given as goal

-- the lines of the outputs so far were written
abbrev pub invariant-loop-output : goal.invariant-loop-output
invariant-loop-output g l =
    Appends (g.K.Sink.written l.initial.sink) (g.K.Sink.written l.sink) (flat_map (output_line l.number) (take l.output-index l.outputs))
    × (g.K.Sink.faults l.initial.sink ≤ g.K.Sink.faults l.sink)
