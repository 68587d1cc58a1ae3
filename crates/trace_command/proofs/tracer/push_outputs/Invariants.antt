use Rattle.std.proofs.Common.{◌≡◌, ◌++◌, drop}
use Rattle.std.specs.List.{flat_map}
use Rattle.named_lines.specs.NamedText.{output_lines}
use Rattle.trace_command.proofs.tracer.push_outputs.Given as goal

-- the lines of what is left complete those that were written
abbrev pub invariant-loop-output : goal.invariant-loop-output
invariant-loop-output l =
    l.text.items ++ flat_map (output_lines l.number) (drop l.output-index l.outputs) ≡ l.initial.text.items ++ flat_map (output_lines l.number) l.outputs
