use Rattle.std.proofs.Common.{◌≡◌, drop}
use Rattle.std.specs.List.{flat_map}
use Rattle.count_command.specs.Hits.{output_hits}
use Rattle.count_command.specs.Tally.{with_hits}
use Rattle.count_command.proofs.events.count_outputs.Given as goal

-- what is left completes what was counted
abbrev pub invariant-loop-output : goal.invariant-loop-output
invariant-loop-output l =
    with_hits l.counts (flat_map (output_hits l.config l.input) (drop l.output-index l.outputs))
    ≡ with_hits l.initial.counts (flat_map (output_hits l.config l.input) l.outputs)
