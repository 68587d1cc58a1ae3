use Rattle.std.proofs.Common.{◌≡◌, ◌++◌, drop}
use Rattle.count_command.specs.Block.{lines_of}
use Rattle.count_command.proofs.block.push_lines.Given as goal

-- the lines of what is left complete those that were written
abbrev pub invariant-loop-count : goal.invariant-loop-count
invariant-loop-count l =
    l.text.items ++ lines_of l.metric (drop l.count-index l.counts) ≡ l.initial.text.items ++ lines_of l.metric l.counts
