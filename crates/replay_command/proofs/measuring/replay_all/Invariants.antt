use Rattle.std.proofs.Common.{length}
use Rattle.replay_command.specs.Measured.{ReplaysOn}
use Rattle.replay_command.proofs.measuring.replay_all.Given as goal

-- of all lines the first were replayed, and the others are still to come
abbrev pub invariant-loop-line : goal.invariant-loop-line
invariant-loop-line l = ReplaysOn l.work l.initial.lines l.lines

abbrev pub decreases-loop-line : goal.decreases-loop-line
decreases-loop-line l = length l.lines
