use Rattle.std.proofs.Common.{◌≡◌, ◌++◌, length}
use Rattle.text_commands.specs.Tasks.{ended_text}
use Rattle.journal.specs.Due.{AreShort}
use Rattle.journal.specs.Journal.{given_lines}
use Rattle.journal.proofs.block.push_given.Given as goal

abbrev pub invariant-loop-rest : goal.invariant-loop-rest
invariant-loop-rest l = record {
  given : l.text.items ++ ended_text (given_lines l.rest) ≡ l.initial.text.items ++ ended_text (given_lines l.given);
  short : AreShort (given_lines l.rest) → AreShort (given_lines l.given);
}

abbrev pub decreases-loop-rest : goal.decreases-loop-rest
decreases-loop-rest l = length l.rest
