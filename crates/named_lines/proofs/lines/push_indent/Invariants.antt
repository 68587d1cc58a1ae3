use Rattle.std.proofs.Common.{◌≡◌, ◌++◌, replicate}
use Rattle.named_lines.proofs.lines.push_indent.Given as goal

-- so many spaces were appended
abbrev pub invariant-loop : goal.invariant-loop
invariant-loop l = l.text.items ≡ l.initial.text.items ++ replicate l.counter 32
