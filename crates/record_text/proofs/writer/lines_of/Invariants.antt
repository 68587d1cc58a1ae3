use Rattle.std.proofs.Common.{◌≡◌, take}
use Rattle.record_text.specs.Lines.{text_of}
use Rattle.record_text.proofs.writer.lines_of.Given as goal

-- the lines so far
abbrev pub invariant-loop-entry : goal.invariant-loop-entry
invariant-loop-entry l = l.lines.items ≡ text_of (take l.entry-index l.entries)
