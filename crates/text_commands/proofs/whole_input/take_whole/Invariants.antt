use Rattle.std.proofs.Common.{◌≡◌, ◌-◌, ◌≤◌, length}
use Rattle.wire_core.specs.Source.{Consumes}
use Rattle.text_commands.specs.WholeInput.{most_whole}
use Rattle.text_commands.proofs.whole_input.take_whole.Given as goal

-- what was taken so far, and no read was an end or failed
abbrev pub invariant-loop-chunk : goal.invariant-loop-chunk
invariant-loop-chunk g l = record {
  few : length l.text.items ≤ most_whole;
  taken : Consumes (g.S.Source.left l.initial.input) (g.S.Source.left l.input) l.text.items;
  room : length l.chunk.items ≡ 65536;
  ends : g.S.Source.ends l.input ≡ g.S.Source.ends l.initial.input;
  reads : g.S.Source.faults l.input ≡ g.S.Source.faults l.initial.input;
}

abbrev pub decreases-loop-chunk : goal.decreases-loop-chunk
decreases-loop-chunk g l = most_whole - length l.text.items
