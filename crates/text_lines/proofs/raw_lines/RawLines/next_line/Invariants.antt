use Rattle.std.proofs.Common.{◌≡◌, ◌+◌, ◌-◌, ◌≤◌, length}
use Rattle.wire_core.specs.Source.{Consumes}
use Rattle.text_lines.specs.Streams.{IsUnended, most_octets, rest_of}
use Rattle.text_lines.proofs.raw_lines.RawLines.next_line.Given as goal

abbrev pub invariant-loop-self : goal.invariant-loop-self
invariant-loop-self g l = record {
  taken : Consumes (rest_of l.fn.self (g.S.Source.left l.fn.source)) (rest_of l.self (g.S.Source.left l.source)) l.self.line;
  unended : IsUnended l.self.line;
  passed : l.self.held.passed ≡ l.fn.self.held.passed + length l.self.line;
  within : l.self.held.passed + length l.self.held.octets ≤ most_octets;
  limit : l.self.longest ≡ l.fn.self.longest;
  faults : g.S.Source.faults l.source ≡ g.S.Source.faults l.fn.source;
  ends : g.S.Source.ends l.source ≡ g.S.Source.ends l.fn.source;
}

abbrev pub decreases-loop-self : goal.decreases-loop-self
decreases-loop-self g l = 1099511627776 - l.self.held.passed + (1 - length l.self.held.octets)
