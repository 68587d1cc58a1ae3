use Rattle.std.proofs.Common.{◌≡◌, ◌++◌, drop}
use Rattle.hex.specs.Hex.{encode_lower}
use Rattle.printed_lines.proofs.printing.push_digits.Given as goal

-- what is left completes what was written
abbrev pub invariant-loop-octet : goal.invariant-loop-octet
invariant-loop-octet l =
    l.text.items ++ encode_lower (drop l.octet-index l.octets) ≡ l.initial.text.items ++ encode_lower l.octets
