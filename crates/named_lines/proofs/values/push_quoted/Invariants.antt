use Rattle.std.proofs.Common.{◌≡◌, ◌++◌, drop}
use Rattle.std.specs.List.{flat_map}
use Rattle.named_lines.specs.Values.{escaped}
use Rattle.named_lines.proofs.values.push_quoted.Given as goal

-- what is left completes what was written
abbrev pub invariant-loop-octet : goal.invariant-loop-octet
invariant-loop-octet l =
    l.text.items ++ flat_map escaped (drop l.octet-index l.value) ≡ l.initial.text.items ++ flat_map escaped l.value
