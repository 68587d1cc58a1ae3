use Rattle.std.proofs.Common.{◌≡◌, ◌≤◌, length, take}
use Rattle.password_hiding.specs.Hiding.{trimmed}
use Rattle.password_hiding.proofs.length_without_zeros.Given as goal

-- only zeros are left out
abbrev pub invariant-loop-length : goal.invariant-loop-length
invariant-loop-length l = record {
  inside : l.length ≤ length l.octets;
  zeros : trimmed (take l.length l.octets) ≡ trimmed l.octets;
}

abbrev pub decreases-loop-length : goal.decreases-loop-length
decreases-loop-length l = l.length
