use Rattle.std.proofs.Common.{◌≡◌, length}
use Rattle.attribute_table.specs.Vendors.{are_parts}
use Rattle.attribute_table.proofs.vendor.are_parts.Given as goal

abbrev pub invariant-loop-rest : goal.invariant-loop-rest
invariant-loop-rest l = are_parts 0 l.octets ≡ are_parts 0 l.rest

abbrev pub decreases-loop-rest : goal.decreases-loop-rest
decreases-loop-rest l = length l.rest
