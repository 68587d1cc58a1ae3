use Rattle.std.proofs.Common.{◌≡◌}
use Rattle.diameter_avp.specs.Avps.{fault_of, avps_fault}
use Rattle.diameter_avp.proofs.reading.check_avps.Given as goal

abbrev pub invariant-loop-item : goal.invariant-loop-item
invariant-loop-item l = fault_of l.item-iterator ≡ avps_fault l.octets
