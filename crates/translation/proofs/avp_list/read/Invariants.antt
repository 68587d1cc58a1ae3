use Rattle.std.proofs.Common.{◌≡◌, ◌++◌}
use Rattle.std.specs.Result.{ok_prefix}
use Rattle.diameter_avp.specs.Avps.{fault_of, avps_fault, readable_avps}
use Rattle.translation.specs.AvpList.{list_view}
use Rattle.translation.proofs.avp_list.read.Given as goal

-- what is left has the list's fault, and stands behind what was read
abbrev pub invariant-loop-item : goal.invariant-loop-item
invariant-loop-item l =
    (fault_of l.item-iterator ≡ avps_fault l.octets)
    × (list_view l.list.items ++ ok_prefix l.item-iterator ≡ readable_avps l.octets)
