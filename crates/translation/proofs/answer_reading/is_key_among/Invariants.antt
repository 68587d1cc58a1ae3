use Rattle.std.proofs.Common.{◌≡◌, ◌||◌}
use Rattle.std.specs.Result.{ok_prefix}
use Rattle.std.specs.List.{list_any}
use Rattle.diameter_avp.specs.Avps.{fault_of, avps_fault, readable_avps}
use Rattle.translation.specs.Reading.{is_key_avp}
use Rattle.translation.proofs.answer_reading.is_key_among.Given as goal

-- what is left has the list's fault, and a key was found or is left where there is one
abbrev pub invariant-loop-item : goal.invariant-loop-item
invariant-loop-item l =
    (fault_of l.item-iterator ≡ avps_fault l.octets)
    × ((l.found || list_any is_key_avp (ok_prefix l.item-iterator)) ≡ list_any is_key_avp (readable_avps l.octets))
