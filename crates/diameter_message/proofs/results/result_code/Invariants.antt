use Rattle.std.proofs.Common.{◌≡◌}
use Rattle.std.specs.Option.{option_or}
use Rattle.std.specs.Result.{ok_prefix}
use Rattle.diameter_avp.specs.Avps.{fault_of, avps_fault, readable_avps}
use Rattle.diameter_message.specs.Finding.{first_number}
use Rattle.diameter_message.proofs.results.result_code.Given as goal

-- what is left has the list's fault, and what was found, or else the first that is left, is the list's first
abbrev pub invariant-loop-item : goal.invariant-loop-item
invariant-loop-item l =
    (fault_of l.item-iterator ≡ avps_fault l.octets)
    × (option_or l.found (first_number 268 (ok_prefix l.item-iterator)) ≡ first_number 268 (readable_avps l.octets))
