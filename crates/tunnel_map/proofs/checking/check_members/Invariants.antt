use Rattle.std.proofs.Common.{◌≡◌}
use Rattle.std.specs.Result.{ok_prefix}
use Rattle.std.specs.Option.{option_or}
use Rattle.diameter_avp.specs.Avps.{fault_of, avps_fault, readable_avps}
use Rattle.tunnel_map.specs.Groups.{first_code, is_unknown, has_bad_size}
use Rattle.tunnel_map.proofs.checking.check_members.Given as goal

-- what is left has the list's fault, and what was found or else is first there is what is first in the list
abbrev pub invariant-loop-item : goal.invariant-loop-item
invariant-loop-item l = record {
  fault : fault_of l.item-iterator ≡ avps_fault l.body;
  unknown : option_or l.unknown (first_code is_unknown (ok_prefix l.item-iterator)) ≡ first_code is_unknown (readable_avps l.body);
  bad_size : option_or l.bad_size (first_code has_bad_size (ok_prefix l.item-iterator)) ≡ first_code has_bad_size (readable_avps l.body);
}
