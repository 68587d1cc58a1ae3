use Rattle.std.proofs.Common.{◌≡◌, None}
use Rattle.std.specs.Result.{ok_prefix}
use Rattle.diameter_avp.specs.Avps.{fault_of}
use Rattle.tunnel_map.specs.Groups.{attributes_of, group_attributes}
use Rattle.tunnel_map.proofs.PushLemmas.{Pushed}
use Rattle.tunnel_map.proofs.pushing.push_group.Given as goal

-- what is left has no fault, and the attributes before its own were pushed
abbrev pub invariant-loop-item : goal.invariant-loop-item
invariant-loop-item l = record {
  whole : fault_of l.item-iterator ≡ None;
  pushed : Pushed l.initial.reply l.reply (group_attributes l.tag l.body) (attributes_of l.tag (ok_prefix l.item-iterator));
}
