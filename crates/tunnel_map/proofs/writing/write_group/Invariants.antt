use Rattle.std.proofs.Common.{◌≡◌, ◌≤◌, length}
use Rattle.diameter_avp.specs.Avps.{avps_text}
use Rattle.tunnel_map.specs.Groups.{members}
use Rattle.tunnel_map.specs.Writing.{Extends, with_avps}
use Rattle.tunnel_map.proofs.writing.write_group.Given as goal

-- the members so far and those of what is left are all members of the group that is open
abbrev pub invariant-loop-attribute : goal.invariant-loop-attribute
invariant-loop-attribute l = record {
  list : with_avps l.out (members l.tag l.attribute-iterator) ≡ with_avps l.initial.out (members l.tag l.packet.attributes);
  short : length (avps_text l.out.list) ≤ 65516;
  extends : Extends l.initial.out l.out;
}
