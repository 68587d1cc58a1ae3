use Rattle.std.proofs.Common.{◌≡◌, ◌+◌, ◌≤◌, length}
use Rattle.radius_packet.specs.Packet.{attributes_text}
use Rattle.radius_packet.specs.Checks.{seal_place}
use Rattle.radius_packet.proofs.checking.octets_before_seal.Given as goal

-- the place is that of what is left, and lies inside a packet
abbrev pub invariant-loop-attribute : goal.invariant-loop-attribute
invariant-loop-attribute l = record {
  left : seal_place l.attribute-iterator l.place ≡ seal_place l.initial.attribute-iterator 0;
  inside : l.place + length (attributes_text l.attribute-iterator) ≤ 4076;
}
