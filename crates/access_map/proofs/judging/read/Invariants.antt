use Rattle.std.proofs.Common.{◌≡◌, ◌+◌, ◌≤◌, length, fold}
use Rattle.radius_packet.specs.Packet.{attributes_text}
use Rattle.translation.specs.declared.direction.Direction.TheVariants.{Access}
use Rattle.translation.specs.Faults as faults
use Rattle.access_map.specs.Credentials.{credentials_with}
use Rattle.access_map.proofs.judging.read.Given as goal

-- what is left leads on to what is found in the whole packet, and no packet has more octets and attributes than are
-- counted
abbrev pub invariant-loop-attribute : goal.invariant-loop-attribute
invariant-loop-attribute l = record {
  faults : fold (faults.faults_with l.client l.address Access) l.faults l.attribute-iterator ≡ fold (faults.faults_with l.client l.address Access) l.initial.faults l.packet.attributes;
  credentials : fold credentials_with l.credentials l.attribute-iterator ≡ fold credentials_with l.initial.credentials l.packet.attributes;
  room : l.faults.proxy + length (attributes_text l.attribute-iterator) ≤ 4076;
  few : l.credentials.passwords + length l.attribute-iterator ≤ 2038;
}
