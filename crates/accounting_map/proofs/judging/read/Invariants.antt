use Rattle.std.proofs.Common.{◌≡◌, ◌+◌, ◌≤◌, length, fold}
use Rattle.radius_packet.specs.Packet.{attributes_text}
use Rattle.translation.specs.declared.direction.Direction.TheVariants.{Accounting}
use Rattle.translation.specs.Faults as faults
use Rattle.accounting_map.specs.Statuses.{statuses_with}
use Rattle.accounting_map.proofs.judging.read.Given as goal

-- what is left leads on to what is found in the whole packet, and no packet has more octets than are counted
abbrev pub invariant-loop-attribute : goal.invariant-loop-attribute
invariant-loop-attribute l = record {
  faults : fold (faults.faults_with l.client l.address Accounting) l.faults l.attribute-iterator ≡ fold (faults.faults_with l.client l.address Accounting) l.initial.faults l.packet.attributes;
  statuses : fold statuses_with l.statuses l.attribute-iterator ≡ fold statuses_with l.initial.statuses l.packet.attributes;
  room : l.faults.proxy + length (attributes_text l.attribute-iterator) ≤ 4076;
}
