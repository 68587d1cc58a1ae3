use Rattle.std.proofs.Common.{sym, ◌∙◌}
use Rattle.radius_packet.proofs.Packets.{reads_packet, reads_broken}
use Rattle.radius_packet.proofs.FaultLemmas.{short_is, bad_length_is, bad_attribute_is}
use Rattle.radius_packet.proofs.received.Packet.parse.Goals as goal

pub returns-clause-only : goal.returns-clause-only
returns-clause-only c = λ p packet. c.read.ensures.exact ∙ reads_packet c.args.octets.now p packet

pub returns-clause-place : goal.returns-clause-place
returns-clause-place c = λ place e. reads_broken c.args.octets.now place (sym c.read.ensures.exact ∙ e)

pub returns-clause-short : goal.returns-clause-short
returns-clause-short c = rw c.read.ensures.exact (short_is c.args.octets.now)

pub returns-clause-bad_length : goal.returns-clause-bad_length
returns-clause-bad_length c = rw c.read.ensures.exact (bad_length_is c.args.octets.now)

pub returns-clause-bad_attribute : goal.returns-clause-bad_attribute
returns-clause-bad_attribute c = λ place. rw c.read.ensures.exact (bad_attribute_is c.args.octets.now place)
