use Rattle.std.proofs.lemmas.List.{take_rest}
use Rattle.radius_packet.proofs.Packets.{tail_text, tail_count, tail_size}
use Rattle.radius_packet.proofs.received.Packet.attributes.Goals as goal

pub new-requires : goal.new-requires
new-requires c = rw take_rest (tail_text _ c.self.invariant)

pub returns-clause-count : goal.returns-clause-count
returns-clause-count c = rw (← c.self.view_is) (tail_count _ _ c.self.invariant)

pub returns-clause-size : goal.returns-clause-size
returns-clause-size c = rw (← c.self.view_is) (tail_size _ _ c.self.invariant)

pub returns-clause-values : goal.returns-clause-values
returns-clause-values c = rw (← c.self.view_is) c.self.invariant.values
