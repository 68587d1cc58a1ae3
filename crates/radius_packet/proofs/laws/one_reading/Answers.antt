use Rattle.radius_packet.proofs.Packets.{one_reading}
use Rattle.radius_packet.proofs.laws.one_reading.Goals as goal

pub returns : goal.returns
returns c = one_reading
