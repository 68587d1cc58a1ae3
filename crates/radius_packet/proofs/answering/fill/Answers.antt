use Rattle.radius_packet.specs.Seals.{draft_in}
use Rattle.radius_packet.proofs.Signing.{filled}
use Rattle.radius_packet.proofs.answering.fill.Goals as goal

pub returns : goal.returns
returns c = filled c.args.secret.now c.complete.new.octets c.sign.new.octets (draft_in c.args.sealed c.args.octets.now) c.requires.request c.complete.ensures c.sign.ensures
