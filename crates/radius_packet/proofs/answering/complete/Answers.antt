use Rattle.std.proofs.Common.{refl}
use Rattle.radius_packet.specs.Seals.{draft_in}
use Rattle.radius_packet.proofs.Signing.{Seals, completed}
use Rattle.radius_packet.proofs.answering.complete.Goals as goal

pub returns-then-sealed : goal.returns-then-sealed
returns-then-sealed c =
    let seals : Seals c.args.sealed c.args.secret.now c.put_u16.new.octets c.seal.new.octets = rw c.if-sealed.true c.seal.ensures in
    completed c.args.secret.now c.args.octets.now c.put_u16.new.octets c.seal.new.octets (draft_in c.args.sealed c.args.octets.now)
    c.requires.text c.requires.request c.put_u16.ensures seals

pub returns-else-sealed : goal.returns-else-sealed
returns-else-sealed c =
    let seals : Seals c.args.sealed c.args.secret.now c.put_u16.new.octets c.put_u16.new.octets = rw c.if-sealed.false refl in
    completed c.args.secret.now c.args.octets.now c.put_u16.new.octets c.put_u16.new.octets (draft_in c.args.sealed c.args.octets.now)
    c.requires.text c.requires.request c.put_u16.ensures seals
