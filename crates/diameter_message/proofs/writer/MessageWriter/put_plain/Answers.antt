-- An AVP of this body takes at most eleven octets more.
use Rattle.std.proofs.Common.{true, arith}
use Rattle.std.proofs.lemmas.Result.{on_ok_weaker}
use Rattle.diameter_message.proofs.RoomLemmas.{length-made, Puts-made}
use Rattle.diameter_message.proofs.writer.MessageWriter.put_plain.Goals as goal

pub put_with_room-requires : goal.put_with_room-requires
put_with_room-requires c =
    omega (arith, c.requires, length-made c.args.self.now.avps.list c.args.code true c.args.body.now)

pub returns-clause-ok : goal.returns-clause-ok
returns-clause-ok c =
    on_ok_weaker c.put_with_room.result (Puts-made c.args.self.now c.put_with_room.new.self c.args.code true c.args.body.now) c.put_with_room.ensures.ok
