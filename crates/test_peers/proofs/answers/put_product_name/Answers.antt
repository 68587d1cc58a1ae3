-- The name takes fifteen octets at most.
use Rattle.std.proofs.Common.{false, codes, arith}
use Rattle.std.proofs.lemmas.Result.{on_ok_weaker}
use Rattle.diameter_message.proofs.RoomLemmas.{length-made, Puts-made}
use Rattle.test_peers.proofs.answers.put_product_name.Goals as goal

pub put_with_room-requires : goal.put_with_room-requires
put_with_room-requires c =
    omega (arith, c.requires, length-made c.args.writer.now.avps.list 269 false (codes "home"))

pub returns : goal.returns
returns c =
    on_ok_weaker c.put_with_room.result (Puts-made c.args.writer.now c.put_with_room.new.self 269 false (codes "home")) c.put_with_room.ensures.ok
