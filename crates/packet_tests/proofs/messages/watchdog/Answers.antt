use Rattle.std.proofs.Common.{false, codes, arith}
use Rattle.diameter_message.proofs.RoomLemmas.{length-made, list_length-begun}
use Rattle.packet_tests.proofs.messages.watchdog.Goals as goal

pub put_origin-requires : goal.put_origin-requires
put_origin-requires c = omega (arith, list_length-begun _ _ c.in_ok-writer.ensures)

pub put_number-requires : goal.put_number-requires
put_number-requires c = omega (arith, list_length-begun _ _ c.in_ok-writer.ensures, c.in_ok-put_origin.ensures.ok.length)

pub put_plain-requires : goal.put_plain-requires
put_plain-requires c =
    let origin = c.in_ok-put_origin.ensures.ok.length in
    let number = c.in_ok-put_number.ensures.ok.length in
    omega (arith, list_length-begun _ _ c.in_ok-writer.ensures)

pub put_with_room-requires : goal.put_with_room-requires
put_with_room-requires c =
    let origin = c.in_ok-put_origin.ensures.ok.length in
    let number = c.in_ok-put_number.ensures.ok.length in
    let plain = c.in_ok-put_plain.ensures.ok.length in
    omega (arith, list_length-begun _ _ c.in_ok-writer.ensures, length-made c.put_plain.new.self.avps.list 269 false (codes "rd-agent"))
