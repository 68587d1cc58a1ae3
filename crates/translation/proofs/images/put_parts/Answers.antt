-- A part has room where all that are left have it.
use Rattle.std.proofs.Common.{ap}
use Rattle.std.specs.Prelude.{map}
use Rattle.translation.specs.Images.{vendor_avp}
use Rattle.translation.proofs.RoomLemmas.{room-front}
use Rattle.translation.proofs.images.put_parts.Goals as goal

pub put_with_room-requires : goal.put_with_room-requires
put_with_room-requires c =
    let same = c.into.ensures in
    rw same (room-front c.loop-part.writer.avps.list _ (map vendor_avp c.next.new.self) _ (ap (map vendor_avp) c.in-Some-part.ensures.steps) c.loop-part.invariant.room)
