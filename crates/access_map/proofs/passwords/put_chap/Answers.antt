-- The group has room, so its members have it; they stand behind it while it is open, and then in it.
use Rattle.std.proofs.Common.{[], ◌∷◌, take, drop, refl}
use Rattle.std.proofs.lemmas.List.{take_rest}
use Rattle.diameter_message.specs.PlainAvps.{plain_avp}
use Rattle.access_map.specs.Requests.{chap_members}
use Rattle.access_map.proofs.ChapLemmas.{begin-room, number-room, more, room-at, group_of, IsOpen-filled, ended}
use Rattle.access_map.proofs.passwords.put_chap.Goals as goal

pub begin_chap-requires : goal.begin_chap-requires
begin_chap-requires c = begin-room c.args.writer.now.avps.list c.args.value.now c.requires.room

pub put_number-requires : goal.put_number-requires
put_number-requires c =
    let begun = c.in_ok-group.ensures.put in
    rw begun (number-room c.args.writer.now.avps.list c.args.value.now c.requires.some c.requires.room)

pub put_with_room-requires : goal.put_with_room-requires
put_with_room-requires c =
    let one = more c.args.writer.now _ _ _ _ c.in_ok-group.ensures.put c.in_ok-put_number.ensures.ok.list in
    room-at c.args.writer.now _ c.args.value.now _ (plain_avp 404 (take 1 c.args.value.now) ∷ []) (plain_avp 405 (drop 1 c.args.value.now) ∷ []) one refl c.requires.room

pub put_with_room-requires-2 : goal.put_with_room-requires-2
put_with_room-requires-2 c =
    let one = more c.args.writer.now _ _ _ _ c.in_ok-group.ensures.put c.in_ok-put_number.ensures.ok.list in
    let two = more c.args.writer.now _ _ _ _ one c.in_ok-put_with_room.ensures.ok in
    rw (take_rest c.args.value.now 1) (room-at c.args.writer.now _ c.args.value.now _ (plain_avp 405 (drop 1 c.args.value.now) ∷ []) [] two refl c.requires.room)

pub end_group-requires : goal.end_group-requires
end_group-requires c =
    let one = more c.args.writer.now _ _ _ _ c.in_ok-group.ensures.put c.in_ok-put_number.ensures.ok.list in
    let two = more c.args.writer.now _ _ _ _ one c.in_ok-put_with_room.ensures.ok in
    let three = more c.args.writer.now _ _ _ _ two c.in_ok-put_with_room-2.ensures.ok in
    let filled = rw (take_rest c.args.value.now 1) at three in
    (group_of c.args.writer.now (chap_members c.args.value.now), IsOpen-filled c.args.writer.now _ _ _ _ filled c.avps.ensures.value c.in_ok-group.ensures.place)

pub returns : goal.returns
returns c =
    let one = more c.args.writer.now _ _ _ _ c.in_ok-group.ensures.put c.in_ok-put_number.ensures.ok.list in
    let two = more c.args.writer.now _ _ _ _ one c.in_ok-put_with_room.ensures.ok in
    let three = more c.args.writer.now _ _ _ _ two c.in_ok-put_with_room-2.ensures.ok in
    let filled = rw (take_rest c.args.value.now 1) at three in
    let begun = IsOpen-filled c.args.writer.now _ _ _ _ filled c.avps.ensures.value c.in_ok-group.ensures.place in
    ended c.args.writer.now _ _ _ _ (chap_members c.args.value.now) filled c.avps.ensures.value (c.end_group.ensures (group_of c.args.writer.now (chap_members c.args.value.now)) begun) refl
