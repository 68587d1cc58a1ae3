-- What stands at the front has room.
use Rattle.std.proofs.Common.{[], ◌∷◌, refl}
use Rattle.access_map.specs.Requests.{chap_avp, challenge_avps}
use Rattle.translation.proofs.RoomLemmas.{room-front}
use Rattle.access_map.proofs.passwords.put_chap_password.Goals as goal

pub put_chap-requires-clause-room : goal.put_chap-requires-clause-room
put_chap-requires-clause-room c =
    room-front c.args.writer.now.avps.list (chap_avp c.args.value.now ∷ []) (challenge_avps c.args.packet.now) _ refl c.requires.room
