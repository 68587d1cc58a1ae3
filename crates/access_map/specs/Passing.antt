-- Internal: what the attributes of an Access-Request give, in one pass that keeps what it saw.
use Rattle.std.specs.Prelude.{◌==◌, List, [], ◌∷◌, if◌then◌else◌}
use Rattle.radius_packet.specs.Packet.{PacketParts, AttributeParts}
use Rattle.diameter_avp.specs.Avps.{AvpParts}
use Rattle.agent_settings.specs.declared.client.Client.{Client}
use Rattle.translation.specs.declared.direction.Direction.TheVariants.{Access}
use Rattle.translation.specs.declared.seen.Seen.{Seen}
use Rattle.translation.specs.Passing as common
use Rattle.access_map.specs.Requests.{password_avp, chap_avp, challenge_avps}

unfoldable pub piece_after : Client → PacketParts → Seen → AttributeParts → List AvpParts
piece_after client packet seen a =
    if a.code == 2 then password_avp client.secret packet.authenticator a.value ∷ []
    else if a.code == 3 then chap_avp a.value ∷ challenge_avps packet
    else common.common_after Access packet.attributes seen a

unfoldable pub noted : Seen → AttributeParts → Seen
noted seen a = if a.code == 2 then seen else if a.code == 3 then seen else common.noted Access seen a

-- what the attributes that are left give
abbrev pub pieces_after : Client → PacketParts → Seen → List AttributeParts → List AvpParts
pieces_after client packet seen left = common.pieces_after (piece_after client packet) noted seen left
