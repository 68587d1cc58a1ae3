-- Internal: what the attributes of an Access-Request give, in one pass that keeps what it saw.
use Rattle.std.specs.Prelude.{Bool, true, false, List, [], ◌∷◌, if◌then◌else◌}
use Rattle.radius_packet.specs.Packet.{PacketParts, AttributeParts}
use Rattle.diameter_avp.specs.Avps.{AvpParts}
use Rattle.diameter_message.specs.PlainAvps.{plain_avp}
use Rattle.translation.specs.declared.direction.Direction.TheVariants.{Access}
use Rattle.translation.specs.Heads.{is_eap}
use Rattle.translation.specs.Passing as common
use Rattle.eap_map.specs.declared.seen.EapSeen.{EapSeen}
use Rattle.eap_map.specs.Requests.{eap_packet}

abbrev pub payload_after : List AttributeParts → Bool → List AvpParts
payload_after all before = if before then [] else plain_avp 462 (eap_packet all) ∷ []

unfoldable pub piece_after : PacketParts → EapSeen → AttributeParts → List AvpParts
piece_after packet seen a =
    if is_eap a then payload_after packet.attributes seen.eap else common.common_after Access packet.attributes seen.common a

abbrev pub nothing : EapSeen
nothing = record { common = common.nothing; eap = false }

unfoldable pub noted : EapSeen → AttributeParts → EapSeen
noted seen a =
    if is_eap a then record seen { eap = true } else record seen { common = common.noted Access seen.common a }

-- what the attributes that are left give
abbrev pub pieces_after : PacketParts → EapSeen → List AttributeParts → List AvpParts
pieces_after packet seen left = common.pieces_after (piece_after packet) noted seen left
