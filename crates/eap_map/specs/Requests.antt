-- What an Access-Request with an EAP-Message becomes: a Diameter-EAP-Request (RFC 4072, section 3.1; the order of the
-- AVPs is this profile's).
use Rattle.std.specs.Prelude.{ℕ, List, [], ◌∷◌, ◌++◌, filter, if◌then◌else◌}
use Rattle.std.specs.List.{flat_map, enumerate_from}
use Rattle.radius_packet.specs.Packet.{PacketParts, AttributeParts}
use Rattle.diameter_avp.specs.Avps.{AvpParts, avps_text}
use Rattle.diameter_message.specs.declared.header.Header.{Header}
use Rattle.diameter_message.specs.Message.{message_text}
use Rattle.diameter_message.specs.PlainAvps.{plain_avp}
use Rattle.session_carrier.specs.Route.{RouteParts}
use Rattle.session_carrier.specs.declared.kept.Numbers.{Numbers}
use Rattle.agent_settings.specs.declared.client.Client.{Client}
use Rattle.translation.specs.declared.direction.Direction.TheVariants.{Access}
use Rattle.translation.specs.Heads.{is_eap, auth_head}
use Rattle.translation.specs.Images.{is_first, common_piece}

-- the EAP packet that the EAP-Messages hold, one after the other; EAP-Start has none of its octets
abbrev pub eap_packet : List AttributeParts → List ℕ
eap_packet attributes = flat_map (λ a. a.value) (filter is_eap attributes)

-- one EAP-Payload holds it, where the first of them stands (RFC 4072, section 4.1.1)
abbrev pub payload_avps : List AttributeParts → ℕ → List AvpParts
payload_avps all k = if is_first is_eap k all then plain_avp 462 (eap_packet all) ∷ [] else []

-- What the attribute at place k gives.
unfoldable pub piece : PacketParts → ℕ → AttributeParts → List AvpParts
piece packet k a = if is_eap a then payload_avps packet.attributes k else common_piece Access packet.attributes k a

-- what all of them give, in order
abbrev pub pieces : PacketParts → List AvpParts
pieces packet = flat_map (λ p. piece packet p.0 p.1) (enumerate_from 0 packet.attributes)

abbrev pub request_header : Numbers → Header
request_header numbers = record { flags = 192; command = 268; application = 5; hop = numbers.hop; end = numbers.end }

abbrev pub request_avps : Client → PacketParts → RouteParts → List AvpParts
request_avps client packet route = auth_head 5 client packet route ++ pieces packet

-- the one Diameter-EAP-Request of an Access-Request
unfoldable pub eap_image : Client → PacketParts → RouteParts → Numbers → List ℕ
eap_image client packet route numbers =
    message_text (request_header numbers) (avps_text (request_avps client packet route))
