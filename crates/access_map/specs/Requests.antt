-- What an Access-Request becomes: an AA-Request (RFC 4005, section 3.1 and section 9; the order of the
-- AVPs is this profile's).
use Rattle.std.specs.Prelude.{ℕ, Bool, ◌==◌, List, [], ◌∷◌, ◌++◌, take, drop, if◌then◌else◌}
use Rattle.std.specs.List.{list_any, flat_map, enumerate_from}
use Rattle.wire_core.specs.Numbers.{u32}
use Rattle.password_hiding.specs.Hiding.{plain_form}
use Rattle.radius_packet.specs.Packet.{PacketParts, AttributeParts}
use Rattle.diameter_avp.specs.Avps.{AvpParts, avps_text}
use Rattle.diameter_message.specs.declared.header.Header.{Header}
use Rattle.diameter_message.specs.Message.{message_text}
use Rattle.diameter_message.specs.PlainAvps.{plain_avp}
use Rattle.session_carrier.specs.Route.{RouteParts}
use Rattle.session_carrier.specs.declared.kept.Numbers.{Numbers}
use Rattle.agent_settings.specs.declared.client.Client.{Client}
use Rattle.translation.specs.declared.direction.Direction.TheVariants.{Access}
use Rattle.translation.specs.Heads.{auth_head}
use Rattle.translation.specs.Images.{common_piece}

-- the User-Password, no longer hidden (section 5.1)
abbrev pub password_avp : List ℕ → List ℕ → List ℕ → AvpParts
password_avp secret authenticator value = plain_avp 2 (plain_form secret authenticator value)

-- CHAP-Algorithm = CHAP with MD5, CHAP-Ident and CHAP-Response (sections 5.5 to 5.7)
abbrev pub chap_members : List ℕ → List AvpParts
chap_members value = plain_avp 403 (u32 5) ∷ plain_avp 404 (take 1 value) ∷ plain_avp 405 (drop 1 value) ∷ []

-- CHAP-Auth (section 5.4)
abbrev pub chap_avp : List ℕ → AvpParts
chap_avp value = plain_avp 402 (avps_text (chap_members value))

abbrev pub is_challenge : AttributeParts → Bool
is_challenge a = a.code == 60

abbrev pub has_challenge : PacketParts → Bool
has_challenge packet = list_any is_challenge packet.attributes

-- without a CHAP-Challenge the authenticator is the challenge (RFC 2865, section 5.3)
abbrev pub challenge_avps : PacketParts → List AvpParts
challenge_avps packet = if has_challenge packet then [] else plain_avp 60 packet.authenticator ∷ []

-- What the attribute at place k gives.
unfoldable pub piece : Client → PacketParts → ℕ → AttributeParts → List AvpParts
piece client packet k a =
    if a.code == 2 then password_avp client.secret packet.authenticator a.value ∷ []
    else if a.code == 3 then chap_avp a.value ∷ challenge_avps packet
    else common_piece Access packet.attributes k a

-- what all of them give, in order
abbrev pub pieces : Client → PacketParts → List AvpParts
pieces client packet = flat_map (λ p. piece client packet p.0 p.1) (enumerate_from 0 packet.attributes)

abbrev pub request_header : Numbers → Header
request_header numbers = record { flags = 192; command = 265; application = 1; hop = numbers.hop; end = numbers.end }

abbrev pub request_avps : Client → PacketParts → RouteParts → List AvpParts
request_avps client packet route = auth_head 1 client packet route ++ pieces client packet

-- the one AA-Request of an Access-Request
unfoldable pub access_image : Client → PacketParts → RouteParts → Numbers → List ℕ
access_image client packet route numbers =
    message_text (request_header numbers) (avps_text (request_avps client packet route))
