-- What requests to authenticate begin with (RFC 4005, section 3.1; RFC 4072, section 3.1; the order of the AVPs is this
-- profile's).
use Rattle.std.specs.Prelude.{ℕ, Bool, ◌==◌, ◌||◌, List, [], ◌∷◌, ◌++◌, if◌then◌else◌}
use Rattle.std.specs.List.{list_any}
use Rattle.wire_core.specs.Numbers.{u32}
use Rattle.radius_packet.specs.Packet.{PacketParts, AttributeParts}
use Rattle.diameter_avp.specs.Avps.{AvpParts}
use Rattle.diameter_message.specs.PlainAvps.{origin_avps, plain_avp}
use Rattle.session_carrier.specs.Route.{RouteParts}
use Rattle.agent_settings.specs.declared.client.Client.{Client}
use Rattle.translation.specs.Names.{host_avps}

-- an EAP-Message (RFC 3579, section 3.1)
abbrev pub is_eap : AttributeParts → Bool
is_eap a = a.code == 79

-- a User-Password, a CHAP-Password or an EAP-Message
abbrev pub is_credential : AttributeParts → Bool
is_credential a = a.code == 2 || a.code == 3 || is_eap a

-- Auth-Request-Type: AUTHORIZE_AUTHENTICATE, or AUTHORIZE_ONLY where nothing is there to authenticate by
-- (RFC 6733, section 8.7; profile)
abbrev pub request_type : PacketParts → ℕ
request_type packet = if list_any is_credential packet.attributes then 3 else 2

-- Session-Id, Auth-Application-Id, Origin-Host, Origin-Realm, Destination-Realm
abbrev pub auth_names : ℕ → Client → RouteParts → List AvpParts
auth_names application client route =
    plain_avp 263 route.session ∷ plain_avp 258 (u32 application) ∷ origin_avps client.origin_host client.origin_realm
    ++ plain_avp 283 route.realm ∷ []

-- the names, Destination-Host where there is one, Auth-Request-Type, Origin-AAA-Protocol = RADIUS
abbrev pub auth_head : ℕ → Client → PacketParts → RouteParts → List AvpParts
auth_head application client packet route =
    auth_names application client route ++ host_avps route.host
    ++ plain_avp 274 (u32 (request_type packet)) ∷ plain_avp 408 (u32 1) ∷ []
