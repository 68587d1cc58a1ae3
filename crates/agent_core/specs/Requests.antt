-- What a request that is taken up sends, and what is kept of it (RFC 4005, section 9; profile).
use Rattle.std.specs.Prelude.{ℕ, Bool, true, false, ◌&&◌, not, List, Some, None, unwrap_or, is_some, if◌then◌else◌}
use Rattle.std.specs.Option.{option_map_or}
use Rattle.radius_packet.specs.Packet.{PacketParts, attributes_text}
use Rattle.session_carrier.specs.declared.kept.Kind2.{Kind2}
use Rattle.session_carrier.specs.declared.kept.Kind2.TheVariants.{Access, Eap, Start, Interim, Stop}
use Rattle.session_carrier.specs.declared.kept.Kept.{Kept}
use Rattle.session_carrier.specs.declared.kept.Numbers.{Numbers}
use Rattle.session_carrier.specs.Carriers.{CarriedParts}
use Rattle.session_carrier.specs.Route.{RouteParts}
use Rattle.session_carrier.specs.Session.{fresh_session, accounting_text}
use Rattle.agent_settings.specs.declared.config.Config.{Config}
use Rattle.agent_settings.specs.declared.client.Client.{Client}
use Rattle.translation.specs.Judging.{proxy_states}
use Rattle.translation.specs.Routes.{carried_state, carried_class, name_realm}
use Rattle.access_map.specs.Requests.{access_image}
use Rattle.eap_map.specs.Requests.{eap_image}
use Rattle.accounting_map.specs.Requests.{accounting_image, session_id, cause}
use Rattle.agent_core.specs.Settings.{boot}
use Rattle.agent_core.specs.Verdict.{Request}

abbrev pub is_accounting : Kind2 → Bool
is_accounting Access = false
is_accounting Eap = false
is_accounting Start = true
is_accounting Interim = true
is_accounting Stop = true

-- the realm in the first User-Name, or else the home realm
abbrev pub named_realm : Config → PacketParts → List ℕ
named_realm config packet = unwrap_or (name_realm packet.attributes) config.home_realm

-- a State that carries a session tells where the request goes; without one the session is a fresh one
abbrev pub carried_route : CarriedParts → RouteParts
carried_route c = record { session = c.session; realm = c.realm; host = Some c.host }

abbrev pub fresh_route : Config → PacketParts → ℕ → RouteParts
fresh_route config packet serial =
    record { session = fresh_session config.host (boot config) serial; realm = named_realm config packet; host = None }

abbrev pub access_route : Config → PacketParts → ℕ → RouteParts
access_route config packet serial = option_map_or carried_route (carried_state packet.attributes) (fresh_route config packet serial)

-- an accounting record's session is the one that a Class carries, or else the one that the client names
abbrev pub accounting_route : Config → Client → PacketParts → RouteParts
accounting_route config client packet = record {
  session = unwrap_or (carried_class packet.attributes) (accounting_text config.host client.name (session_id packet.attributes));
  realm = named_realm config packet;
  host = None;
}

abbrev pub route_of : Config → Request → ℕ → RouteParts
route_of config request serial =
    if is_accounting request.kind then accounting_route config request.settings request.packet else access_route config request.packet serial

-- whether it begins a session
abbrev pub is_fresh : Request → Bool
is_fresh request = not (is_accounting request.kind) && not (is_some (carried_state request.packet.attributes))

-- the Termination-Cause for which a Stop's answer ends the session
abbrev pub cause_of : Kind2 → PacketParts → ℕ
cause_of Stop packet = cause packet.attributes
cause_of kind packet = 0

abbrev pub kept_of : Config → Request → ℕ → Kept
kept_of config request serial = record {
  kind = request.kind;
  client = request.client;
  id = request.packet.id;
  authenticator = request.packet.authenticator;
  proxy = attributes_text (proxy_states request.packet.attributes);
  session = (route_of config request serial).session;
  realm = (route_of config request serial).realm;
  cause = cause_of request.kind request.packet;
}

-- the image, by the kind
abbrev pub image : Kind2 → Client → PacketParts → RouteParts → Numbers → List ℕ
image Access client packet route numbers = access_image client packet route numbers
image Eap client packet route numbers = eap_image client packet route numbers
image Start client packet route numbers = accounting_image client packet route numbers
image Interim client packet route numbers = accounting_image client packet route numbers
image Stop client packet route numbers = accounting_image client packet route numbers

abbrev pub request_sent : Config → Request → Numbers → ℕ → List ℕ
request_sent config request numbers serial =
    image request.kind request.settings request.packet (route_of config request serial) numbers
