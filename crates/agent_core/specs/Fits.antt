-- What the maps want of a route, and of what is kept of a request.
use Rattle.std.specs.Prelude.{◌≡◌, ℕ, ◌<◌, ◌≤◌, length, IfSome, if◌then◌else◌}
use Rattle.radius_packet.specs.Packet.{attributes_in, attributes_text}
use Rattle.diameter_message.specs.declared.header.Header.{Header}
use Rattle.session_carrier.specs.Route.{RouteParts}
use Rattle.session_carrier.specs.declared.kept.Kind2.{Kind2}
use Rattle.session_carrier.specs.declared.kept.Kind2.TheVariants.{Access, Eap, Start, Interim, Stop}
use Rattle.session_carrier.specs.declared.kept.Kept.{Kept}
use Rattle.session_carrier.specs.declared.kept.Numbers.{Numbers}
use Rattle.agent_settings.specs.declared.config.Config.{Config}
use Rattle.access_map.specs.Requests as access
use Rattle.eap_map.specs.Requests as eap
use Rattle.accounting_map.specs.Requests as accounting
use Rattle.agent_core.specs.Requests.{is_accounting}

-- how many octets a session has at most: that of an access request fits into a Class
abbrev pub longest_session : Kind2 → ℕ
longest_session kind = if is_accounting kind then 1024 else 244

-- what they want of a route whose session may have so many octets
pub record RouteFits (most : ℕ) (route : RouteParts) : Type 0 where
  pub session : length route.session ≤ most
  pub realm : length route.realm ≤ 255
  pub host : IfSome route.host (λ host. length host ≤ 255)

-- what they want of what is kept: its client is one of the settings', its realm is a name, and its Proxy-States are whole attributes that leave room in
-- a reply
pub record KeptFits (config : Config) (kept : Kept) : Type 0 where
  pub client : kept.client < length config.clients
  pub session : length kept.session ≤ longest_session kept.kind
  pub realm : length kept.realm ≤ 255
  pub proxy : kept.proxy ≡ attributes_text (attributes_in kept.proxy)
  pub few : length kept.proxy ≤ 2048

-- the header of what a request of a kind sends
abbrev pub header_by : Kind2 → Numbers → Header
header_by Access numbers = access.request_header numbers
header_by Eap numbers = eap.request_header numbers
header_by Start numbers = accounting.request_header numbers
header_by Interim numbers = accounting.request_header numbers
header_by Stop numbers = accounting.request_header numbers
