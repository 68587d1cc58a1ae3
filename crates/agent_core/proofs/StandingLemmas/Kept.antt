-- What is kept of each request of a history of octets: its answer can be translated, and it can be sent again.
use Rattle.std.proofs.Common.{◌≡◌, ℕ, ◌<◌, ◌≤◌, ◌^◌, Bool, true, false, cond, List, length, Option, Some, None, refl, sym, ap, arith}
use Rattle.std.specs.Prelude.{IfSome, unwrap_or}
use Rattle.std.specs.List.{AllByRecursion}
use Rattle.std.specs.Option.{option_map_or}
use Rattle.std.proofs.lemmas.Option.{slice_get_within}
use Rattle.radius_packet.specs.declared.reasons.Via.{Via}
use Rattle.radius_packet.specs.Packet.{PacketParts, attributes_text, whole, IsPacket}
use Rattle.radius_packet.proofs.Packets.{tail_size}
use Rattle.radius_packet.proofs.Reading.{attributes_in-text}
use Rattle.session_carrier.specs.Carriers.{CarriedParts}
use Rattle.session_carrier.specs.Session.{FreshSessionsAreShort}
use Rattle.session_carrier.specs.declared.kept.Kept.{Kept}
use Rattle.session_carrier.specs.declared.kept.Numbers.{Numbers}
use Rattle.agent_settings.specs.declared.client.Client.{Client}
use Rattle.agent_settings.specs.declared.config.Config.{Config}
use Rattle.agent_settings.specs.Config.{InLimits, ClientInLimits, ClientsAreInLimits, FoundStandsAtPlace}
use Rattle.translation.specs.Judging.{proxy_states}
use Rattle.translation.specs.Routes.{carried_state}
use Rattle.agent_core.specs.Settings.{boot}
use Rattle.agent_core.specs.Fits.{KeptFits, RouteFits}
use Rattle.agent_core.specs.Verdict.{Request}
use Rattle.agent_core.specs.Verdicts.{IsShort}
use Rattle.agent_core.specs.Requests.{is_accounting, route_of, access_route, accounting_route, carried_route, fresh_route, kept_of, request_sent}
use Rattle.agent_core.specs.Standing.{IsWhole}
use Rattle.agent_core.specs.Promise.{AreBytes}
use Rattle.agent_core.proofs.ImageLemmas.Headers.{AreNumbers}
use Rattle.agent_core.proofs.RoomLemmas.Limits.{limits}
use Rattle.agent_core.proofs.RequestLemmas.JudgedRequests.{judged_at, proxies_are_short}
use Rattle.agent_core.proofs.RequestLemmas.RouteLemmas.{accounting_route_fits, carried_state_fits, named_realm_short}
use Rattle.agent_core.proofs.RequestLemmas.VerdictFacts.{VerdictFits}
use Rattle.agent_core.proofs.RequestLemmas.PacketFacts.{read_is_packet}
use Rattle.agent_core.proofs.ImageLemmas.ImageSizes.{image-whole}

-- the laws of other crates that this stands on
pub record Laws : Type 0 where
  pub found : FoundStandsAtPlace
  pub fresh : FreshSessionsAreShort
  pub clients : ClientsAreInLimits

-- settings that a core may have
pub record CoreSettings (config : Config) : Type 0 where
  pub limits : InLimits config
  pub boot : IfSome config.boot (λ b. b < 2 ^ 32)

boot-small : (o : Option ℕ) → IfSome o (λ b. b < 2 ^ 32) → unwrap_or o 0 < 2 ^ 32
boot-small None h = omega arith
boot-small (Some b) h = h

-- ---- routes

access-fits : Laws → (config : Config) → CoreSettings config → (packet : PacketParts) (serial : ℕ) → AllByRecursion IsShort packet.attributes → serial < 2 ^ 64 → (o : Option CarriedParts) → carried_state packet.attributes ≡ o → RouteFits 244 (option_map_or carried_route o (fresh_route config packet serial))
access-fits laws config settings packet serial values few (Some c) is = carried_state_fits packet.attributes values c is
access-fits laws config settings packet serial values few None is =
    let short = laws.fresh config.host (boot config) serial (boot-small config.boot settings.boot) few in
    let l = limits config settings.limits.settings in
    let host : length config.host ≤ 64 = l.host in
    record { session = omega arith; realm = named_realm_short config packet settings.limits values; host = tt }

route-by : Laws → (config : Config) → CoreSettings config → (client : Client) → ClientInLimits client → (packet : PacketParts) (serial : ℕ) → AllByRecursion IsShort packet.attributes → serial < 2 ^ 64 → (b : Bool) → RouteFits (cond b 1024 244) (cond b (accounting_route config client packet) (access_route config packet serial))
route-by laws config settings client within packet serial values few true = accounting_route_fits config client packet settings.limits within values
route-by laws config settings client within packet serial values few false =
    access-fits laws config settings packet serial values few (carried_state packet.attributes) refl

-- ---- one request

-- what is kept fits, and what was sent is a message
pub record IsKept (config : Config) (kept : Kept) (sent : List ℕ) : Type 0 where
  pub fits : KeptFits config kept
  pub whole : IsWhole sent

pub request-kept : Laws → (config : Config) → CoreSettings config → (via : Via) (address : ℕ) (octets : List ℕ) (request : Request) (numbers : Numbers) (serial : ℕ) → AreBytes octets → VerdictFits config via address octets request → AreNumbers numbers → serial < 2 ^ 64 → IsKept config (kept_of config request serial) (request_sent config request numbers serial)
request-kept laws config settings via address octets request numbers serial bytes fits are few =
    let packet = request.packet in
    let client = request.settings in
    let proxies = proxy_states packet.attributes in
    let read : IsPacket (whole octets) packet = read_is_packet octets packet bytes fits.read in
    let within = laws.clients config request.client client settings.limits fits.settings in
    let judged = (judged_at via client address packet request.kind fits.kind).0 in
    let route = route-by laws config settings client within packet serial read.values few (is_accounting request.kind) in
    record {
      fits = record {
        client = slice_get_within config.clients request.client client fits.settings;
        session = route.session;
        realm = route.realm;
        proxy = ap attributes_text (sym (attributes_in-text proxies));
        few = proxies_are_short request.kind client packet judged;
      };
      whole = image-whole request.kind client packet (route_of config request serial) numbers are (record {
        within = within;
        judged = judged;
        fits = route;
        authenticator = read.authenticator;
        attributes = tail_size (whole octets) packet read;
      });
    }
