-- How many octets the parts of a request's route have.
use Rattle.std.proofs.Common.{◌≡◌, ℕ, ◌≤◌, Bool, true, false, cond, eqb, List, [], ◌∷◌, length, Option, Some, None, unwrap_or, refl, ap, arith}
use Rattle.std.specs.Prelude.{find, option_map}
use Rattle.std.specs.List.{AllByRecursion}
use Rattle.std.specs.Option.{option_or}
use Rattle.std.proofs.lemmas.Bool.{and_parts, leb-true}
use Rattle.std.proofs.lemmas.Option.{option_and_then_some}
use Rattle.radius_packet.specs.Packet.{AttributeParts, PacketParts}
use Rattle.wire_core.specs.Words.{is_identity}
use Rattle.session_carrier.specs.Carriers.{CarriedParts, IsState, read_class}
use Rattle.session_carrier.proofs.CarrierLemmas as carriers
use Rattle.session_carrier.proofs.Sessions as sessions
use Rattle.agent_settings.specs.declared.client.Client.{Client}
use Rattle.agent_settings.specs.declared.config.Config.{Config}
use Rattle.agent_settings.specs.Config.{is_client_in_limits, InLimits, ClientInLimits}
use Rattle.translation.specs.declared.direction.Direction.TheVariants.{Access, Accounting}
use Rattle.translation.specs.Images.{is_carrier}
use Rattle.translation.specs.Routes.{behind_last_at, identity, realm_in, is_user_name, name_realm, carried_state, carried_class}
use Rattle.accounting_map.specs.Requests.{session_id}
use Rattle.session_carrier.specs.Session.{accounting_text}
use Rattle.agent_core.proofs.RoomLemmas.Limits.{limits}
use Rattle.agent_core.proofs.ListLemmas.Lists.{find-All}
use Rattle.agent_core.specs.Fits.{RouteFits}
use Rattle.agent_core.specs.Requests.{accounting_route, carried_route, named_realm}
use Rattle.agent_core.specs.Verdicts.{IsShort}

-- ---- realms

either_short : (first second : Option (List ℕ)) (most : ℕ) (got : List ℕ)
    → ((x : List ℕ) → first ≡ Some x → length x ≤ most) → ((x : List ℕ) → second ≡ Some x → length x ≤ most)
    → option_or first second ≡ Some got → length got ≤ most
either_short (Some x) second most got left right is = left got is
either_short None second most got left right is = right got is

chosen_is : (holds : Bool) (x got : List ℕ) → cond holds (Some x) None ≡ Some got → x ≡ got
chosen_is true x got is = cc
chosen_is false x got is = absurd (cc)

chosen_short : (holds : Bool) (x got : List ℕ) → cond holds (Some x) None ≡ Some got → length got ≤ length x
chosen_short holds x got is = omega (arith, ap length (chosen_is holds x got is))

behind_short : (name realm : List ℕ) → behind_last_at name ≡ Some realm → length realm ≤ length name
behind_short [] realm is = absurd (cc)
behind_short (x ∷ rest) realm is =
    omega (
      arith,
      either_short (behind_last_at rest) (cond (eqb x 64) (Some rest) None) (length rest) realm
          (λ y. behind_short rest y) (λ y. chosen_short (eqb x 64) rest y) is,
    )

realm_short : (name realm : List ℕ) → realm_in name ≡ Some realm → length realm ≤ length name
realm_short name realm is =
    option_and_then_some {A = List ℕ} _ _ realm is (λ text (behind : behind_last_at name ≡ Some text) (passed : identity text ≡ Some realm).
    omega (arith, behind_short name text behind, ap length (chosen_is (is_identity text) text realm passed)))

name_realm_short : (attributes : List AttributeParts) → AllByRecursion IsShort attributes → (realm : List ℕ)
    → name_realm attributes ≡ Some realm → length realm ≤ 253
name_realm_short attributes values realm is =
    option_and_then_some {A = AttributeParts} _ _ realm is (λ a (found : find is_user_name attributes ≡ Some a) (passed : realm_in a.value ≡ Some realm).
    omega (arith, find-All IsShort is_user_name attributes values a found, realm_short a.value realm passed))

unwrapped_short : (o : Option (List ℕ)) (other : List ℕ) (most : ℕ) → ((x : List ℕ) → o ≡ Some x → length x ≤ most)
    → length other ≤ most → length (unwrap_or o other) ≤ most
unwrapped_short None other most some none = none
unwrapped_short (Some x) other most some none = some x refl

pub named_realm_short : (config : Config) (packet : PacketParts) → InLimits config → AllByRecursion IsShort packet.attributes
    → length (named_realm config packet) ≤ 255
named_realm_short config packet within values =
    let l = limits config within.settings in
    let home : length config.home_realm ≤ 64 = l.home_realm in
    omega (
      arith,
      unwrapped_short (name_realm packet.attributes) config.home_realm 253
          (name_realm_short packet.attributes values) (omega arith),
    )

-- ---- carriers

carried_fits : (value : List ℕ) (c : CarriedParts) → length value ≤ 253 → IsState value c.host c.realm c.session → RouteFits 244 (carried_route c)
carried_fits value c short is =
    let size = carriers.states_have_length value c.host c.realm c.session is in
    record { session = omega arith; realm = omega arith; host = omega arith }

-- where a State says
pub carried_state_fits : (attributes : List AttributeParts) → AllByRecursion IsShort attributes → (c : CarriedParts)
    → carried_state attributes ≡ Some c → RouteFits 244 (carried_route c)
carried_state_fits attributes values c is =
    option_and_then_some {A = AttributeParts} _ _ c is (λ a found passed.
    carried_fits a.value c (find-All IsShort (is_carrier Access) attributes values a found) (carriers.read_state-is a.value c passed))

carried_class_short : (attributes : List AttributeParts) → AllByRecursion IsShort attributes → (session : List ℕ)
    → carried_class attributes ≡ Some session → length session ≤ 1024
carried_class_short attributes values session is =
    option_and_then_some {A = AttributeParts} _ _ session is (λ a (found : find (is_carrier Accounting) attributes ≡ Some a) (passed : read_class a.value ≡ Some session).
    omega (
      arith,
      find-All IsShort (is_carrier Accounting) attributes values a found,
      carriers.classes_have_length a.value session (carriers.read_class-is a.value session passed),
    ))

-- ---- accounting

name_short : (client : Client) → ClientInLimits client → length client.name ≤ 64
unfolding is_client_in_limits
name_short client within =
    let nas = and_parts _ _ within in
    let secret = and_parts _ _ nas.0 in
    let realm = and_parts _ _ secret.0 in
    let host = and_parts _ _ realm.0 in
    leb-true _ _ (and_parts _ _ host.0).1

value_short : (found : Option AttributeParts) → ((a : AttributeParts) → found ≡ Some a → length a.value ≤ 253)
    → length (unwrap_or (option_map (λ (a : AttributeParts). a.value) found) []) ≤ 253
value_short None short = omega arith
value_short (Some a) short = short a refl

session_id_short : (attributes : List AttributeParts) → AllByRecursion IsShort attributes → length (session_id attributes) ≤ 253
session_id_short attributes values =
    value_short (find (λ (a : AttributeParts). eqb a.code 44) attributes)
    (find-All IsShort (λ (a : AttributeParts). eqb a.code 44) attributes values)

named_session_short : (config : Config) (client : Client) (attributes : List AttributeParts) → InLimits config → ClientInLimits client
    → AllByRecursion IsShort attributes → length (accounting_text config.host client.name (session_id attributes)) ≤ 1024
named_session_short config client attributes within client_within values =
    let l = limits config within.settings in
    let host : length config.host ≤ 64 = l.host in
    omega (
      arith,
      name_short client client_within,
      session_id_short attributes values,
      sessions.accounting_sessions_have_length config.host client.name (session_id attributes),
    )

-- an accounting record's route
pub accounting_route_fits : (config : Config) (client : Client) (packet : PacketParts) → InLimits config → ClientInLimits client
    → AllByRecursion IsShort packet.attributes → RouteFits 1024 (accounting_route config client packet)
accounting_route_fits config client packet within client_within values = record {
  session = unwrapped_short (carried_class packet.attributes) _ 1024 (carried_class_short packet.attributes values)
      (named_session_short config client packet.attributes within client_within values);
  realm = named_realm_short config packet within values;
  host = tt;
}
