-- Where a request goes.
use Rattle.std.specs.Prelude.{ℕ, List, Option}
use Rattle.std.specs.Option.{option_copied}
use Rattle.session_carrier.specs.declared.kept.Route.{Route}

-- the Session-Id, the Destination-Realm and, where there is one, the Destination-Host of a request
pub record RouteParts : Type 0 where
  pub session : List ℕ
  pub realm : List ℕ
  pub host : Option (List ℕ)

abbrev pub route_view : Route → RouteParts
route_view r = record { session = r.session.now; realm = r.realm.now; host = option_copied r.host }
