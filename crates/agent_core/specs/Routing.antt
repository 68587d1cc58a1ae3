-- Internal: a route, without where it lies in memory.
use Rattle.std.specs.Option.{option_copied}
use Rattle.session_carrier.specs.Route.{RouteParts}
use Rattle.agent_core.specs.declared.requests.OwnRoute.{OwnRoute}

abbrev pub own_route_view : OwnRoute → RouteParts
own_route_view r = record { session = r.session; realm = r.realm; host = option_copied r.host }
