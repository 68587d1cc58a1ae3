-- What a State carries is a part of its value, and a fresh session has few octets more than the host.
use Rattle.std.proofs.Common.{◌≤◌, ◌<◌, ◌^◌, length, ap, sym, arith}
use Rattle.session_carrier.specs.Carriers.{carried_view}
use Rattle.agent_core.proofs.RoomLemmas.Limits.{limits}
use Rattle.agent_core.proofs.RequestLemmas.RouteLemmas.{carried_state_fits, named_realm_short}
use Rattle.agent_core.proofs.requests.access_route.Goals as goal

pub returns-in-Some-clause-fits : goal.returns-in-Some-clause-fits
returns-in-Some-clause-fits c =
    let fits = carried_state_fits c.args.packet.now.attributes c.requires.values (carried_view c.in-Some.carried) (sym c.in-Some.ensures) in
    record { session = rw c.in_ok-copy.ensures fits.session; realm = rw c.in_ok-copy-2.ensures fits.realm; host = fits.host }

pub returns-clause-fits : goal.returns-clause-fits
returns-clause-fits c =
    let l = limits _ c.requires.limits.settings in
    let short : length c.args.config.now.host ≤ 64 = l.host in
    let host = ap length c.as_slice.ensures in
    let boot : c.unwrap_or-boot.result < 2 ^ 32 = omega (arith, c.unwrap_or-boot.type_inv) in
    let serial : c.args.serial < 2 ^ 64 = omega arith in
    let made = c.fresh_sessions_are_short.ensures c.as_slice.result.now c.unwrap_or-boot.result c.args.serial boot serial in
    let realm = named_realm_short c.args.config.now c.args.packet.now c.requires.limits c.requires.values in
    record {
      session = omega (arith, ap length c.in_ok-session.ensures);
      realm = omega (arith, ap length c.in_ok-realm.ensures, ap length c.named_realm.ensures);
      host = tt;
    }
