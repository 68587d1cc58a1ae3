-- A session that the client names has twice the octets of its Acct-Session-Id, and few more.
use Rattle.std.proofs.Common.{length, ap, arith}
use Rattle.agent_core.proofs.RequestLemmas.RouteLemmas.{accounting_route_fits}
use Rattle.agent_core.proofs.requests.accounting_route.Goals as goal

pub returns-clause-fits : goal.returns-clause-fits
returns-clause-fits c =
    let fits = accounting_route_fits c.args.config.now c.args.client.now c.args.packet.now c.requires.limits c.requires.client c.requires.values in
    record {
      session = rw c.in_ok-session.ensures fits.session;
      realm = omega (arith, fits.realm, ap length c.in_ok-realm.ensures, ap length c.named_realm.ensures);
      host = tt;
    }
