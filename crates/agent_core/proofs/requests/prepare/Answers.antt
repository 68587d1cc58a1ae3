-- What is kept goes where the message went.
use Rattle.std.proofs.Common.{◌∙◌, ap, arith, length, refl}
use Rattle.std.proofs.lemmas.Option.{slice_get_within}
use Rattle.session_carrier.specs.Route.{RouteParts}
use Rattle.agent_core.specs.Requests as specs
use Rattle.agent_core.proofs.RequestLemmas.JudgedRequests.{proxies_are_short}
use Rattle.agent_core.proofs.requests.prepare.Goals as goal

pub image-requires-clause-route : goal.image-requires-clause-route
image-requires-clause-route c =
    let fits = c.in_ok-own.ensures.fits in
    record { session = rw c.as_slice.ensures fits.session; realm = rw c.as_slice-2.ensures fits.realm; host = fits.host }

pub returns-clause-kept : goal.returns-clause-kept
returns-clause-kept c key =
    let same = c.in_ok-own.ensures.route key in
    rw (
      c.id.ensures,
      c.authenticator.ensures,
      c.in_ok-proxy.ensures.text,
      c.cause_of.ensures,
      ap (λ (r : RouteParts). r.session) same,
      ap (λ (r : RouteParts). r.realm) same,
    ) refl

pub returns-clause-sent : goal.returns-clause-sent
returns-clause-sent c key =
    let packet = c.args.request.now.packet in
    c.in_ok-sent.ensures.text
    ∙ rw (c.as_slice.ensures, c.as_slice-2.ensures) (ap (λ (r : RouteParts). specs.image c.args.request.now.kind c.args.request.now.settings.now packet r c.args.numbers) (c.in_ok-own.ensures.route key))

pub returns-clause-fresh : goal.returns-clause-fresh
returns-clause-fresh c key = c.in_ok-own.ensures.fresh key

pub returns-clause-fits : goal.returns-clause-fits
returns-clause-fits c =
    let fits = c.in_ok-own.ensures.fits in
    let short = proxies_are_short c.args.request.now.kind c.args.request.now.settings.now c.args.request.now.packet c.requires.request.judged in
    record {
      client = slice_get_within _ _ _ c.requires.request.client;
      session = fits.session;
      realm = fits.realm;
      proxy = c.in_ok-proxy.ensures.whole;
      few = omega (arith, short, ap length c.in_ok-proxy.ensures.text);
    }
