use Rattle.std.proofs.Common.{◌||◌, rules, refl, sym, ap, ◌∙◌, subst}
use Rattle.turnstile.specs.Passes.{known}
use Rattle.turnstile.specs.Turns.{plain}
use Rattle.agent_server.specs.Desks.{HasSent}
use Rattle.agent_server.specs.Runs.{entries_recorded}
use Rattle.agent_server.specs.Server.{status_given}
use Rattle.agent_server.proofs.ConcludingLemmas.{all-served}
use Rattle.agent_server.proofs.server.conclude.Goals as goal

pub returns-clause-served : goal.returns-clause-served
returns-clause-served g c = λ base first then last starts now auth_socket acct_socket k done.
    all-served g.C.Clock.readings g.D.Datagrams.told g.I.LinkIn.told g.O.LinkOut.told base first then last starts now auth_socket acct_socket k (known c.args.pass)
    (known c.join-2.new.pass) c.args.end c.args.twins c.args.past c.args.auth c.args.acct c.close-desk.result.0 c.into_end-tools.result _ c.status_of.result done (record {
      middle = known c.join.new.pass;
      auth_joined = c.join.ensures.joined;
      acct_joined = c.join-2.ensures.joined;
      turns = c.close-desk.ensures.turns;
      stood = c.close-desk.ensures.stands base;
      last_is = c.into_end-tools.ensures;
      entries = refl;
      lost = search rules;
      again = refl;
      auth_twin = refl;
      acct_twin = refl;
      links = c.from_vec.ensures;
      status_is = c.status_of.ensures ∙ ap (λ n. status_given c.args.end (c.args.auth.failed || c.args.acct.failed) c.into_end-tools.result.closed n) (c.len.ensures ∙ c.args.past.pairs.ok.0);
    })

pub returns-clause-links : goal.returns-clause-links
returns-clause-links g c = c.from_vec.ensures

pub returns-clause-sent : goal.returns-clause-sent
returns-clause-sent g c = λ base carries.
    let first = c.join-2.ensures.joined.first.0 ∙ c.join.ensures.joined.first.0 in
    let stands = c.close-desk.ensures.stands base (carries.0, first ∙ carries.1, carries.2) in
    subst (λ tools. HasSent base.sender tools.sender (entries_recorded base.config (plain c.close-desk.result.1))) (sym (ap (λ end. end.tools) c.into_end-tools.ensures)) stands.sent
