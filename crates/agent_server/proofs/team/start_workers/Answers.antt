use Rattle.std.specs.Arc.{arc_value}
use Rattle.radius_packet.specs.declared.reasons.Via.TheVariants.{Auth, Acct}
use Rattle.turnstile.specs.Passes.{known}
use Rattle.agent_server.proofs.StartingLemmas.{link-can-run, reader-can-run, team-of, unteamed-of}
use Rattle.agent_server.proofs.team.start_workers.Goals as goal

pub start_team-requires-clause-can : goal.start_team-requires-clause-can
start_team-requires-clause-can g c κs within =
    let told = g.D.Datagrams.told in
    let hears = g.I.LinkIn.told in
    let turnstile = arc_value c.args.turnstile.now in
    let k = known c.make_workers-workers.new.pass in
    let workers = c.make_workers-workers.result in
    let made = c.make_workers-workers.ensures in
    let auth = reader-can-run told hears turnstile 1 Auth k c.args.auth workers.auth made.auth c.requires.rows.0 in
    let acct = reader-can-run told hears turnstile 2 Acct k c.args.acct workers.acct made.acct c.requires.rows.1 in
    let link = link-can-run told hears turnstile 3 k c.args.link c.args.twins workers.link made.link c.requires.fresh in
    (auth, acct, link)

pub returns-clause-ok : goal.returns-clause-ok
returns-clause-ok g c =
    let made = c.make_workers-workers.ensures in
    team-of (arc_value c.args.turnstile.now) (known c.make_workers-workers.new.pass) c.args.auth c.args.acct c.args.link c.args.twins c.make_workers-workers.result
    made.auth made.acct made.link c.start_team.result c.start_team.ensures.ok

pub returns-clause-err : goal.returns-clause-err
returns-clause-err g c =
    let made = c.make_workers-workers.ensures in
    unteamed-of (arc_value c.args.turnstile.now) (known c.make_workers-workers.new.pass) c.args.auth c.args.acct c.args.link c.args.twins c.make_workers-workers.result
    made.auth made.acct made.link c.start_team.result c.start_team.ensures.err
