use Rattle.std.proofs.Common.{Ok, ◌∙◌, length, arith}
use Rattle.std.specs.Arc.{arc_value}
use Rattle.turnstile.specs.Passes.{known}
use Rattle.agent_server.proofs.BackLemmas.{back-at, reader-worker}
use Rattle.agent_server.proofs.ConcludingLemmas.{all-done, kept-links, order-at, twins-at}
use Rattle.agent_server.proofs.StartingLemmas.{carries-same}
use Rattle.agent_server.proofs.server.lead.Goals as goal

pub socket_ran-auth-requires-clause-worker : goal.socket_ran-auth-requires-clause-worker
socket_ran-auth-requires-clause-worker g c κs within = reader-worker (arc_value c.args.turnstile.now) 1 c.args.team.auth c.requires.readers.0

pub socket_ran-acct-requires-clause-worker : goal.socket_ran-acct-requires-clause-worker
socket_ran-acct-requires-clause-worker g c κs within = reader-worker (arc_value c.args.turnstile.now) 2 c.args.team.acct c.requires.readers.1

pub conclude-requires-clause-auth : goal.conclude-requires-clause-auth
conclude-requires-clause-auth g c =
    back-at (arc_value c.args.turnstile.now) 1 g.D.Datagrams.told (Ok c.args.team.auth) c.socket_ran-auth.result c.requires.readers.0 c.socket_ran-auth.ensures.back

pub conclude-requires-clause-acct : goal.conclude-requires-clause-acct
conclude-requires-clause-acct g c =
    back-at (arc_value c.args.turnstile.now) 2 g.D.Datagrams.told (Ok c.args.team.acct) c.socket_ran-acct.result c.requires.readers.1 c.socket_ran-acct.ensures.back

pub returns-clause-served : goal.returns-clause-served
returns-clause-served g c = λ base dials auth acct carries dialled grows auth_starts acct_starts.
    c.conclude.ensures.served base dials _ _ _ _ auth acct (known c.args.pass)
    (all-done g.D.Datagrams.told g.C.Clock.readings g.L.In.LinkIn.told g.L.Out.LinkOut.told base dials _ _ _ _ _ auth acct _ _ _ _ _ c.args.team.auth c.args.team.acct _ _
    carries dialled grows c.serve_links-end.ensures.ends c.serve_links-end.ensures.stops (c.socket_ran-acct.ensures.faults ∙ c.socket_ran-auth.ensures.faults) auth_starts acct_starts
    c.socket_ran-auth.ensures.back c.socket_ran-acct.ensures.back)

pub returns-clause-kept : goal.returns-clause-kept
returns-clause-kept g c =
    kept-links c.conclude.result.trail c.serve_links-end.new.past.pairs.items (length c.args.past.pairs.items) _ _ c.conclude.ensures.links c.serve_links-end.ensures.kept

pub returns-clause-started : goal.returns-clause-started
returns-clause-started g c = omega (arith, c.serve_links-end.ensures.started, c.socket_ran-auth.ensures.started, c.socket_ran-acct.ensures.started)

pub returns-clause-ports : goal.returns-clause-ports
returns-clause-ports g c = twins-at g.D.Datagrams.told c.conclude.result.trail c.serve_links-end.result.1 _ c.conclude.ensures.twins c.serve_links-end.ensures.ports

pub returns-clause-order : goal.returns-clause-order
returns-clause-order g c = λ made ordered is.
    order-at g.L.In.LinkIn.told c.conclude.result.trail c.serve_links-end.new.past.pairs.items made c.conclude.ensures.links (c.serve_links-end.ensures.order made ordered is)

pub returns-clause-sent : goal.returns-clause-sent
returns-clause-sent g c = λ base carries.
    c.conclude.ensures.sent base (carries-same g.C.Clock.readings (known c.args.pass) (known c.serve_links-end.new.pass) base c.serve_links-end.ensures.ends.first carries)
