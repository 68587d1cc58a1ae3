use Rattle.std.proofs.Common.{rules}
use Rattle.std.specs.Arc.{arc_value}
use Rattle.turnstile.specs.Passes.{known}
use Rattle.agent_server.proofs.BackLemmas.{back-at, joined-more, start-worker}
use Rattle.agent_server.proofs.team.rejoin_socket.Goals as goal

pub socket_back-back-requires-clause-worker : goal.socket_back-back-requires-clause-worker
socket_back-back-requires-clause-worker g c κs within =
    let (n, at) = c.requires.theirs in
    start-worker (arc_value c.args.turnstile.now) n c.args.reader at

pub join-requires : goal.join-requires
join-requires g c =
    let (n, at) = c.requires.theirs in
    let there = back-at (arc_value c.args.turnstile.now) n g.D.Datagrams.told c.args.reader c.socket_back-back.result at c.socket_back-back.ensures.back in
    record { tables = search rules }

pub returns-clause-one_more : goal.returns-clause-one_more
returns-clause-one_more g c =
    let (n, at) = c.requires.theirs in
    let there = back-at (arc_value c.args.turnstile.now) n g.D.Datagrams.told c.args.reader c.socket_back-back.result at c.socket_back-back.ensures.back in
    joined-more n (known c.args.pass.now) (known c.socket_back-back.result.pass) (known c.join.new.pass) there.1 c.join.ensures.joined
