use Rattle.std.proofs.Common.{rules}
use Rattle.std.specs.Arc.{arc_value}
use Rattle.turnstile.specs.Passes.{known}
use Rattle.agent_server.proofs.BackLemmas.{joined-more, link-worker, unstarted-at}
use Rattle.agent_server.proofs.team.rejoin_link.Goals as goal

pub reader_unstarted-back-requires : goal.reader_unstarted-back-requires
reader_unstarted-back-requires g c =
    let (n, at) = c.requires.theirs in
    link-worker (arc_value c.args.turnstile.now) n c.args.reader at

pub join-requires : goal.join-requires
join-requires g c =
    let (n, at) = c.requires.theirs in
    let there = unstarted-at (arc_value c.args.turnstile.now) n c.args.reader c.reader_unstarted-back.result at c.reader_unstarted-back.ensures in
    record { tables = search rules }

pub returns-clause-one_more : goal.returns-clause-one_more
returns-clause-one_more g c =
    let (n, at) = c.requires.theirs in
    let there = unstarted-at (arc_value c.args.turnstile.now) n c.args.reader c.reader_unstarted-back.result at c.reader_unstarted-back.ensures in
    joined-more n (known c.args.pass.now) (known c.reader_unstarted-back.result.pass) (known c.join.new.pass) there.1 c.join.ensures.joined
