use Rattle.std.proofs.Common.{arith, flat_map, subst}
use Rattle.server_workers.specs.Entries.{reply_of}
use Rattle.server_workers.specs.SocketReading.{Hands}
use Rattle.turnstile.specs.Passes.{known}
use Rattle.server_workers.proofs.SocketReadingLemmas.{took-leave, took-none}
use Rattle.server_workers.proofs.socket_reader.count_failure.Goals as goal

pub returns-then-counts-lt-MOST_FAILURES-clause-reads : goal.returns-then-counts-lt-MOST_FAILURES-clause-reads
returns-then-counts-lt-MOST_FAILURES-clause-reads g c = λ via before failed same.
    let k = known c.args.pass.now in
    let t = g.D.Datagrams.told c.args.socket.now in
    took-none via k k before t t c.args.counts.now (omega (arith, c.requires.range)) failed same c.if-counts-lt-MOST_FAILURES.true

pub returns-clause-reads : goal.returns-clause-reads
returns-clause-reads g c = λ via before failed same.
    let told = g.D.Datagrams.told in
    let (tries, went, asked) = c.take_leave-left.ensures.left in
    took-leave via (known c.args.pass.now) (known c.take_leave-left.new.pass) before (told c.args.socket.now) (told c.send_replies.new.socket) c.args.counts.now (omega (arith, c.requires.range))
    c.take_leave-left.result tries asked failed same (omega (arith, c.requires.few, c.if-counts-lt-MOST_FAILURES.false)) went
    (subst (λ os. Hands (told c.args.socket.now) (told c.send_replies.new.socket) (flat_map reply_of os)) c.as_slice.ensures c.send_replies.ensures)
