use Rattle.std.proofs.Common.{None, Some, sym, subst, arith}
use Rattle.turnstile.specs.Passes.{known}
use Rattle.server_workers.specs.SocketReading.{ReadsOnce}
use Rattle.server_workers.proofs.SocketReadingLemmas.{took-tick}
use Rattle.server_workers.proofs.socket_reader.pass_time.Goals as goal

pub returns-in-Some-clause-reads : goal.returns-in-Some-clause-reads
returns-in-Some-clause-reads g c = λ via before found.
    let told = g.D.Datagrams.told in
    let k = known c.args.pass.now in
    let l = known c.answer.new.pass in
    let u = told c.answer.new.socket in
    subst (λ over. ReadsOnce via k l before u c.args.counts.now (record { lost = c.args.counts.now.lost; row = 0 }) over) (sym c.is_last.ensures)
    (took-tick via k l before (told c.args.socket.now) u c.args.counts.now (omega (arith, c.requires.range)) (Some c.in-Some.heard) found c.in-Some.ensures.went c.in-Some.ensures.hands)

pub returns-in-None-clause-reads : goal.returns-in-None-clause-reads
returns-in-None-clause-reads g c = λ via before found.
    let told = g.D.Datagrams.told in
    let k = known c.args.pass.now in
    let l = known c.answer.new.pass in
    let u = told c.answer.new.socket in
    took-tick via k l before (told c.args.socket.now) u c.args.counts.now (omega (arith, c.requires.range)) None found c.in-None.ensures.went c.in-None.ensures.hands
