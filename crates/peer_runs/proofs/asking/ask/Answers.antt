use Rattle.std.proofs.Common.{arith}
use Rattle.peer_runs.proofs.AskingLemmas.{ends-err, ends-none, ends-reply, going-first, going-look, going-step, still-on}
use Rattle.peer_runs.proofs.asking.ask.Goals as goal

pub loop-init : goal.loop-init
loop-init g c = record {
  going = going-first c.args.place c.args.nas.now c.args.buf.now (g.C.Clock.readings c.args.clock.now) (g.D.Datagrams.told c.args.socket.now);
  row = c.requires.row;
  few = c.requires.few;
  faults = omega arith;
}

pub returns-in-Reply-clause-asks : goal.returns-in-Reply-clause-asks
returns-in-Reply-clause-asks g c =
    let going = c.loop.invariant.going in
    let after = going-step c.step_once.new.nas c.step_once.result _ _ _ going c.front-got.ensures c.step_once.ensures.steps in
    ends-reply c.step_once.result c.loop.count c.loop.buf after c.in-Reply.is c.front-got.ensures going.within

pub returns-in-GaveUp-clause-asks : goal.returns-in-GaveUp-clause-asks
returns-in-GaveUp-clause-asks g c =
    let after = going-step c.step_once.new.nas c.step_once.result _ _ _ c.loop.invariant.going c.front-got.ensures c.step_once.ensures.steps in
    ends-none c.step_once.result c.loop.buf after c.in-GaveUp.is

pub returns-then-failures-eq-MOST_FAILURES-clause-asks : goal.returns-then-failures-eq-MOST_FAILURES-clause-asks
returns-then-failures-eq-MOST_FAILURES-clause-asks g c =
    let after = going-step c.step_once.new.nas c.step_once.result _ _ _ c.loop.invariant.going c.front-got.ensures c.step_once.ensures.steps in
    ends-err c.look-count.result c.look-count.new.buf _ after (still-on c.step_once.result c.in-Send.is) c.look-count.ensures.looks
    (c.look-count.ensures.failed c.if-failures-eq-MOST_FAILURES.true)

pub loop-preserved : goal.loop-preserved
loop-preserved g c =
    let after = going-step c.step_once.new.nas c.step_once.result _ _ _ c.loop.invariant.going c.front-got.ensures c.step_once.ensures.steps in
    record {
      going = going-look c.look-count.result c.look-count.new.buf _ after (still-on c.step_once.result c.in-Send.is) c.look-count.ensures.looks;
      row = c.look-count.ensures.row;
      few = omega (arith, c.look-count.ensures.most, c.if-failures-eq-MOST_FAILURES.false);
      faults = omega (arith, c.loop.invariant.faults, c.step_once.ensures.faults_stay, c.look-count.ensures.faults_stay);
    }
