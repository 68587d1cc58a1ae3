use Rattle.std.proofs.Common.{◌≤◌, List, Some, None, refl, ◌∙◌, subst, inl, inr, arith}
use Rattle.test_peers.specs.declared.users.User.{User}
use Rattle.peer_runs.specs.HomeRuns.{KeepsAnswering, Rests}
use Rattle.peer_runs.proofs.HomeRunLemmas.{linked, rests-fresh}
use Rattle.peer_runs.proofs.UntilLemmas.{early-more, early-none, late-at}
use Rattle.peer_runs.proofs.home_run.answer_link.Goals as goal

pub loop-init : goal.loop-init
loop-init g c =
    let faults : g.K.Sink.faults c.args.output.now ≤ g.K.Sink.faults c.args.output.now = omega arith in
    record {
      users = refl;
      faults = faults;
      time = early-none c.args.until (g.C.Clock.readings c.args.clock.now);
      answers = rests-fresh c.args.home.now c.new-framer.result (g.I.LinkIn.told c.args.link.now.0) (g.O.LinkOut.told c.args.link.now.1) (g.K.Sink.written c.args.output.now)
          c.new-framer.ensures.stands c.requires.fresh.0 c.requires.fresh.1;
    }

pub returns-then-now-until-clause-runs : goal.returns-then-now-until-clause-runs
returns-then-now-until-clause-runs g c =
    let rests = c.loop.invariant.answers in
    inr (late-at c.args.until c.now.result c.loop.invariant.time c.now.ensures c.if-now-until.true, refl, rests.all, rests.counted)

pub returns-in-Some-look-clause-runs : goal.returns-in-Some-look-clause-runs
returns-in-Some-look-clause-runs g c =
    let before = g.K.Sink.written c.args.output.now in
    let goes = subst (λ (us : List User). Rests us c.loop.framer (linked (g.I.LinkIn.told c.loop.link.0) (g.O.LinkOut.told c.loop.link.1) before (g.K.Sink.written c.loop.output))
    → KeepsAnswering (Some c.in-Some-look.status) us c.look.new.framer (linked (g.I.LinkIn.told c.look.new.link.0) (g.O.LinkOut.told c.look.new.link.1) before (g.K.Sink.written c.look.new.output)))
    c.loop.invariant.users (c.in-Some-look.ensures.answers before) in
    inl (early-more c.args.until c.now.result c.loop.invariant.time c.now.ensures (omega (arith, c.if-now-until.false)), goes c.loop.invariant.answers)

pub loop-preserved : goal.loop-preserved
loop-preserved g c =
    let before = g.K.Sink.written c.args.output.now in
    let goes = subst (λ (us : List User). Rests us c.loop.framer (linked (g.I.LinkIn.told c.loop.link.0) (g.O.LinkOut.told c.loop.link.1) before (g.K.Sink.written c.loop.output))
    → KeepsAnswering None us c.look.new.framer (linked (g.I.LinkIn.told c.look.new.link.0) (g.O.LinkOut.told c.look.new.link.1) before (g.K.Sink.written c.look.new.output)))
    c.loop.invariant.users (c.in_default.ensures.answers before) in
    let faults : g.K.Sink.faults c.args.output.now ≤ g.K.Sink.faults c.look.new.output = omega (arith, c.loop.invariant.faults, c.look.ensures.faults_stay) in
    record {
      users = c.look.ensures.users ∙ c.loop.invariant.users;
      faults = faults;
      time = early-more c.args.until c.now.result c.loop.invariant.time c.now.ensures (omega (arith, c.if-now-until.false));
      answers = goes c.loop.invariant.answers;
    }
