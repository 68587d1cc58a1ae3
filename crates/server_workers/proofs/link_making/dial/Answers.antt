use Rattle.std.proofs.Common.{◌∙◌, refl, subst}
use Rattle.turnstile.specs.Passes.{known}
use Rattle.server_workers.specs.Running.{TookTick}
use Rattle.server_workers.proofs.DialLemmas.{dialling-finished, dialling-none, dialling-on}
use Rattle.server_workers.proofs.link_making.dial.Goals as goal

pub loop-row-init : goal.loop-row-init
loop-row-init g c = record {
  table = refl;
  so_far = dialling-none (known c.args.pass.now) (g.L.Dialer.told c.args.dialer.now) c.requires.row;
  made = refl;
}

pub returns-then-row-lt-MOST_DIALS-clause-dialled : goal.returns-then-row-lt-MOST_DIALS-clause-dialled
returns-then-row-lt-MOST_DIALS-clause-dialled g c =
    let (turn, went, took) = c.tick.ensures.ticked in
    dialling-finished g.L.In.LinkIn.told g.L.Out.LinkOut.told _ _ _ _ _ _ c.loop-row.row turn c.if-row-lt-MOST_DIALS.true c.loop-row.invariant.so_far c.in_default.ensures.dialled went
    (subst (λ b. TookTick b turn) c.if-tick.true took)

pub loop-row-preserved : goal.loop-row-preserved
loop-row-preserved g c =
    let (turn, went, took) = c.tick.ensures.ticked in
    record {
      table = c.tick.ensures.table ∙ c.loop-row.invariant.table;
      so_far = dialling-on _ _ _ _ _ _ c.loop-row.row _ turn c.loop-row-test.true c.loop-row.invariant.so_far c.in_default.ensures.dialled went took;
      made = c.in_default.ensures.counted.stays (λ some. cc) ∙ c.loop-row.invariant.made;
    }

pub returns-then-row-lt-MOST_DIALS-clause-made : goal.returns-then-row-lt-MOST_DIALS-clause-made
returns-then-row-lt-MOST_DIALS-clause-made g c = c.in_default.ensures.counted.stays (λ some. cc) ∙ c.loop-row.invariant.made

pub returns-in-Some-clause-numbered : goal.returns-in-Some-clause-numbered
returns-in-Some-clause-numbered g c = λ n told. c.in-Some.ensures.numbered n told ∙ c.loop-row.invariant.made
