use Rattle.std.proofs.Common.{Some, None, refl, sym, ◌∙◌, subst}
use Rattle.wire_devices.specs.Links.{Outlet}
use Rattle.turnstile.specs.Passes.{known}
use Rattle.server_workers.proofs.WritingLemmas.{Rounds, rounds-none, rounds-on, wrote-closed, wrote-left}
use Rattle.server_workers.proofs.link_writer.write_link.Goals as goal

pub loop-init : goal.loop-init
loop-init g c = (refl, rounds-none (known c.args.pass.now) (g.O.LinkOut.told c.args.link.now))

pub loop-preserved-in_default : goal.loop-preserved-in_default
loop-preserved-in_default g c = (
  c.in_default.ensures.table ∙ c.loop.invariant.0,
  subst (λ (o : Outlet). Rounds c.drain.new.sound (known c.args.pass.now) (known c.drain.new.pass) (g.O.LinkOut.told c.args.link.now) o) (sym c.rest.ensures)
      (rounds-on None _ _ _ _ _ _ _ _ c.loop.invariant.1 c.in_default.ensures.wrote tt),
)

pub returns-in-Some-goes_for-clause-wrote : goal.returns-in-Some-goes_for-clause-wrote
returns-in-Some-goes_for-clause-wrote g c =
    wrote-closed c.in-Some-drain.heard _ _ _ _ _ _ _ _ _ c.loop.invariant.1 c.in-Some-drain.ensures.wrote c.in-Some-goes_for.ensures.cause

pub returns-then-heard-clause-wrote : goal.returns-then-heard-clause-wrote
returns-then-heard-clause-wrote g c =
    wrote-left _ c.in-Some-drain.heard _ _ _ _ _ _ _ _ _ _ _ c.loop.invariant.1 c.in-Some-drain.ensures.wrote
    (c.in_default-goes_for.ensures.leave c.if-heard.true) c.leave.ensures.took

pub loop-preserved : goal.loop-preserved
loop-preserved g c = (
  c.in-Some-drain.ensures.table ∙ c.loop.invariant.0,
  subst (λ (o : Outlet). Rounds c.drain.new.sound (known c.args.pass.now) (known c.drain.new.pass) (g.O.LinkOut.told c.args.link.now) o) (sym c.rest-in-loop.ensures)
      (rounds-on (Some c.in-Some-drain.heard) _ _ _ _ _ _ _ _ c.loop.invariant.1 c.in-Some-drain.ensures.wrote
      ((c.in_default-goes_for.ensures.none c.if-heard.false, c.if-heard.false), tt)),
)
