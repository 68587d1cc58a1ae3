use Rattle.std.proofs.Common.{◌∙◌, length, refl, subst, arith}
use Rattle.std.specs.Arc.{arc_value}
use Rattle.turnstile.specs.Passes.{known}
use Rattle.turnstile.specs.Turns.{of}
use Rattle.server_workers.specs.declared.running.Next.TheVariants as next
use Rattle.server_workers.specs.Running.{ComesNext, StopsFor, number_in}
use Rattle.server_workers.proofs.LinkOverLemmas.{made-so-far, order-go, order-stop}
use Rattle.server_workers.proofs.NextLinkLemmas.{goes-after, keeps-on, keeps-one, keeps-same, ticked-on, ticked-still}
use Rattle.server_workers.proofs.running.serve_links.Goals as goal

pub loop-init : goal.loop-init
loop-init g c = record {
  table = refl;
  started = c.requires.started;
  row = c.requires.row;
  first = refl;
  ticked = ticked-still (of 0 (known c.args.pass.now).seen) (g.L.Dialer.told c.args.dialer.now).faults;
  unrefused = refl;
  begun = omega arith;
  kept = keeps-same (length c.args.past.now.pairs.items) (g.L.Dialer.made c.args.dialer.now) (g.L.Dialer.made c.args.dialer.now) refl;
  order = λ made ordered is. ordered;
  ports = refl;
}

pub serve_one-requires-clause-table : goal.serve_one-requires-clause-table
serve_one-requires-clause-table g c κs within = c.loop.invariant.table ∙ c.requires.table

pub loop-preserved : goal.loop-preserved
loop-preserved g c =
    let goes = c.in-Go.ensures.next in
    record {
      table = c.in-Go.ensures.table ∙ c.loop.invariant.table;
      started = goes.started;
      row = goes.row;
      first = goes.first ∙ c.loop.invariant.first;
      ticked = ticked-on (of 0 (known c.args.pass.now).seen) (of 0 (known c.loop.pass).seen) (of 0 (known c.serve_one.new.pass).seen) (g.L.Dialer.told c.args.dialer.now).faults
          (g.L.Dialer.told c.loop.dialer).faults (g.L.Dialer.told c.serve_one.new.dialer).faults c.loop.invariant.ticked goes.ticked;
      unrefused = goes.unrefused ∙ c.loop.invariant.unrefused;
      begun = omega (arith, c.loop.invariant.begun, c.serve_one.ensures.started);
      kept = keeps-one _ _ (length c.serve_one.new.past.pairs.items) _ _ (g.L.Dialer.made c.serve_one.new.dialer) c.loop.invariant.kept c.in-Go.ensures.kept;
      order = λ made ordered is.
          order-go made (g.L.Dialer.made c.loop.dialer) _ _ _ (c.loop.invariant.order made ordered is)
          (made-so-far g.L.In.LinkIn.told c.loop.past.pairs.items (number_in g.L.In.LinkIn.told c.loop.live.helper) _ _ _ made c.loop.invariant.kept is) c.in-Go.ensures.order;
      ports = c.in-Go.ensures.ports ∙ c.loop.invariant.ports;
    }

pub returns-in-Stop-clause-ends : goal.returns-in-Stop-clause-ends
returns-in-Stop-clause-ends g c =
    let stop = next.Stop c.in-Stop.end c.in-Stop.twins in
    let before = known c.loop.pass in
    let now = known c.serve_one.new.pass in
    let dials = g.L.Dialer.told c.loop.dialer in
    let later = g.L.Dialer.told c.serve_one.new.dialer in
    let starts = g.W.Crew.faults c.serve_one.new.crew in
    let told = g.D.Datagrams.told in
    goes-after g.L.In.LinkIn.told g.L.Out.LinkOut.told told stop (arc_value c.args.turnstile.now) (g.L.Dialer.told c.args.dialer.now) dials later (g.W.Crew.faults c.args.crew.now)
    starts (known c.args.pass.now) before now c.serve_one.new.past c.loop.invariant.first c.loop.invariant.ticked
    (subst (λ n. ComesNext g.L.In.LinkIn.told g.L.Out.LinkOut.told told stop (arc_value c.args.turnstile.now) dials later n starts before now c.serve_one.new.past)
    c.loop.invariant.unrefused c.in-Stop.ensures.next)

pub returns-in-Stop-clause-stops : goal.returns-in-Stop-clause-stops
returns-in-Stop-clause-stops g c =
    subst (λ n. StopsFor c.in-Stop.end (g.L.Dialer.told c.serve_one.new.dialer).row n (g.W.Crew.faults c.serve_one.new.crew)) c.loop.invariant.unrefused c.in-Stop.ensures.stops

pub returns-in-Stop-clause-started : goal.returns-in-Stop-clause-started
returns-in-Stop-clause-started g c = omega (arith, c.loop.invariant.begun, c.serve_one.ensures.started)

pub returns-in-Stop-clause-kept : goal.returns-in-Stop-clause-kept
returns-in-Stop-clause-kept g c =
    keeps-on (length c.args.past.now.pairs.items) (length c.loop.past.pairs.items) (length c.serve_one.new.past.pairs.items) (g.L.Dialer.made c.args.dialer.now)
    (g.L.Dialer.made c.loop.dialer) (g.L.Dialer.made c.serve_one.new.dialer) c.loop.invariant.kept c.in-Stop.ensures.kept

pub returns-in-Stop-clause-ports : goal.returns-in-Stop-clause-ports
returns-in-Stop-clause-ports g c = c.in-Stop.ensures.ports ∙ c.loop.invariant.ports

pub returns-in-Stop-clause-order : goal.returns-in-Stop-clause-order
returns-in-Stop-clause-order g c = λ made ordered is.
    order-stop made (g.L.Dialer.made c.loop.dialer) _ _ (c.loop.invariant.order made ordered is)
    (made-so-far g.L.In.LinkIn.told c.loop.past.pairs.items (number_in g.L.In.LinkIn.told c.loop.live.helper) _ _ _ made c.loop.invariant.kept is) c.in-Stop.ensures.order
