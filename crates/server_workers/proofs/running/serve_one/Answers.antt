use Rattle.std.proofs.Common.{inl, ◌∙◌, ◌+◌, length, refl, subst, sym, arith}
use Rattle.std.specs.Arc.{arc_value}
use Rattle.wire_core.specs.Counts.{Rose}
use Rattle.turnstile.specs.Passes.{known}
use Rattle.turnstile.specs.Turns.{of}
use Rattle.server_workers.specs.Running.{ComesNext, Keeps, KeepsAll, NextInOrder, StopsAs, numbers_of}
use Rattle.server_workers.proofs.NextLinkLemmas.{goes-after, keeps-same, over-ends, over-rests, ticked-none}
use Rattle.server_workers.proofs.running.serve_one.Goals as goal

pub returns-in-Some-clause-next : goal.returns-in-Some-clause-next
returns-in-Some-clause-next g c =
    over-ends g.L.In.LinkIn.told g.L.Out.LinkOut.told g.D.Datagrams.told c.serve_link-end.result.0 c.in-Some.end (g.L.Dialer.told c.args.dialer.now)
    (Rose (g.W.Crew.faults c.args.crew.now) (g.W.Crew.faults c.serve_link-end.new.crew)) (known c.args.pass.now) (known c.serve_link-end.new.pass) c.serve_link-end.result.1
    c.serve_link-end.new.past c.requires.row (sym c.in-Some.ensures) c.serve_link-end.ensures.over

pub next_link-requires-clause-table : goal.next_link-requires-clause-table
next_link-requires-clause-table g c κs within = c.serve_link-end.ensures.table ∙ c.requires.table

pub next_link-requires-clause-rests : goal.next_link-requires-clause-rests
next_link-requires-clause-rests g c κs within =
    over-rests g.L.In.LinkIn.told g.L.Out.LinkOut.told g.D.Datagrams.told c.serve_link-end.result.0 (known c.args.pass.now) (known c.serve_link-end.new.pass) c.serve_link-end.result.1
    c.serve_link-end.new.past (sym c.in-None.ensures) c.serve_link-end.ensures.over

pub returns-in-None-clause-next : goal.returns-in-None-clause-next
returns-in-None-clause-next g c =
    let before = known c.args.pass.now in
    let then = known c.serve_link-end.new.pass in
    let now = known c.next_link.new.pass in
    let dials = g.L.Dialer.told c.args.dialer.now in
    let later = g.L.Dialer.told c.next_link.new.dialer in
    let over = c.serve_link-end.ensures.over in
    let told = g.D.Datagrams.told in
    goes-after g.L.In.LinkIn.told g.L.Out.LinkOut.told told c.next_link.result (arc_value c.args.turnstile.now) dials dials later (g.W.Crew.faults c.args.crew.now)
    (g.W.Crew.faults c.next_link.new.crew) before then now c.next_link.new.past over.first (ticked-none (of 0 before.seen) (of 0 then.seen) dials.faults over.ticked)
    (subst (λ n. ComesNext g.L.In.LinkIn.told g.L.Out.LinkOut.told told c.next_link.result (arc_value c.args.turnstile.now) dials later n (g.W.Crew.faults c.next_link.new.crew) then now
    c.next_link.new.past) c.serve_link-end.ensures.faults c.next_link.ensures.next)

pub returns-in-Some-clause-stops : goal.returns-in-Some-clause-stops
returns-in-Some-clause-stops g c = record {
  threads = λ more. absurd (omega (arith, more, c.serve_link-end.ensures.faults));
  dials = λ full. absurd (omega (arith, full, c.requires.row));
}

pub returns-in-None-clause-stops : goal.returns-in-None-clause-stops
returns-in-None-clause-stops g c =
    subst (λ n. StopsAs c.next_link.result (g.L.Dialer.told c.next_link.new.dialer).row n (g.W.Crew.faults c.next_link.new.crew)) c.serve_link-end.ensures.faults c.next_link.ensures.stops

pub returns-in-Some-clause-kept : goal.returns-in-Some-clause-kept
returns-in-Some-clause-kept g c =
    subst (λ n. Keeps (length c.args.past.now.pairs.items + 1) n (g.L.Dialer.made c.args.dialer.now) (g.L.Dialer.made c.args.dialer.now)) (sym c.serve_link-end.ensures.kept)
    (keeps-same (length c.args.past.now.pairs.items + 1) (g.L.Dialer.made c.args.dialer.now) (g.L.Dialer.made c.args.dialer.now) refl)

pub returns-in-None-clause-kept : goal.returns-in-None-clause-kept
returns-in-None-clause-kept g c =
    subst (λ n. KeepsAll c.next_link.result n (length c.next_link.new.past.pairs.items) (g.L.Dialer.made c.args.dialer.now) (g.L.Dialer.made c.next_link.new.dialer))
    c.serve_link-end.ensures.kept c.next_link.ensures.kept

pub returns-in-None-clause-ports : goal.returns-in-None-clause-ports
returns-in-None-clause-ports g c = c.next_link.ensures.ports ∙ c.serve_link-end.ensures.ports

pub returns-in-Some-clause-order : goal.returns-in-Some-clause-order
returns-in-Some-clause-order g c = inl c.serve_link-end.ensures.numbers

pub returns-in-None-clause-order : goal.returns-in-None-clause-order
returns-in-None-clause-order g c =
    subst (λ xs. NextInOrder g.L.In.LinkIn.told c.next_link.result (g.L.Dialer.made c.args.dialer.now) xs (numbers_of g.L.In.LinkIn.told c.next_link.new.past.pairs.items))
    c.serve_link-end.ensures.numbers c.next_link.ensures.order
