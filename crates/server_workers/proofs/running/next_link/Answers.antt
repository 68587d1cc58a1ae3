use Rattle.std.proofs.Common.{inl, arith, length, refl, subst, sym}
use Rattle.std.specs.Arc.{arc_value}
use Rattle.turnstile.specs.Passes.{known}
use Rattle.server_workers.specs.Running.{StopsAs}
use Rattle.server_workers.proofs.NextLinkLemmas.{ends-finished, ends-undialled, ends-worn, goes-after, keeps-pair, keeps-same, rests-on, ticked-dials}
use Rattle.server_workers.proofs.running.next_link.Goals as goal

pub returns-then-len-ge-MOST_LINKS-clause-next : goal.returns-then-len-ge-MOST_LINKS-clause-next
returns-then-len-ge-MOST_LINKS-clause-next g c =
    let (tries, (left, went, asked)) = c.give_up.ensures.went in
    rw c.give_up.ensures.next
    (ends-worn g.L.In.LinkIn.told g.L.Out.LinkOut.told g.D.Datagrams.told (g.L.Dialer.told c.args.dialer.now) _ (known c.args.pass.now) (known c.give_up.new.pass) c.args.twins
    c.args.past.now tries left asked c.requires.row c.requires.rests went (omega (arith, c.len.ensures, c.if-len-ge-MOST_LINKS.true)))

pub open_link-requires-clause-rests : goal.open_link-requires-clause-rests
open_link-requires-clause-rests g c κs within =
    let (mine, went, d) = c.in-Made.ensures.dialled in
    rests-on g.L.In.LinkIn.told g.L.Out.LinkOut.told g.D.Datagrams.told (known c.args.pass.now) (known c.dial.new.pass) c.args.twins c.args.past.now mine d.asks went c.requires.rests

pub returns-in-Made-clause-next : goal.returns-in-Made-clause-next
returns-in-Made-clause-next g c =
    let (mine, went, d) = c.in-Made.ensures.dialled in
    let before = g.L.Dialer.told c.args.dialer.now in
    let now = g.L.Dialer.told c.dial.new.dialer in
    goes-after g.L.In.LinkIn.told g.L.Out.LinkOut.told g.D.Datagrams.told c.open_link.result (arc_value c.args.turnstile.now) before now now _ _ (known c.args.pass.now)
    (known c.dial.new.pass) (known c.open_link.new.pass) c.open_link.new.past went.first
    (ticked-dials (known c.args.pass.now) (known c.dial.new.pass) mine before.faults now.faults c.requires.rests.numbers went d.faults d.grows)
    (c.open_link.ensures.next now d.ends.0)

pub returns-in-Finished-clause-next : goal.returns-in-Finished-clause-next
returns-in-Finished-clause-next g c =
    let (mine, went, d) = c.in-Finished.ensures.dialled in
    ends-finished g.L.In.LinkIn.told g.L.Out.LinkOut.told g.D.Datagrams.told c.leave.result (g.L.Dialer.told c.args.dialer.now) (g.L.Dialer.told c.dial.new.dialer) _ (known c.args.pass.now)
    (known c.dial.new.pass) (known c.leave.new.pass) c.args.twins c.args.past.now mine c.requires.row c.requires.rests went d c.leave.ensures.left

pub returns-in-Failed-clause-next : goal.returns-in-Failed-clause-next
returns-in-Failed-clause-next g c =
    let (mine, went, d) = c.in-Failed.ensures.dialled in
    let (tries, (left, gone, asked)) = c.give_up-in-Failed.ensures.went in
    rw c.give_up-in-Failed.ensures.next
    (ends-undialled g.L.In.LinkIn.told g.L.Out.LinkOut.told g.D.Datagrams.told (g.L.Dialer.told c.args.dialer.now) (g.L.Dialer.told c.dial.new.dialer) _ (known c.args.pass.now)
    (known c.dial.new.pass) (known c.give_up-in-Failed.new.pass) c.args.twins c.args.past.now mine tries left asked c.requires.row c.requires.rests went d gone)

pub returns-then-len-ge-MOST_LINKS-clause-stops : goal.returns-then-len-ge-MOST_LINKS-clause-stops
returns-then-len-ge-MOST_LINKS-clause-stops g c =
    rw c.give_up.ensures.next (record { threads = λ more. absurd (omega (arith, more)); dials = λ full. absurd (omega (arith, full, c.requires.row)) })

pub returns-in-Made-clause-stops : goal.returns-in-Made-clause-stops
returns-in-Made-clause-stops g c =
    let (mine, went, d) = c.in-Made.ensures.dialled in
    subst (λ n. StopsAs c.open_link.result n (g.W.Crew.faults c.args.crew.now) (g.W.Crew.faults c.open_link.new.crew)) (sym d.ends.0) c.open_link.ensures.stops

pub returns-in-Finished-clause-stops : goal.returns-in-Finished-clause-stops
returns-in-Finished-clause-stops g c =
    let (mine, went, d) = c.in-Finished.ensures.dialled in
    record { threads = λ more. absurd (omega (arith, more)); dials = λ full. absurd (omega (arith, full, d.ends.1)) }

pub returns-in-Failed-clause-stops : goal.returns-in-Failed-clause-stops
returns-in-Failed-clause-stops g c =
    rw c.give_up-in-Failed.ensures.next (record { threads = λ more. absurd (omega (arith, more)); dials = λ full. refl })

pub returns-then-len-ge-MOST_LINKS-clause-kept : goal.returns-then-len-ge-MOST_LINKS-clause-kept
returns-then-len-ge-MOST_LINKS-clause-kept g c =
    rw c.give_up.ensures.next
    (keeps-same (length c.args.past.now.pairs.items) (g.L.Dialer.made c.args.dialer.now) (g.L.Dialer.made c.args.dialer.now) refl)

pub returns-in-Made-clause-kept : goal.returns-in-Made-clause-kept
returns-in-Made-clause-kept g c =
    keeps-pair c.open_link.result (length c.args.past.now.pairs.items) (length c.open_link.new.past.pairs.items) (g.L.Dialer.made c.args.dialer.now) (g.L.Dialer.made c.dial.new.dialer)
    c.open_link.ensures.kept c.in-Made.ensures.made

pub returns-in-Finished-clause-kept : goal.returns-in-Finished-clause-kept
returns-in-Finished-clause-kept g c =
    keeps-same (length c.args.past.now.pairs.items) (g.L.Dialer.made c.args.dialer.now) (g.L.Dialer.made c.dial.new.dialer) c.in-Finished.ensures.made

pub returns-in-Failed-clause-kept : goal.returns-in-Failed-clause-kept
returns-in-Failed-clause-kept g c =
    rw c.give_up-in-Failed.ensures.next
    (keeps-same (length c.args.past.now.pairs.items) (g.L.Dialer.made c.args.dialer.now) (g.L.Dialer.made c.dial.new.dialer) c.in-Failed.ensures.made)

pub returns-then-len-ge-MOST_LINKS-clause-ports : goal.returns-then-len-ge-MOST_LINKS-clause-ports
returns-then-len-ge-MOST_LINKS-clause-ports g c = rw c.give_up.ensures.next refl

pub returns-in-Failed-clause-ports : goal.returns-in-Failed-clause-ports
returns-in-Failed-clause-ports g c = rw c.give_up-in-Failed.ensures.next refl

pub returns-then-len-ge-MOST_LINKS-clause-order : goal.returns-then-len-ge-MOST_LINKS-clause-order
returns-then-len-ge-MOST_LINKS-clause-order g c = rw c.give_up.ensures.next (inl refl)

pub returns-in-Made-clause-order : goal.returns-in-Made-clause-order
returns-in-Made-clause-order g c = c.open_link.ensures.order (g.L.Dialer.made c.args.dialer.now) c.in-Made.ensures.numbered

pub returns-in-Finished-clause-order : goal.returns-in-Finished-clause-order
returns-in-Finished-clause-order g c = inl refl

pub returns-in-Failed-clause-order : goal.returns-in-Failed-clause-order
returns-in-Failed-clause-order g c = rw c.give_up-in-Failed.ensures.next (inl refl)
