use Rattle.std.proofs.Common.{inr, ◌∙◌, ap, length, refl, arith}
use Rattle.std.specs.Arc.{arc_value}
use Rattle.turnstile.specs.Passes.{known}
use Rattle.server_workers.proofs.LinkOverLemmas.{length-push, numbers-push}
use Rattle.server_workers.proofs.NextLinkLemmas.{ends-unopened, goes-after, opened-by, ticked-up}
use Rattle.server_workers.proofs.running.open_link.Goals as goal

pub start_reader-requires-clause-opened : goal.start_reader-requires-clause-opened
start_reader-requires-clause-opened g c κs within =
    opened-by g.I.LinkIn.told g.O.LinkOut.told g.D.Datagrams.told (known c.args.pass.now) (known c.enter.new.pass) c.args.twins c.args.past.now c.in-Some.field-0 c.requires.few
    c.in-Some.ensures.went c.in-Some.ensures.last c.requires.rests

pub returns-in_default-clause-next : goal.returns-in_default-clause-next
returns-in_default-clause-next g c = λ dials low.
    let (tries, (left, went, asked)) = c.give_up.ensures.went in
    rw c.give_up.ensures.next
    (ends-unopened g.I.LinkIn.told g.O.LinkOut.told g.D.Datagrams.told dials _ (known c.args.pass.now) (known c.enter.new.pass) (known c.give_up.new.pass) c.args.twins c.args.past.now _
    c.args.pair tries left asked low c.requires.rests c.in_default.ensures.went went c.requires.few c.push_reserved.ensures.items c.push_reserved.ensures.capacity refl refl
    c.requires.fresh.0 c.requires.fresh.1)

pub returns-clause-next : goal.returns-clause-next
returns-clause-next g c = λ dials low.
    goes-after g.I.LinkIn.told g.O.LinkOut.told g.D.Datagrams.told c.start_reader.result (arc_value c.args.turnstile.now) dials dials dials _ _ (known c.args.pass.now)
    (known c.enter.new.pass) (known c.start_reader.new.pass) c.start_reader.new.past c.in-Some.ensures.went.first
    (ticked-up (known c.args.pass.now) (known c.enter.new.pass) c.in-Some.field-0 dials.faults c.requires.rests.numbers c.in-Some.ensures.went)
    (c.start_reader.ensures.next dials low)

pub returns-in_default-clause-stops : goal.returns-in_default-clause-stops
returns-in_default-clause-stops g c =
    rw c.give_up.ensures.next (record { threads = λ more. absurd (omega (arith, more)); dials = λ full. absurd (omega (arith, full)) })

pub returns-in_default-clause-kept : goal.returns-in_default-clause-kept
returns-in_default-clause-kept g c = rw c.give_up.ensures.next (ap length c.push_reserved.ensures.items ∙ length-push c.args.past.now.pairs.items _)

pub returns-in_default-clause-ports : goal.returns-in_default-clause-ports
returns-in_default-clause-ports g c = rw c.give_up.ensures.next refl

pub returns-in_default-clause-order : goal.returns-in_default-clause-order
returns-in_default-clause-order g c = λ made known.
    rw c.give_up.ensures.next
    (inr ((g.I.LinkIn.told c.args.pair.link_in).number, numbers-push g.I.LinkIn.told c.args.past.now.pairs.items _ c.args.pair _ c.push_reserved.ensures.items refl, known))

pub returns-clause-order : goal.returns-clause-order
returns-clause-order g c = λ made known. c.start_reader.ensures.order made known
