use Rattle.std.proofs.Common.{inr, ◌≡◌, ◌++◌, ◌∷◌, [], length, rules, refl, sym, ap, subst, ◌∙◌, arith}
use Rattle.std.specs.Arc.{arc_value}
use Rattle.wire_devices.specs.Telling.{TellsOnly}
use Rattle.turnstile.specs.Passes.{known, table_of}
use Rattle.server_workers.specs.declared.running.RunEnd.TheVariants as run
use Rattle.server_workers.specs.Running.{IsLinkWorker, ReaderNeverRan, StartedAs, number_in, ports_in, ports_of}
use Rattle.server_workers.proofs.LinkOverLemmas.{length-push, numbers-push}
use Rattle.server_workers.proofs.NextLinkLemmas.{ends-unstarted, same-again, same-still, started-now, ticked-split}
use Rattle.server_workers.proofs.running.start_reader.Goals as goal

pub returns-in_default-clause-next : goal.returns-in_default-clause-next
returns-in_default-clause-next g c = λ dials low.
    let (tries, (left, went, asked)) = c.give_up.ensures.went in
    let s = c.requires.opened in
    rw c.give_up.ensures.next
    (ends-unstarted g.I.LinkIn.told g.O.LinkOut.told g.D.Datagrams.told run.NoMemory dials _ (known c.args.pass.now) (known c.args.pass.now) (known c.give_up.new.pass) c.args.twins
    c.args.twins c.args.past.now _ c.args.pair tries left asked low s (same-still (known c.args.pass.now) s.numbers) went refl
    c.push_reserved.ensures.items c.push_reserved.ensures.capacity refl refl c.requires.fresh.0 c.requires.fresh.1 (λ segs seen has. tt) tt (λ segs all. all))

pub reader_unstarted-back-requires : goal.reader_unstarted-back-requires
reader_unstarted-back-requires g c = subst IsLinkWorker (sym c.in-Err.ensures.err) tt

pub put_past-twins-requires-clause-theirs : goal.put_past-twins-requires-clause-theirs
put_past-twins-requires-clause-theirs g c =
    let back_is = subst (λ worker. ReaderNeverRan worker c.reader_unstarted-back.result) c.in-Err.ensures.err c.reader_unstarted-back.ensures in
    ap (λ b. table_of b.pass) back_is ∙ c.split.ensures.tables.1 ∙ c.requires.table

pub returns-in-Ok-started-clause-next : goal.returns-in-Ok-started-clause-next
returns-in-Ok-started-clause-next g c = λ dials low.
    let s = c.requires.opened in
    let split = c.split.ensures in
    let now = known c.split.new.pass in
    record {
      first = ap (λ v. v.first) split.left;
      ticked = ticked-split (known c.args.pass.now) now dials.faults split.left;
      row = low;
      unrefused = c.in-Ok-started.ensures.counts_faults.stays (search rules);
      started = subst (λ worker. StartedAs g.I.LinkIn.told g.O.LinkOut.told g.D.Datagrams.told (arc_value c.args.turnstile.now) now worker c.args.pair.link_out c.args.past.now)
          (sym c.in-Ok-started.ensures.ok)
          (started-now g.I.LinkIn.told g.O.LinkOut.told g.D.Datagrams.told (arc_value c.args.turnstile.now) (known c.args.pass.now) now c.split.result c.args.pair c.args.twins
          c.args.past.now (split.tables.1 ∙ c.requires.table) s split.left split.right c.requires.fresh.0 c.requires.fresh.1);
    }

pub returns-in-Err-clause-next : goal.returns-in-Err-clause-next
returns-in-Err-clause-next g c = λ dials low.
    let (tries, (left, went, asked)) = c.give_up-in-Err.ensures.went in
    let s = c.requires.opened in
    let back = c.reader_unstarted-back.result in
    let back_is = subst (λ worker. ReaderNeverRan worker back) c.in-Err.ensures.err c.reader_unstarted-back.ensures in
    let put = c.put_past-twins.ensures in
    let none_lost : back.lost ≡ 0 = ap (λ b. b.lost) back_is in
    let none_again : back.again ≡ 0 = ap (λ b. b.again) back_is in
    let rises = c.in-Err.ensures.counts_faults.rises refl in
    rw c.give_up-in-Err.ensures.next
    (ends-unstarted g.I.LinkIn.told g.O.LinkOut.told g.D.Datagrams.told run.NoThread dials _ (known c.args.pass.now) (known c.put_past-twins.new.pass) (known c.give_up-in-Err.new.pass)
    c.args.twins c.put_past-twins.result c.args.past.now c.put_past-twins.new.past c.args.pair tries left asked low s
    (same-again (known c.args.pass.now) (known c.split.new.pass) (known c.put_past-twins.new.pass) (known back.pass) s.numbers c.split.ensures.left
    (ap (λ b. known b.pass) back_is ∙ c.split.ensures.right) put.joined)
    went (put.twins ∙ ap (λ b. b.twins) back_is)
    (put.pairs ∙ ap (λ b. c.args.past.now.pairs.items ++ record { link_in = b.link_in; link_out = c.args.pair.link_out } ∷ []) back_is)
    put.room (omega (arith, put.lost, none_lost, s.tally.lost)) (omega (arith, put.again, none_again, s.tally.again)) c.requires.fresh.0 c.requires.fresh.1
    (λ segs seen has. (omega (arith, rises), has)) refl (λ segs all. all))

pub returns-in_default-clause-stops : goal.returns-in_default-clause-stops
returns-in_default-clause-stops g c =
    rw c.give_up.ensures.next (record { threads = λ more. absurd (omega (arith, more)); dials = λ full. absurd (omega (arith, full)) })

pub returns-in-Err-clause-stops : goal.returns-in-Err-clause-stops
returns-in-Err-clause-stops g c =
    rw c.give_up-in-Err.ensures.next (record { threads = λ more. refl; dials = λ full. absurd (omega (arith, full)) })

pub returns-in_default-clause-kept : goal.returns-in_default-clause-kept
returns-in_default-clause-kept g c = rw c.give_up.ensures.next (ap length c.push_reserved.ensures.items ∙ length-push c.args.past.now.pairs.items _)

pub returns-in-Err-clause-kept : goal.returns-in-Err-clause-kept
returns-in-Err-clause-kept g c = rw c.give_up-in-Err.ensures.next (ap length c.put_past-twins.ensures.pairs ∙ length-push c.args.past.now.pairs.items _)

pub returns-in_default-clause-ports : goal.returns-in_default-clause-ports
returns-in_default-clause-ports g c = rw c.give_up.ensures.next refl

pub returns-in-Ok-started-clause-ports : goal.returns-in-Ok-started-clause-ports
returns-in-Ok-started-clause-ports g c = ap (λ worker. ports_in g.D.Datagrams.told worker) c.in-Ok-started.ensures.ok

pub returns-in-Err-clause-ports : goal.returns-in-Err-clause-ports
returns-in-Err-clause-ports g c =
    let back = c.reader_unstarted-back.result in
    let back_is = subst (λ worker. ReaderNeverRan worker back) c.in-Err.ensures.err c.reader_unstarted-back.ensures in
    rw c.give_up-in-Err.ensures.next
    (ap (λ twins. ports_of g.D.Datagrams.told twins) (c.put_past-twins.ensures.twins ∙ ap (λ b. b.twins) back_is))

pub returns-in_default-clause-order : goal.returns-in_default-clause-order
returns-in_default-clause-order g c = λ made known.
    rw c.give_up.ensures.next
    (inr ((g.I.LinkIn.told c.args.pair.link_in).number, numbers-push g.I.LinkIn.told c.args.past.now.pairs.items _ c.args.pair _ c.push_reserved.ensures.items refl, known))

pub returns-in-Ok-started-clause-order : goal.returns-in-Ok-started-clause-order
returns-in-Ok-started-clause-order g c = λ made known.
    (refl, subst (λ worker. TellsOnly (number_in g.I.LinkIn.told worker) made) (sym c.in-Ok-started.ensures.ok) known)

pub returns-in-Err-clause-order : goal.returns-in-Err-clause-order
returns-in-Err-clause-order g c = λ made known.
    let back = c.reader_unstarted-back.result in
    let back_is = subst (λ worker. ReaderNeverRan worker back) c.in-Err.ensures.err c.reader_unstarted-back.ensures in
    rw c.give_up-in-Err.ensures.next
    (inr (
      (g.I.LinkIn.told c.args.pair.link_in).number,
      numbers-push g.I.LinkIn.told c.args.past.now.pairs.items c.put_past-twins.new.past.pairs.items _ _ c.put_past-twins.ensures.pairs
          (ap (λ b. (g.I.LinkIn.told b.link_in).number) back_is),
      known,
    ))
