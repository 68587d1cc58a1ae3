use Rattle.std.proofs.Common.{◌≡◌, Option, ap, ◌∙◌, sym, subst}
use Rattle.atomic_table.specs.Table.{Me}
use Rattle.turnstile.specs.declared.view.Known.{Known}
use Rattle.turnstile.specs.declared.view.View.{View}
use Rattle.turnstile.specs.Turns.{entry_of}
use Rattle.turnstile.specs.Knowing.{Stands}
use Rattle.turnstile.specs.Order.{after}
use Rattle.turnstile.proofs.Visiting.{stands_on, stood_then, visits}
use Rattle.turnstile.proofs.turnstile.Turnstile.visit.Goals as goal

pub raise-requires-clause-hand : goal.raise-requires-clause-hand
raise-requires-clause-hand g c = let due = c.wait.ensures.due in let s = c.serve-outcome.ensures.stepped due.desk due.hand in
    let at : c.serve-outcome.new.seat.me.0 ≡ c.wait.new.seat.me.0 = ap (λ (m : Me (Option g.row.D.Denot) (View g.row.D.Denot g.row.D-Ask.Denot g.row.D-Answer.Denot)). m.0) s.1 in (
      s.0,
      ap (λ (m : Me (Option g.row.D.Denot) (View g.row.D.Denot g.row.D-Ask.Denot g.row.D-Answer.Denot)). m.1) s.1,
      subst (λ (a : g.row.D-Ask.Denot). Stands g.D.Desk.stands c.serve-outcome.new.seat.me.0.known s.0 (after (entry_of a c.serve-outcome.result) c.serve-outcome.new.seat.me.0.known).seen) (sym c.of-asked.ensures)
          (stands_on g.D.Desk.stands c.draw-ticket.new.seat.me c.wait.new.seat.me c.serve-outcome.new.seat.me (entry_of c.args.ask c.serve-outcome.result) s.0 due at s.2),
    )

pub returns-clause-turn : goal.returns-clause-turn
returns-clause-turn g c = let due = c.wait.ensures.due in let s = c.serve-outcome.ensures.stepped due.desk due.hand in
    let at : c.serve-outcome.new.seat.me.0 ≡ c.wait.new.seat.me.0 = ap (λ (m : Me (Option g.row.D.Denot) (View g.row.D.Denot g.row.D-Ask.Denot g.row.D-Answer.Denot)). m.0) s.1 in
    let now : c.raise.new.seat.me.0.known ≡ after (entry_of c.args.ask c.serve-outcome.result) c.serve-outcome.new.seat.me.0.known =
    ap (λ (m : Me (Option g.row.D.Denot) (View g.row.D.Denot g.row.D-Ask.Denot g.row.D-Answer.Denot)). m.0.known) c.raise.ensures.1
    ∙ ap (λ (a : g.row.D-Ask.Denot). after (entry_of a c.serve-outcome.result) c.serve-outcome.new.seat.me.0.known) c.of-asked.ensures in
    visits g.D.Desk.stands c.args.pass.now.seat.me.0.known c.raise.new.seat.me.0.known c.draw-ticket.new.seat.me c.wait.new.seat.me (entry_of c.args.ask c.serve-outcome.result)
    c.draw-ticket.ensures.same.1 c.args.pass.now.rests.3 due
    (now ∙ ap (λ (v : View g.row.D.Denot g.row.D-Ask.Denot g.row.D-Answer.Denot). after (entry_of c.args.ask c.serve-outcome.result) v.known) at)

pub returns-clause-stood : goal.returns-clause-stood
returns-clause-stood g c =
    let due = c.wait.ensures.due in
    let s = c.serve-outcome.ensures.stepped due.desk due.hand in
    let turn : Option (g.row.D-Ask.Denot × g.row.D-Answer.Denot) = entry_of c.args.ask c.serve-outcome.result in
    let at : c.serve-outcome.new.seat.me.0 ≡ c.wait.new.seat.me.0 =
    ap (λ (m : Me (Option g.row.D.Denot) (View g.row.D.Denot g.row.D-Ask.Denot g.row.D-Answer.Denot)). m.0) s.1 in
    let k : Known g.row.D.Denot g.row.D-Ask.Denot g.row.D-Answer.Denot = c.serve-outcome.new.seat.me.0.known in
    let first : k.first ≡ c.args.pass.now.seat.me.0.known.first =
    ap (λ (v : View g.row.D.Denot g.row.D-Ask.Denot g.row.D-Answer.Denot). v.known.first) at
    ∙ (due.same.0 ∙ ap (λ (x : Known g.row.D.Denot g.row.D-Ask.Denot g.row.D-Answer.Denot). x.first) c.draw-ticket.ensures.same.1) in
    let now : c.raise.new.seat.me.0.known ≡ after turn k =
    ap (λ (m : Me (Option g.row.D.Denot) (View g.row.D.Denot g.row.D-Ask.Denot g.row.D-Answer.Denot)). m.0.known) c.raise.ensures.1
    ∙ ap (λ (a : g.row.D-Ask.Denot). after (entry_of a c.serve-outcome.result) k) c.of-asked.ensures in
    stood_then g.D.Desk.stands c.args.pass.now.seat.me.0.known c.raise.new.seat.me.0.known k turn s.0 first now
    (stands_on g.D.Desk.stands c.draw-ticket.new.seat.me c.wait.new.seat.me c.serve-outcome.new.seat.me turn s.0 due at s.2)
