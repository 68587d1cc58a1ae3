use Rattle.std.proofs.Common.{rules, ◌≡◌, Option, ap, ◌∙◌}
use Rattle.atomic_table.specs.Table.{Me}
use Rattle.turnstile.specs.declared.view.Known.{Known}
use Rattle.turnstile.specs.declared.view.View.{View}
use Rattle.turnstile.specs.Order.{both}
use Rattle.turnstile.proofs.Keeping.{joins}
use Rattle.turnstile.proofs.Visiting.{joined}
use Rattle.turnstile.proofs.turnstile.Turnstile.join.Goals as goal

pub join_seat-requires : goal.join_seat-requires
join_seat-requires g c = let there = c.into_seat.ensures in let r = c.args.other.rests in let mine = c.args.pass.now.rests in (
  search rules,
  search rules,
  ap (λ s. s.me.1) there ∙ r.2,
  search rules,
  joins g.D.Desk.stands _ _ _ _ _ mine.0 (ap (λ s. s.me.0.stage) there ∙ r.0) mine.3,
)

pub returns-clause-joined : goal.returns-clause-joined
returns-clause-joined g c = let v : Known g.row.D.Denot g.row.D-Ask.Denot g.row.D-Answer.Denot = c.args.pass.now.seat.me.0.known in
    let u : Known g.row.D.Denot g.row.D-Ask.Denot g.row.D-Answer.Denot = c.args.other.seat.me.0.known in
    let k : Known g.row.D.Denot g.row.D-Ask.Denot g.row.D-Answer.Denot = c.join_seat.new.seat.me.0.known in
    let here : View g.row.D.Denot g.row.D-Ask.Denot g.row.D-Answer.Denot = c.args.pass.now.seat.me.0 in
    let there : View g.row.D.Denot g.row.D-Ask.Denot g.row.D-Answer.Denot = c.args.other.seat.me.0 in
    let now : c.join_seat.new.seat.me.0 ≡ both here there =
    ap (λ (m : Me (Option g.row.D.Denot) (View g.row.D.Denot g.row.D-Ask.Denot g.row.D-Answer.Denot)). m.0) c.join_seat.ensures.2
    ∙ ap (λ s. both here s.me.0) c.into_seat.ensures in
    joined v u k c.learn.new.seat.me.0.known (ap (λ (x : View g.row.D.Denot g.row.D-Ask.Denot g.row.D-Answer.Denot). x.known) now)
    (ap (λ (m : Me (Option g.row.D.Denot) (View g.row.D.Denot g.row.D-Ask.Denot g.row.D-Answer.Denot)). m.0.known) c.learn.ensures.same.1)
    (c.learn.ensures.agree v u (ap (λ (x : View g.row.D.Denot g.row.D-Ask.Denot g.row.D-Answer.Denot). x.told) now) c.args.pass.now.rests.3 c.args.other.rests.3
    (ap (λ (x : View g.row.D.Denot g.row.D-Ask.Denot g.row.D-Answer.Denot). x.known.seen) now))
