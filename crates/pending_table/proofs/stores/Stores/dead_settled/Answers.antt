use Rattle.std.proofs.Common.{◌≡◌, ◌++◌, ◌∷◌, ◌∙◌, filter, length, ap, subst, arith, sym}
use Rattle.pending_table.specs.Merged.{Pairs, rows}
use Rattle.pending_table.specs.Stores.{is_live, ends_before}
use Rattle.pending_table.proofs.Kept.{live_on-rows}
use Rattle.pending_table.proofs.stores.Stores.dead_settled.Goals as goal

pub returns-then-is_live : goal.returns-then-is_live
returns-then-is_live c =
    let s = c.args.self.now in
    let later = c.next.new.self.head.now ++ c.next.new.self.wrapped.now in
    let inv = c.loop-held.invariant in
    let rest : c.loop-held.held-iterator.head.now ++ c.loop-held.held-iterator.wrapped.now ≡ c.in-Some.held.now ∷ later = c.in-Some.ensures.steps in
    let live = live_on-rows s c.args.moment c.in-Some.held.now later (subst (λ l. Pairs (ends_before s) (rows l)) rest inv.4) (sym c.if-is_live.ensures) in
    omega (arith, inv.3, ap length rest, ap length (inv.2 ∙ ap (λ l. filter (is_live s c.args.moment) (rows l)) rest), live)
