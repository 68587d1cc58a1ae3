use Rattle.std.proofs.Common.{◌≡◌, ◌+◌, ◌++◌, ◌∷◌, filter, length, nat_lt, ap, subst, arith, sym}
use Rattle.reverse_core.specs.Windows.{IsNoLater, Pairs}
use Rattle.reverse_core.proofs.KeptLemmas.{kept_on}
use Rattle.reverse_core.proofs.kept_answers.count_past.Goals as goal

pub returns-then-is_kept : goal.returns-then-is_kept
returns-then-is_kept c =
    let later = c.next.new.self.head.now ++ c.next.new.self.wrapped.now in
    let inv = c.loop-held.invariant in
    let rest : c.loop-held.held-iterator.head.now ++ c.loop-held.held-iterator.wrapped.now ≡ c.in-Some.held.now ∷ later = c.in-Some.ensures.steps in
    let all = kept_on c.args.moment c.args.retention c.in-Some.held.now later (subst (Pairs IsNoLater) rest inv.cooled) (sym c.if-is_kept.ensures) in
    omega (arith, inv.past, ap length rest, ap length (inv.kept), ap (λ l. length (filter (λ k. nat_lt c.args.moment (k.at + c.args.retention)) l)) rest, all)
