use Rattle.std.proofs.Common.{◌≡◌, ◌++◌, ◌∷◌, [], ◌∙◌, map, filter, not, refl, ap, sym, subst, arith}
use Rattle.std.specs.Vec.Iter.{into_iter_items}
use Rattle.std.proofs.lemmas.List.{nil_from_length}
use Rattle.reverse_core.specs.Requests.{given_up, is_spent, kept_answer, silence}
use Rattle.reverse_core.specs.State.{IsSound}
use Rattle.reverse_core.specs.Ticking.{silences}
use Rattle.reverse_core.specs.Windows.{KeptParts, TakesOut}
use Rattle.reverse_core.proofs.LedgerLemmas.{append-between, none-silent, sound-answered, spent-first, spent-others}
use Rattle.reverse_core.proofs.ledger.Ledger.give_up.Goals as goal

pub loop-answer-preserved-in-Some-pop_spent : goal.loop-answer-preserved-in-Some-pop_spent
loop-answer-preserved-in-Some-pop_spent c =
    let m = c.args.moment in
    let own = c.args.self.now.own in
    let l = c.loop-answer.self in
    let inv = c.loop-answer.invariant in
    let o = c.in-Some-pop_spent.found in
    let rest = c.pop_spent.new.self.list in
    let some = c.in-Some-pop_spent.ensures.some in
    let split : l.open_ones.list ≡ o ∷ rest = some.0 in
    let takes : TakesOut o l.open_ones.list rest = record { before = []; behind = rest; old_is = split; new_is = refl } in
    let sound = sound-answered l c.keep.new.index c.pop_spent.new.self c.keep.new.kept o m c.in-Some.answer inv.sound takes c.in-Some-pop_spent.ensures.next
    (omega (arith, inv.moment_is)) c.keep.ensures.index c.keep.ensures.kept in
    let first : silences own m l.open_ones.list ≡ silence own o.taken ∷ silences own m rest =
    ap (silences own m) split ∙ ap (map (λ x. silence own x.taken)) (spent-first m o rest some.1) in
    let both : c.in-Some.answer ∷ into_iter_items c.next.new.self ≡ silence own o.taken ∷ silences own m rest = sym c.in-Some.ensures.steps.0 ∙ inv.left ∙ first in
    let answer : c.in-Some.answer ≡ silence own o.taken = cc in
    record {
      sound = subst (λ n. IsSound (record { own = l.own; index = c.keep.new.index; open_ones = c.pop_spent.new.self; kept = c.keep.new.kept; moment = n })) (sym inv.moment_is) sound;
      own = inv.own;
      left = cc;
      others = sym (ap (filter (λ x. not (is_spent m x))) split ∙ spent-others m o rest some.1) ∙ inv.others;
      next = c.in-Some-pop_spent.ensures.next ∙ inv.next;
      kept = ap (λ (k : KeptParts). k.list ++ map (given_up own m) (filter (is_spent m) rest)) c.keep.ensures.kept
          ∙ append-between l.kept.list (kept_answer o.taken m c.in-Some.answer) (map (given_up own m) (filter (is_spent m) rest))
          ∙ ap (λ a. l.kept.list ++ kept_answer o.taken m a ∷ map (given_up own m) (filter (is_spent m) rest)) answer
          ∙ ap (λ xs. l.kept.list ++ map (given_up own m) xs) (sym (ap (filter (is_spent m)) split ∙ spent-first m o rest some.1))
          ∙ inv.kept;
      moment_is = inv.moment_is;
    }

pub returns-clause-open_ones : goal.returns-clause-open_ones
returns-clause-open_ones c =
    let m = c.args.moment in
    let own = c.args.self.now.own in
    let l = c.loop-answer.self in
    let inv = c.loop-answer.invariant in
    let empty : into_iter_items c.loop-answer.answer-iterator ≡ [] = nil_from_length _ (sym c.loop-answer.answer-iterator.rest.ok.0 ∙ c.in-None.ensures.steps.0) in
    none-silent own m l.open_ones.list (sym empty ∙ inv.left) ∙ inv.others
