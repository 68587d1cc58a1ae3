use Rattle.std.proofs.Common.{◌≡◌, ◌++◌, ℕ, List, not, rules, sym, ◌∙◌, ap, map, filter, length, take, drop, arith}
use Rattle.std.proofs.lemmas.Grind.{common_steps}
use Rattle.std.proofs.lemmas.Fn.{filter_same}
use Rattle.std.proofs.lemmas.List.{length-map}
use Rattle.session_book.specs.declared.aborts.OpenAbort.{OpenAbort}
use Rattle.session_book.specs.Aborts.{renewed, is_spent}
use Rattle.session_book.proofs.aborts.Aborts.age.Goals as goal

-- a list that is written over whole
over : (new old : List OpenAbort) (n : ℕ) → n ≡ length old → length new ≡ length old → take n (new ++ drop (length new) old) ≡ new
over new old n e f = grind (arith, common_steps)

pub returns : goal.returns
returns c =
    let moment = c.args.moment in
    let left = c.retain.new.self.items in
    let kept : left ≡ filter (λ (o : OpenAbort). not (is_spent moment o.sent)) c.args.self.now =
    rw (← c.self.view_is) (filter_same _ (λ (o : OpenAbort). not (is_spent moment o.sent)) _ (λ x b f' h. search rules) _ _ c.retain.ensures.filtered) in
    let new : c.renew_all.new.list ≡ map (renewed moment) left = c.renew_all.ensures ∙ ap (map (renewed moment)) c.as_mut_slice.ensures.value in
    over c.renew_all.new.list left c.retain.new.self.len (sym c.as_mut_slice.ensures.len ∙ ap length c.as_mut_slice.ensures.value)
    (ap length new ∙ length-map left (renewed moment))
    ∙ new ∙ ap (map (renewed moment)) kept
