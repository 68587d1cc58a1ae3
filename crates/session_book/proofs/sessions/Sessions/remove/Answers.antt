use Rattle.std.proofs.Common.{◌≡◌, ◌∙◌, ◌+◌, ℕ, true, false, cond, nat_eq, List, Option, Some, None, ap, sym, refl, subst, length, arith}
use Rattle.std.specs.Prelude.{is_some, IfSome, if◌then◌else◌}
use Rattle.std.specs.List.{position}
use Rattle.std.specs.Map.{keys_of}
use Rattle.std.specs.HashMap.{Updates}
use Rattle.std.specs.Cmp.Lexicographic.{pointwise}
use Rattle.session_book.specs.declared.sessions.Entry.{Entry}
use Rattle.session_book.specs.Book.{entry_of}
use Rattle.session_book.proofs.BookLemmas.{entry-there, holds-without, named-at, removed-absent}
use Rattle.session_book.proofs.sessions.Sessions.remove.Goals as goal

none-of : (o : Option Entry) → is_some o ≡ false → o ≡ None
none-of None e = refl
none-of (Some x) e = absurd (cc)

pub returns-in-Some : goal.returns-in-Some
returns-in-Some c = λ rows h.
    let s = c.args.session.now in
    let kept = c.args.self.now.map.entries in
    let new = c.swap_remove_index.new.self.entries in
    let at : position (pointwise nat_eq s) (keys_of kept) ≡ Some c.in-Some.place = sym c.place_of.ensures.place ∙ c.in-Some.is in
    let there = entry-there s kept c.in-Some.place at in
    let gone : c.swap_remove_index.result ≡ Some there.0 = c.swap_remove_index.ensures.entry ∙ there.1 in
    let updates : (q : List ℕ) → entry_of q new ≡ cond (pointwise nat_eq there.0.0 q) None (entry_of q kept) =
    (subst (λ o. IfSome o (λ p. Updates (pointwise nat_eq) c.args.self.now.map c.swap_remove_index.new.self p.0 None)) gone c.swap_remove_index.ensures.updates).0 in
    let others = subst (λ (k : List ℕ). (q : List ℕ) → entry_of q new ≡ cond (pointwise nat_eq k q) None (entry_of q kept)) (named-at s kept c.in-Some.place there.0 at there.1) updates in
    let known : is_some (entry_of s kept) ≡ true = sym c.place_of.ensures.known ∙ ap is_some c.in-Some.is in
    holds-without s kept new rows others
    (subst (λ b. length new + (if b then 1 else 0) ≡ length kept) (ap is_some gone ∙ sym known) c.swap_remove_index.ensures.len)
    h

pub returns-in_default : goal.returns-in_default
returns-in_default c = λ rows h.
    let s = c.args.session.now in
    let kept = c.args.self.now.map.entries in
    let unknown : is_some (entry_of s kept) ≡ false = sym c.place_of.ensures.known ∙ ap is_some c.in_default.is in
    let size : length kept + 0 ≡ length kept = omega arith in
    holds-without s kept kept rows (removed-absent s kept (none-of (entry_of s kept) unknown))
    (subst (λ b. length kept + (if b then 1 else 0) ≡ length kept) (sym unknown) size)
    h
