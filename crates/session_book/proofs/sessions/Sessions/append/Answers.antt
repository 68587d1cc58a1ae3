use Rattle.std.proofs.Common.{◌≡◌, ◌+◌, ◌<◌, ℕ, false, cond, nat_eq, List, Option, Some, None, Result, Ok, Err, refl, sym, ◌∙◌, subst, length}
use Rattle.std.specs.Prelude.{is_some, option_copied, IfOk, OnOk, IsOk, if◌then◌else◌}
use Rattle.std.specs.Borrow.{Bor}
use Rattle.std.specs.HashMap.{Updates}
use Rattle.std.specs.Cmp.Lexicographic.{pointwise}
use Rattle.session_book.specs.declared.sessions.Entry.{Entry}
use Rattle.session_book.specs.Book.{entry_of}
use Rattle.session_book.proofs.BookLemmas.{holds-more}
use Rattle.session_book.proofs.sessions.Sessions.append.Goals as goal

-- what an insert that isn't refused does
on_ok : {A E : Type 0} (r : Result A E) (P : Type 0) → OnOk r P → IsOk r → P
on_ok (Ok x) P h is = h
on_ok (Err y) P h is = absurd (cc)

grows : {E : Type 0} (r : Result (Option Entry) E) (before : Option Entry) (n m : ℕ) → IfOk r (λ old. old ≡ before)
    → IfOk r (λ old. m ≡ n + (if is_some old then 0 else 1)) → IsOk r → before ≡ None → m ≡ n + 1
grows (Ok None) before n m is len ok none = len
grows (Ok (Some x)) before n m is len ok none = absurd (let k : Some x ≡ None = is ∙ none in cc)
grows (Err y) before n m is len ok none = absurd (cc)

none-copied : (o : Option (Bor Entry)) → is_some o ≡ false → option_copied o ≡ None
none-copied None e = refl
none-copied (Some x) e = absurd (cc)

pub returns-then-is_none : goal.returns-then-is_none
returns-then-is_none c = λ rows h.
    let kept = c.args.self.now.map.entries in
    let new = c.insert.new.self.entries in
    let ok = c.insert.ensures.succeeds c.requires.room in
    let none : entry_of c.args.session.now kept ≡ None = sym c.get.ensures ∙ none-copied c.get.result c.if-is_none.ensures in
    let gone : entry_of c.filled.result kept ≡ None = subst (λ s. entry_of s kept ≡ None) (sym c.filled.ensures) none in
    let updates = on_ok c.insert.result (Updates (pointwise nat_eq) c.args.self.now.map c.insert.new.self c.filled.result (Some c.args.entry)) c.insert.ensures.updates ok in
    let others : (q : List ℕ) → entry_of q new ≡ cond (pointwise nat_eq c.filled.result q) (Some c.args.entry) (entry_of q kept) = updates.0 in
    holds-more c.args.capacity c.args.session.now c.args.entry kept new rows
    (subst (λ s. (q : List ℕ) → entry_of q new ≡ cond (pointwise nat_eq s q) (Some c.args.entry) (entry_of q kept)) c.filled.ensures others)
    (grows c.insert.result (entry_of c.filled.result kept) (length kept) (length new) c.insert.ensures.old c.insert.ensures.len ok gone)
    (subst (λ n. n < c.args.capacity) c.len.ensures.len c.if-len-capacity.true)
    none h
