-- Entries go into a book and out of it.
use Rattle.std.proofs.Common.{get_or, ◌≡◌, ℕ, ◌+◌, ◌<◌, ◌⊎◌, inl, inr, Bool, true, false, cond, not, ◌&&◌, nat_eq, List, [], ◌∷◌, ◌++◌, length, Option, Some, None, refl, sym, ap, ◌∙◌, subst, arith}
use Rattle.std.specs.Prelude.{is_some, is_none, nat_lt, if◌then◌else◌}
use Rattle.std.specs.List.{position, slice_get}
use Rattle.std.specs.Map.{keys_of}
use Rattle.std.specs.Prelude.{option_map}
use Rattle.std.specs.Cmp.Lexicographic.{pointwise, bytes_decides}
use Rattle.std.proofs.lemmas.List.Quantifiers.{position-Some}
use Rattle.std.proofs.lemmas.Map.Entries.{length-keys_of}
use Rattle.std.proofs.lemmas.Option.{get_or_from_slice_get, slice_get-map, slice_get_cases}
use Rattle.session_book.specs.declared.sessions.Entry.{Entry}
use Rattle.session_book.specs.Book.{Row, entry_of, without, appended}
use Rattle.session_book.specs.Holding.{AreApart, Holds}

-- ---- sessions are equal or not

abbrev same : List ℕ → List ℕ → Bool
same s q = pointwise nat_eq s q

same-self : (s : List ℕ) → same s s ≡ true
same-self s = (bytes_decides s s).1 refl

pub record Differ (s q : List ℕ) : Type 0 where
  pub one : same s q ≡ false
  pub other : same q s ≡ false

differ-by : (s q : List ℕ) (b c : Bool) → same s q ≡ b → same q s ≡ c → (s ≡ q) ⊎ Differ s q
differ-by s q true c e f = inl ((bytes_decides s q).0 e)
differ-by s q false true e f = inl (sym ((bytes_decides q s).0 f))
differ-by s q false false e f = inr (record { one = e; other = f })

pub same-or-differ : (s q : List ℕ) → (s ≡ q) ⊎ Differ s q
same-or-differ s q = differ-by s q (same s q) (same q s) refl refl

-- ---- without

still-none : (b : Bool) → ◌≡◌ {A = Option Entry} None (cond b None None)
still-none true = refl
still-none false = refl

found-without : (s q : List ℕ) (rows : List Row) → entry_of q (without s rows) ≡ cond (same s q) None (entry_of q rows)
found-without s q [] = still-none (same s q)
found-without s q (r ∷ rows) =
    elim (same-or-differ s r.0) [
      | inl e ↦ (elim (same-or-differ s q) [
        | inl f ↦ (let drops : same s r.0 ≡ true = subst (λ x. same s x ≡ true) e (same-self s) in
            let equal : same s q ≡ true = subst (λ x. same s x ≡ true) f (same-self s) in
            rw (drops, equal) (found-without s q rows ∙ rw equal refl))
        | inr d ↦ (let drops : same s r.0 ≡ true = subst (λ x. same s x ≡ true) e (same-self s) in
            let unequal : same s q ≡ false = d.one in
            let apart : same q r.0 ≡ false = subst (λ x. same q x ≡ false) e d.other in
            rw (drops, unequal, apart) (found-without s q rows ∙ rw unequal refl))
      ])
      | inr d ↦ (elim (same-or-differ q r.0) [
        | inl f ↦ (let keeps : same s r.0 ≡ false = d.one in
            let equal : same q r.0 ≡ true = subst (λ x. same q x ≡ true) f (same-self q) in
            let unequal : same s q ≡ false = subst (λ x. same s x ≡ false) (sym f) d.one in
            rw (keeps, unequal, equal) refl)
        | inr g ↦ (let keeps : same s r.0 ≡ false = d.one in
            let other : same q r.0 ≡ false = g.one in
            rw (keeps, other) (found-without s q rows))
      ])
    ]

none-without : (s : List ℕ) (rows : List Row) → entry_of s rows ≡ None → length (without s rows) ≡ length rows
none-without s [] none = refl
none-without s (r ∷ rows) none =
    elim (same s r.0) as (λ b. cond b (Some r.1) (entry_of s rows) ≡ None → length (cond (not b) (r ∷ without s rows) (without s rows)) ≡ length (r ∷ rows)) [
      | true ↦ (λ e. absurd (cc))
      | false ↦ (λ e. omega (arith, none-without s rows e))
    ] none

count-without : (s : List ℕ) (rows : List Row) → AreApart rows → length (without s rows) + (if is_some (entry_of s rows) then 1 else 0) ≡ length rows
count-without s [] apart = refl
count-without s (r ∷ rows) apart =
    elim (same-or-differ s r.0) [
      | inl e ↦ (let drops : same s r.0 ≡ true = subst (λ x. same s x ≡ true) e (same-self s) in
          let none : entry_of s rows ≡ None = subst (λ x. entry_of x rows ≡ None) (sym e) apart.0 in
          rw drops (omega (arith, none-without s rows none)))
      | inr d ↦ (let keeps : same s r.0 ≡ false = d.one in rw keeps (omega (arith, count-without s rows apart.1)))
    ]

none-either : (b : Bool) (o : Option Entry) → o ≡ None → cond b None o ≡ None
none-either true o e = refl
none-either false o e = e

apart-without : (s : List ℕ) (rows : List Row) → AreApart rows → AreApart (without s rows)
apart-without s [] apart = tt
apart-without s (r ∷ rows) apart =
    elim (same s r.0) as (λ b. AreApart (cond (not b) (r ∷ without s rows) (without s rows))) [
      | true ↦ apart-without s rows apart.1
      | false ↦ (found-without s r.0 rows ∙ none-either (same s r.0) (entry_of r.0 rows) apart.0, apart-without s rows apart.1)
    ]

count-of : (o p : Option Entry) (n m : ℕ) → o ≡ p → n + (if is_some o then 1 else 0) ≡ m → n + (if is_some p then 1 else 0) ≡ m
count-of o p n m e h = subst (λ (x : Option Entry). n + (if is_some x then 1 else 0) ≡ m) e h

count-left : (o : Option Entry) (n m k : ℕ) → n + (if is_some o then 1 else 0) ≡ k → m + (if is_some o then 1 else 0) ≡ k → n ≡ m
count-left None n m k e f = omega arith
count-left (Some x) n m k e f = omega arith

pub holds-without : (s : List ℕ) (kept new rows : List Row) → ((q : List ℕ) → entry_of q new ≡ cond (same s q) None (entry_of q kept))
    → length new + (if is_some (entry_of s kept) then 1 else 0) ≡ length kept → Holds kept rows → Holds new (without s rows)
holds-without s kept new rows others size h = record {
  found = λ q. others q ∙ ap (λ (o : Option Entry). cond (same s q) None o) (h.found q) ∙ sym (found-without s q rows);
  count = count-left (entry_of s rows) (length new) (length (without s rows)) (length rows)
      (count-of (entry_of s kept) (entry_of s rows) (length new) (length rows) (h.found s) (size ∙ h.count)) (count-without s rows h.apart);
  apart = apart-without s rows h.apart;
}

-- nothing goes where there is no entry
pub removed-absent : (s : List ℕ) (kept : List Row) → entry_of s kept ≡ None → (q : List ℕ) → entry_of q kept ≡ cond (same s q) None (entry_of q kept)
removed-absent s kept none q =
    elim (same-or-differ s q) [
      | inl f ↦ (let gone : entry_of q kept ≡ None = subst (λ x. entry_of x kept ≡ None) f none in
          rw (gone) (still-none (same s q)))
      | inr d ↦ rw (d.one) refl
    ]

-- the entry at the place of a session is under it
pub named-at : (s : List ℕ) (kept : List Row) (i : ℕ) (r : Row) → position (same s) (keys_of kept) ≡ Some i → slice_get kept i ≡ Some r → r.0 ≡ s
named-at s kept i r at is =
    let named : slice_get (keys_of kept) i ≡ Some r.0 = slice_get-map (λ (e : Row). e.0) kept i ∙ ap (option_map (λ (e : Row). e.0)) is in
    let equal : same s (get_or (keys_of kept) i r.0) ≡ true = (position-Some (same s) (keys_of kept) i r.0 at).1 in
    sym ((bytes_decides s r.0).0 (subst (λ k. same s k ≡ true) (get_or_from_slice_get (keys_of kept) i r.0 r.0 named) equal))

pub entry-there : (s : List ℕ) (kept : List Row) (i : ℕ) → position (same s) (keys_of kept) ≡ Some i → (r : Row) × (slice_get kept i ≡ Some r)
entry-there s kept i at =
    elim (slice_get_cases kept i).1 [
      | inl w ↦ (w.0, w.2)
      | inr w ↦ absurd (omega (arith, (position-Some (same s) (keys_of kept) i [] at).0, length-keys_of kept, w.0))
    ]

-- ---- one more

found-end : (s q : List ℕ) (e : Entry) (rows : List Row) → entry_of s rows ≡ None → entry_of q (rows ++ (s, e) ∷ []) ≡ cond (same s q) (Some e) (entry_of q rows)
found-end s q e [] none =
    elim (same-or-differ s q) [
      | inl f ↦ (let one : same s q ≡ true = subst (λ x. same s x ≡ true) f (same-self s) in
          let other : same q s ≡ true = subst (λ x. same x s ≡ true) f (same-self s) in
          rw (one, other) refl)
      | inr d ↦ (let one : same s q ≡ false = d.one in let other : same q s ≡ false = d.other in rw (one, other) refl)
    ]
found-end s q e (r ∷ rows) none =
    elim (same-or-differ s r.0) [
      | inl f ↦ absurd (let found : same s r.0 ≡ true = subst (λ x. same s x ≡ true) f (same-self s) in let is = rw found at none in cc)
      | inr d ↦ (let rest : entry_of s rows ≡ None = (let apart : same s r.0 ≡ false = d.one in rw apart at none) in
          elim (same-or-differ q r.0) [
            | inl f ↦ (let here : same q r.0 ≡ true = subst (λ x. same q x ≡ true) f (same-self q) in
                let unequal : same s q ≡ false = subst (λ x. same s x ≡ false) (sym f) d.one in
                rw (here, unequal) refl)
            | inr g ↦ (let other : same q r.0 ≡ false = g.one in rw other (found-end s q e rows rest))
          ])
    ]

apart-end : (s : List ℕ) (e : Entry) (rows : List Row) → entry_of s rows ≡ None → AreApart rows → AreApart (rows ++ (s, e) ∷ [])
apart-end s e [] none apart = (refl, tt)
apart-end s e (r ∷ rows) none apart =
    elim (same-or-differ s r.0) [
      | inl f ↦ absurd (let found : same s r.0 ≡ true = subst (λ x. same s x ≡ true) f (same-self s) in let is = rw found at none in cc)
      | inr d ↦ (let rest : entry_of s rows ≡ None = (let apart' : same s r.0 ≡ false = d.one in rw apart' at none) in
          let unequal : same s r.0 ≡ false = d.one in
          (found-end s r.0 e rows rest ∙ rw unequal apart.0, apart-end s e rows rest apart.1))
    ]

length-end : (rows : List Row) (r : Row) → length (rows ++ r ∷ []) ≡ length rows + 1
length-end [] r = omega arith
length-end (x ∷ rows) r = omega (arith, length-end rows r)

pub holds-more : (capacity : ℕ) (s : List ℕ) (e : Entry) (kept new rows : List Row)
    → ((q : List ℕ) → entry_of q new ≡ cond (same s q) (Some e) (entry_of q kept)) → length new ≡ length kept + 1
    → length kept < capacity → entry_of s kept ≡ None → Holds kept rows → Holds new (appended capacity s e rows (entry_of s rows))
holds-more capacity s e kept new rows others size few none h =
    let count = h.count in
    let none' : entry_of s rows ≡ None = sym (h.found s) ∙ none in
    let room : nat_lt (length rows) capacity ≡ true = grind arith in
    rw (none', room) (record {
      found = λ q. others q ∙ ap (λ (o : Option Entry). cond (same s q) (Some e) o) (h.found q) ∙ sym (found-end s q e rows none');
      count = omega (arith, size, h.count, length-end rows (s, e));
      apart = apart-end s e rows none' h.apart;
    })

stays : (capacity : ℕ) (s : List ℕ) (e : Entry) (rows : List Row) (o : Option Entry) → (nat_lt (length rows) capacity && is_none o) ≡ false → appended capacity s e rows o ≡ rows
stays capacity s e rows (Some x) either = refl
stays capacity s e rows None either =
    elim (nat_lt (length rows) capacity) as (λ b. (b && true) ≡ false → cond b (rows ++ (s, e) ∷ []) rows ≡ rows) [
      | true ↦ (λ x. absurd (cc))
      | false ↦ (λ x. refl)
    ] either

pub holds-still : (capacity : ℕ) (s : List ℕ) (e : Entry) (kept rows : List Row) → (nat_lt (length kept) capacity && is_none (entry_of s kept)) ≡ false
    → Holds kept rows → Holds kept (appended capacity s e rows (entry_of s rows))
holds-still capacity s e kept rows either h =
    subst (Holds kept) (sym (stays capacity s e rows (entry_of s rows)
    (ap (λ (o : Option Entry). nat_lt (length rows) capacity && is_none o) (sym (h.found s)) ∙ ap (λ n. nat_lt n capacity && is_none (entry_of s kept)) (sym h.count) ∙ either))) h
