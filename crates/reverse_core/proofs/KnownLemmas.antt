-- What the index says of a key is what a search says.
use Rattle.std.proofs.Common.{◌≡◌, ℕ, suc, ◌+◌, ◌-◌, ◌≤◌, Bool, true, false, cond, ◌||◌, nat_lt, List, [], ◌∷◌, filter, Option, Some, None, refl, sym, ap, ◌∙◌, arith}
use Rattle.std.specs.Prelude.{find, is_some, slice_get}
use Rattle.std.specs.List.{list_any}
use Rattle.std.specs.Option.{option_or}
use Rattle.reverse_map.specs.declared.own.Reverse.{Reverse}
use Rattle.reverse_core.specs.declared.key.Key.{Key}
use Rattle.reverse_core.specs.declared.requests.OpenRequest.{OpenRequest}
use Rattle.reverse_core.specs.declared.requests.KeptAnswer.{KeptAnswer}
use Rattle.reverse_core.specs.declared.ledger.Standing.{Standing}
use Rattle.reverse_core.specs.declared.ledger.Standing.TheVariants.{Open, Kept}
use Rattle.reverse_core.specs.Keys.{same_key}
use Rattle.reverse_core.specs.Requests.{is_kept}
use Rattle.reverse_core.specs.History.{Unknown, IsOpen, known, known_kept}
use Rattle.reverse_core.specs.Considering.{known_by}
use Rattle.reverse_core.specs.Windows.{KeptParts, kept_at}
use Rattle.reverse_core.specs.State.{open_standing, kept_standing, standing_of, count_open, count_kept}
use Rattle.reverse_core.proofs.IndexLemmas.{one_if}

-- ---- searches

pub find-any : {X : Type 0} → (p : X → Bool) (xs : List X) → is_some (find p xs) ≡ list_any p xs
find-any p [] = refl
find-any p (x ∷ xs) =
    elim (p x) as (λ b. is_some (cond b (Some x) (find p xs)) ≡ (b || list_any p xs)) [
      | true ↦ refl
      | false ↦ find-any p xs
    ]

filter-find-none : {X : Type 0} → (p q : X → Bool) (xs : List X) → find p xs ≡ None → find p (filter q xs) ≡ None
filter-find-none p q [] e = refl
filter-find-none p q (x ∷ xs) e = by (p x) (q x) refl e (filter-find-none p q xs)
  where
    by : (b c : Bool) → p x ≡ b → cond b (Some x) (find p xs) ≡ None → (find p xs ≡ None → find p (filter q xs) ≡ None)
        → find p (cond c (x ∷ filter q xs) (filter q xs)) ≡ None
    by true c f e rest = absurd (cc)
    by false true f e rest = rw f (rest e)
    by false false f e rest = rest e

-- ---- open requests

any-open : (q : Key) (os : List OpenRequest) → open_standing q os ≡ cond (list_any (λ o. same_key o.taken.key q) os) (Some Open) None
any-open q [] = refl
any-open q (o ∷ os) =
    elim (same_key o.taken.key q) as (λ b. cond b (Some Open) (open_standing q os) ≡ cond (b || list_any (λ x. same_key x.taken.key q) os) (Some Open) None) [
      | true ↦ refl
      | false ↦ any-open q os
    ]

-- ---- kept answers

none-kept : (q : Key) (n : ℕ) (ks : List KeptAnswer) → kept_standing q n ks ≡ None → find (λ k. same_key k.key q) ks ≡ None
none-kept q n [] e = refl
none-kept q n (k ∷ ks) e = by (same_key k.key q) e (none-kept q (n + 1) ks)
  where
    by : (b : Bool) → cond b (Some (Kept n)) (kept_standing q (n + 1) ks) ≡ None
        → (kept_standing q (n + 1) ks ≡ None → find (λ x. same_key x.key q) ks ≡ None) → cond b (Some k) (find (λ x. same_key x.key q) ks) ≡ None
    by true e rest = absurd (cc)
    by false e rest = rest e

record IsAt (q : Key) (n c : ℕ) (ks : List KeptAnswer) : Type 0 where
  low : n ≤ c
  found : slice_get ks (c - n) ≡ find (λ k. same_key k.key q) ks

at-kept : (q : Key) (n c : ℕ) (ks : List KeptAnswer) → kept_standing q n ks ≡ Some (Kept c) → IsAt q n c ks
at-kept q n c [] e = absurd (cc)
at-kept q n c (k ∷ ks) e = by (same_key k.key q) refl e (at-kept q (n + 1) c ks)
  where
    by : (b : Bool) → same_key k.key q ≡ b → cond b (Some (Kept n)) (kept_standing q (n + 1) ks) ≡ Some (Kept c)
        → (kept_standing q (n + 1) ks ≡ Some (Kept c) → IsAt q (n + 1) c ks) → IsAt q n c (k ∷ ks)
    by true f e rest =
        let is : n ≡ c = cc in
        let none : c - n ≡ 0 = omega arith in
        record { low = omega arith; found = ap (λ i. slice_get (k ∷ ks) i) none ∙ sym (ap (λ b. cond b (Some k) (find (λ x. same_key x.key q) ks)) f) }
    by false f e rest =
        let r = rest e in
        let more : c - n ≡ suc (c - (n + 1)) = (let low = r.low in omega arith) in
        record {
          low = (let low = r.low in omega arith);
          found = ap (λ i. slice_get (k ∷ ks) i) more ∙ r.found ∙ sym (ap (λ b. cond b (Some k) (find (λ x. same_key x.key q) ks)) f);
        }

kept-at : (q : Key) (n c : ℕ) (ks : List KeptAnswer) → kept_standing q n ks ≡ Some (Kept c)
    → kept_at (record { dropped = n; list = ks }) c ≡ find (λ k. same_key k.key q) ks
kept-at q n c ks e =
    let at = at-kept q n c ks e in
    let low : nat_lt c n ≡ false = (let l = at.low in grind arith) in
    rw low at.found

-- a key of which there is one at most
find-one : (own : Reverse) (at : ℕ) (q : Key) (ks : List KeptAnswer) → count_kept q ks ≤ 1
    → known_by own at (find (λ k. same_key k.key q) ks) ≡ known_kept (find (λ k. same_key k.key q) (filter (is_kept own at) ks))
find-one own at q [] single = refl
find-one own at q (k ∷ ks) single = by (same_key k.key q) (is_kept own at k) refl refl single (find-one own at q ks)
  where
    -- no further one has it
    no-more : (xs : List KeptAnswer) → count_kept q xs ≡ 0 → find (λ x. same_key x.key q) xs ≡ None
    no-more [] e = refl
    no-more (x ∷ xs) e =
        elim (same_key x.key q) as (λ b. count_kept q xs + one_if b ≡ 0 → cond b (Some x) (find (λ y. same_key y.key q) xs) ≡ None) [
          | true ↦ (λ f. absurd (omega arith))
          | false ↦ (λ f. no-more xs (omega arith))
        ] e

    by : (b c : Bool) → same_key k.key q ≡ b → is_kept own at k ≡ c → count_kept q ks + one_if b ≤ 1
        → (count_kept q ks ≤ 1 → known_by own at (find (λ x. same_key x.key q) ks) ≡ known_kept (find (λ x. same_key x.key q) (filter (is_kept own at) ks)))
        → known_by own at (cond b (Some k) (find (λ x. same_key x.key q) ks)) ≡ known_kept (find (λ x. same_key x.key q) (cond c (k ∷ filter (is_kept own at) ks) (filter (is_kept own at) ks)))
    by true true e f s rest = rw (e, f) refl
    by true false e f s rest =
        rw f (sym (ap known_kept (filter-find-none (λ x. same_key x.key q) (is_kept own at) ks (no-more ks (omega arith)))))
    by false true e f s rest = rw e (rest (omega arith))
    by false false e f s rest = rest (omega arith)

-- ---- together

no-open : (q : Key) (os : List OpenRequest) (s : Option Standing) → option_or (open_standing q os) s ≡ s → ((c : ℕ) → s ≡ Some (Kept c) → list_any (λ o. same_key o.taken.key q) os ≡ false)
no-open q os s e c f = by (list_any (λ o. same_key o.taken.key q) os) refl
  where
    by : (b : Bool) → list_any (λ o. same_key o.taken.key q) os ≡ b → b ≡ false
    by true a = absurd (let o : open_standing q os ≡ Some Open = any-open q os ∙ ap (λ x. cond x (Some Open) None) a in
        let g : Some Open ≡ Some (Kept c) = sym (ap (λ x. option_or x s) o) ∙ e ∙ f in cc)
    by false a = refl

pub known-none : (own : Reverse) (at : ℕ) (q : Key) (os : List OpenRequest) (n : ℕ) (ks : List KeptAnswer)
    → None ≡ standing_of q os n ks → Unknown ≡ known q os (filter (is_kept own at) ks)
known-none own at q os n ks e = by (list_any (λ o. same_key o.taken.key q) os) (any-open q os)
  where
    by : (b : Bool) → open_standing q os ≡ cond b (Some Open) None → Unknown ≡ cond b IsOpen (known_kept (find (λ k. same_key k.key q) (filter (is_kept own at) ks)))
    by true a = absurd (let f : None ≡ Some Open = e ∙ ap (λ s. option_or s (kept_standing q n ks)) a in cc)
    by false a =
        let none : kept_standing q n ks ≡ None = sym (e ∙ ap (λ s. option_or s (kept_standing q n ks)) a) in
        sym (ap known_kept (filter-find-none (λ k. same_key k.key q) (is_kept own at) ks (none-kept q n ks none)))

not-open : (q : Key) (n : ℕ) (ks : List KeptAnswer) → kept_standing q n ks ≡ Some Open → ⊥
not-open q n [] e = absurd (cc)
not-open q n (k ∷ ks) e =
    elim (same_key k.key q) as (λ b. cond b (Some (Kept n)) (kept_standing q (n + 1) ks) ≡ Some Open → ⊥) [
      | true ↦ (λ f. absurd (cc))
      | false ↦ not-open q (n + 1) ks
    ] e

pub known-open : (ks' : List KeptAnswer) (q : Key) (os : List OpenRequest) (n : ℕ) (ks : List KeptAnswer)
    → Some Open ≡ standing_of q os n ks → IsOpen ≡ known q os ks'
known-open ks' q os n ks e = by (list_any (λ o. same_key o.taken.key q) os) (any-open q os)
  where
    by : (b : Bool) → open_standing q os ≡ cond b (Some Open) None → IsOpen ≡ cond b IsOpen (known_kept (find (λ k. same_key k.key q) ks'))
    by true a = refl
    by false a = absurd (not-open q n ks (sym (e ∙ ap (λ s. option_or s (kept_standing q n ks)) a)))

pub known-kept : (own : Reverse) (at : ℕ) (q : Key) (os : List OpenRequest) (c : ℕ) (k : KeptParts)
    → count_open q os + count_kept q k.list ≤ 1 → Some (Kept c) ≡ standing_of q os k.dropped k.list
    → known_by own at (kept_at k c) ≡ known q os (filter (is_kept own at) k.list)
known-kept own at q os c k single e = by (list_any (λ o. same_key o.taken.key q) os) (any-open q os)
  where
    by : (b : Bool) → open_standing q os ≡ cond b (Some Open) None
        → known_by own at (kept_at k c) ≡ cond b IsOpen (known_kept (find (λ x. same_key x.key q) (filter (is_kept own at) k.list)))
    by true a = absurd (let f : Some (Kept c) ≡ Some Open = e ∙ ap (λ s. option_or s (kept_standing q k.dropped k.list)) a in cc)
    by false a =
        let there : kept_standing q k.dropped k.list ≡ Some (Kept c) = sym (e ∙ ap (λ s. option_or s (kept_standing q k.dropped k.list)) a) in
        ap (known_by own at) (kept-at q k.dropped c k.list there) ∙ find-one own at q k.list (omega arith)
