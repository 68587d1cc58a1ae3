-- The row to which an index leads is the one of its key, or of its number.
use Rattle.std.proofs.Common.{◌≡◌, ℕ, zero, suc, ◌+◌, ◌-◌, ◌<◌, ◌⊎◌, inl, inr, Bool, true, false, nat_lt, ◌==◌, cond, List, [], ◌∷◌, ◌++◌, append_assoc, filter, length, slice_get, if◌then◌else◌, refl, ap, sym, subst, ◌∙◌, arith, Option, Some, None, option_map, option_and_then}
use Rattle.std.proofs.lemmas.Bool.{and_parts, eqb-true}
use Rattle.std.specs.List.{AllByRecursion}
use Rattle.std.specs.Map.{lookup}
use Rattle.std.specs.BTreeMap.{is_at}
use Rattle.std.specs.HashMap.{get}
use Rattle.std.specs.Ordering.{nat_cmp}
use Rattle.pending_table.specs.declared.key.Key.{Key}
use Rattle.pending_table.specs.declared.stores.Stores.{Stores}
use Rattle.pending_table.specs.declared.stores.Number.{Number}
use Rattle.pending_table.specs.declared.stores.RowPlace.{RowPlace}
use Rattle.pending_table.specs.declared.stores.RowPlace.TheVariants.{Waiting, Settled}
use Rattle.pending_table.specs.Table.{Row, same_key}
use Rattle.pending_table.specs.Merged.{Held, put, merged, rows, Pairs}
use Rattle.pending_table.specs.Stores.{Within, IsOnly, IsKept, IsWhole, CountedFrom, waits, all, passing, by_key, row_at, waiting_at, settled_at, same_number}
use Rattle.pending_table.specs.KeyLaws.{same_key-equal}
use Rattle.pending_table.proofs.Merging.{all_merged, all_filter}

-- numbers whose parts are equal are the same

abbrev number_from : ℕ → ℕ → Number
number_from link number = record { link = link; number = number }

pub same_number-equal : (a b : Number) → same_number a b ≡ true → a ≡ b
same_number-equal a b e =
    let two = and_parts _ _ e in
    ap (λ l. number_from l a.number) (eqb-true _ _ two.0) ∙ ap (λ n. number_from b.link n) (eqb-true _ _ two.1)

-- All over two lists of facts

pub all_both :
    {X : Type 0}
    → (P Q R : X → Type 0) (xs : List X)
    → ((x : X) → P x → Q x → R x)
    → AllByRecursion P xs
    → AllByRecursion Q xs
    → AllByRecursion R xs
all_both P Q R [] f p q = p
all_both P Q R (x ∷ xs) f p q = (f x p.0 q.0, all_both P Q R xs f p.1 q.1)

pub all_rows : (P : Row → Type 0) (ps : List Held) → AllByRecursion (λ p. P p.1) ps → AllByRecursion P (rows ps)
all_rows P [] h = h
all_rows P (p ∷ ps) h = (h.0, all_rows P ps h.1)

-- what stands in a store is found there

is_at-own : (n : ℕ) → is_at (nat_cmp n) n ≡ true
is_at-own n = let less : nat_lt n n ≡ false = grind arith in let same : (n == n) ≡ true = grind arith in rw (less, same) refl

is_at-other : (n k : ℕ) → k < n → is_at (nat_cmp n) k ≡ false
is_at-other n k below = let less : nat_lt n k ≡ false = grind (arith, below) in let other : (n == k) ≡ false = grind (arith, below) in rw (less, other) refl

pub lookup-own :
    (ps : List Held)
    → Pairs (λ p q. p.0 < q.0) ps
    → AllByRecursion (λ p. lookup (is_at (nat_cmp p.0)) ps ≡ Some p.1) ps
lookup-own [] h = tt
lookup-own (q ∷ qs) h = (
  rw (is_at-own q.0) refl,
  all_both (λ p. q.0 < p.0) (λ p. lookup (is_at (nat_cmp p.0)) qs ≡ Some p.1) (λ p. lookup (is_at (nat_cmp p.0)) (q ∷ qs) ≡ Some p.1) qs
      (λ p below found. rw (is_at-other p.0 q.0 below) found)
      h.0
      (lookup-own qs h.1),
)

middle : (ys : List Held) (x : Held) (xs : List Held) → slice_get (ys ++ x ∷ xs) (length ys) ≡ Some x
middle [] x xs = refl
middle (y ∷ ys) x xs = middle ys x xs

-- what an element of a list is

pub within-lookup : (test : ℕ → Bool) (ps : List Held) (r : Row) → lookup test ps ≡ Some r → Within r (rows ps)
within-lookup test [] r h = absurd cc
within-lookup test (p ∷ ps) r h = by (test p.0) h (within-lookup test ps r)
  where
    by : (b : Bool) → cond b (Some p.1) (lookup test ps) ≡ Some r → (lookup test ps ≡ Some r → Within r (rows ps)) → (p.1 ≡ r) ⊎ Within r (rows ps)
    by true e rest = inl (cc)
    by false e rest = inr (rest e)

within-put : (r : Row) (x : Held) (ps : List Held) → (x.1 ≡ r) ⊎ Within r (rows ps) → Within r (rows (put x ps))
within-put r x [] w = w
within-put r x (p ∷ ps) w = by (nat_lt x.0 p.0) w (within-put r x ps)
  where
    by :
        (b : Bool)
        → (x.1 ≡ r) ⊎ ((p.1 ≡ r) ⊎ Within r (rows ps))
        → ((x.1 ≡ r) ⊎ Within r (rows ps) → Within r (rows (put x ps)))
        → Within r (rows (if b then x ∷ p ∷ ps else p ∷ put x ps))
    by true v rest = v
    by false (inl e) rest = inr (rest (inl e))
    by false (inr (inl e)) rest = inl e
    by false (inr (inr v)) rest = inr (rest (inr v))

pub within-merged : (r : Row) (ps xs : List Held) → Within r (rows ps) ⊎ Within r (rows xs) → Within r (rows (merged ps xs))
within-merged r ps [] (inl w) = w
within-merged r ps [] (inr w) = absurd w
within-merged r ps (x ∷ xs) (inl w) = within-put r x (merged ps xs) (inr (within-merged r ps xs (inl w)))
within-merged r ps (x ∷ xs) (inr (inl e)) = within-put r x (merged ps xs) (inl e)
within-merged r ps (x ∷ xs) (inr (inr w)) = within-put r x (merged ps xs) (inr (within-merged r ps xs (inr w)))

-- the one that a hint may name

pub only-passing :
    {X : Type 0}
    → (test : X → Bool) (o : Option X) (xs : List X)
    → AllByRecursion (λ y. test y ≡ true → o ≡ Some y) xs
    → ((x : X) → o ≡ Some x → Within x xs)
    → (passed : Option X)
    → passed ≡ option_and_then (λ x. if test x then Some x else None) o
    → IsOnly test passed xs
only-passing test None xs all within passed e = subst (λ p. IsOnly test p xs) (sym e) (none xs all)
  where
    none : (ys : List _) → AllByRecursion (λ y. test y ≡ true → None ≡ Some y) ys → AllByRecursion (λ y. test y ≡ false) ys
    none [] h = h
    none (y ∷ ys) h = (by (test y) refl, none ys h.1)
      where
        by : (b : Bool) → test y ≡ b → test y ≡ false
        by true t = absurd (let k = h.0 t in cc)
        by false t = t
only-passing test (Some x) xs all within passed e = subst (λ p. IsOnly test p xs) (sym e) (by (test x) refl)
  where
    by : (b : Bool) → test x ≡ b → IsOnly test (if b then Some x else None) xs
    by true t = (t, within x refl, same xs all)
      where
        same : (ys : List _) → AllByRecursion (λ y. test y ≡ true → Some x ≡ Some y) ys → AllByRecursion (λ y. test y ≡ true → y ≡ x) ys
        same [] h = h
        same (y ∷ ys) h = ((λ u. let k = h.0 u in cc), same ys h.1)
    by false t = other xs all
      where
        other : (ys : List _) → AllByRecursion (λ y. test y ≡ true → Some x ≡ Some y) ys → AllByRecursion (λ y. test y ≡ false) ys
        other [] h = h
        other (y ∷ ys) h = (each (test y) refl, other ys h.1)
          where
            each : (c : Bool) → test y ≡ c → test y ≡ false
            each true u = absurd (let k = h.0 u in cc)
            each false u = u

-- a filter keeps what holds of pairs

pub pairs_filter : (R : Held → Held → Type 0) (q : Held → Bool) (ps : List Held) → Pairs R ps → Pairs R (filter q ps)
pairs_filter R q [] h = h
pairs_filter R q (p ∷ ps) h = by (q p) (pairs_filter R q ps h.1)
  where
    by : (b : Bool) → Pairs R (filter q ps) → Pairs R (if b then p ∷ filter q ps else filter q ps)
    by true rest = (all_filter (R p) q ps h.0, rest)
    by false rest = rest

pub passing-is : (test : Row → Bool) (o : Option Row) → passing test o ≡ option_and_then (λ r. if test r then Some r else None) o
passing-is test None = refl
passing-is test (Some r) = refl

length-end : (ys : List Held) (x : Held) → length (ys ++ x ∷ []) ≡ length ys + 1
length-end [] x = omega arith
length-end (y ∷ ys) x = omega (arith, length-end ys x)

-- each row is the one to which the hint of its key leads

abbrev Hinted : Stores → Row → Type 0
Hinted s r = option_and_then (row_at s) (get same_key s.keys r.0) ≡ Some r

hinted_waiting : (s : Stores) → IsKept s → IsWhole s → AllByRecursion (λ p. Hinted s p.1) (waits s)
hinted_waiting s h whole =
    all_both (λ p. get same_key s.keys p.1.0 ≡ Some (Waiting p.0)) (λ p. waiting_at s p.0 ≡ Some p.1) (λ p. Hinted s p.1) (waits s)
    (λ p hint found. rw hint found)
    h.by_key
    (subst (AllByRecursion (λ p. waiting_at s p.0 ≡ Some p.1)) (sym whole) (lookup-own s.waiting.entries h.rising))

hinted_settled :
    (s : Stores) (ys xs : List Held) (n : ℕ)
    → s.settled.items ≡ ys ++ xs
    → n ≡ s.dropped + length ys
    → CountedFrom (get same_key s.keys) n xs
    → AllByRecursion (λ x. Hinted s x.1) xs
hinted_settled s ys [] n split at h = h
hinted_settled s ys (x ∷ xs) n split at h = (rw h.0 found, hinted_settled s (ys ++ x ∷ []) xs (n + 1) later count h.1)
  where
    later : s.settled.items ≡ (ys ++ x ∷ []) ++ xs
    later = split ∙ sym (append_assoc ys (x ∷ []) xs)

    count : n + 1 ≡ s.dropped + length (ys ++ x ∷ [])
    count = omega (arith, at, length-end ys x)

    found : settled_at s n ≡ Some x.1
    found =
        let low : nat_lt n s.dropped ≡ false = grind (arith, at) in
        let index : n - s.dropped ≡ length ys = omega (arith, at) in
        rw (low, index, split, middle ys x xs) refl

hinted : (s : Stores) → IsKept s → IsWhole s → AllByRecursion (Hinted s) (all s)
hinted s h whole =
    all_rows (Hinted s) (merged (waits s) s.settled.items)
    (all_merged (λ p. Hinted s p.1) (waits s) s.settled.items
    (hinted_waiting s h whole)
    (hinted_settled s [] s.settled.items s.dropped refl (omega arith) h.by_count))

-- and what a hint leads to is a row

within-settled : (s : Stores) (i : ℕ) (r : Row) (xs : List Held) → option_map (λ x. x.1) (slice_get xs i) ≡ Some r → Within r (rows xs)
within-settled s i r [] e = absurd cc
within-settled s zero r (x ∷ xs) e = inl (cc)
within-settled s (suc i) r (x ∷ xs) e = inr (within-settled s i r xs e)

within_row : (s : Stores) → IsWhole s → (place : RowPlace) (r : Row) → row_at s place ≡ Some r → Within r (all s)
within_row s whole (Waiting serial) r e =
    within-merged r (waits s) s.settled.items (inl (subst (λ ps. Within r (rows ps)) (sym whole) (within-lookup (is_at (nat_cmp serial)) s.waiting.entries r e)))
within_row s whole (Settled count) r e = by (nat_lt count s.dropped) e
  where
    by : (b : Bool) → (if b then None else option_map (λ x. x.1) (slice_get s.settled.items (count - s.dropped))) ≡ Some r → Within r (all s)
    by true k = absurd cc
    by false k = within-merged r (waits s) s.settled.items (inr (within-settled s (count - s.dropped) r s.settled.items k))

pub only_by_key : (s : Stores) → IsKept s → IsWhole s → (key : Key) → IsOnly (λ r. same_key r.0 key) (by_key s key) (all s)
only_by_key s h whole key =
    only-passing (λ r. same_key r.0 key) (option_and_then (row_at s) (get same_key s.keys key)) (all s)
    (named (all s) (hinted s h whole))
    (λ r e. within (get same_key s.keys key) r e)
    (by_key s key)
    (passing-is (λ r. same_key r.0 key) (option_and_then (row_at s) (get same_key s.keys key)))
  where
    named : (rs : List Row) → AllByRecursion (Hinted s) rs → AllByRecursion (λ r. same_key r.0 key ≡ true → option_and_then (row_at s) (get same_key s.keys key) ≡ Some r) rs
    named [] all = all
    named (r ∷ rs) all =
        ((λ e. subst (λ k. option_and_then (row_at s) (get same_key s.keys k) ≡ Some r) (same_key-equal r.0 key e) all.0), named rs all.1)

    within : (place : Option RowPlace) (r : Row) → option_and_then (row_at s) place ≡ Some r → Within r (all s)
    within None r e = absurd cc
    within (Some place) r e = within_row s whole place r e
