-- The rows that wait and live stand behind the dead ones.
use Rattle.std.proofs.Common.{◌≡◌, ℕ, zero, suc, ◌+◌, Bool, true, false, List, [], ◌∷◌, filter, drop, length, if◌then◌else◌, refl, ap, sym, subst, ◌∙◌, arith, Option, Some, None, Bor}
use Rattle.std.specs.List.{AllByRecursion}
use Rattle.std.specs.Iterator.{YieldsFirstRef}
use Rattle.std.specs.BTreeMap.{values}
use Rattle.pending_table.specs.declared.stores.Stores.{Stores}
use Rattle.pending_table.specs.Table.{Row, is_waiting}
use Rattle.pending_table.specs.Merged.{rows, Pairs}
use Rattle.pending_table.specs.Stores.{IsKept, IsWhole, is_live, ends_before, waits}
use Rattle.pending_table.proofs.Hints.{all_rows}
use Rattle.pending_table.proofs.Kept.{live_on}
use Rattle.pending_table.proofs.Lists.{length-filter_below}
use Rattle.pending_table.proofs.Merging.{all_filter, filter-rows}

-- a filter that loses nothing
full_filter : {X : Type 0} → (q : X → Bool) (xs : List X) → length (filter q xs) ≡ length xs → filter q xs ≡ xs
full_filter q [] full = refl
full_filter {X = X} q (x ∷ xs) full = by (q x) full (full_filter q xs)
  where
    by :
        (b : Bool)
        → length (if b then x ∷ filter q xs else filter q xs) ≡ suc (length xs)
        → (length (filter q xs) ≡ length xs → filter q xs ≡ xs)
        → (if b then x ∷ filter q xs else filter q xs) ≡ x ∷ xs
    by true k later = ap (λ l. x ∷ l) (later (omega (arith, k)))
    by false k later = absurd (omega (arith, k, length-filter_below q xs))

-- behind as many rows as are dead stand the live ones
pub live_rest :
    (s : Stores) (moment : ℕ) (rs : List Row) (dead : ℕ)
    → Pairs (ends_before s) rs
    → dead + length (filter (is_live s moment) rs) ≡ length rs
    → drop dead rs ≡ filter (is_live s moment) rs
live_rest s moment [] zero pairs count = refl
live_rest s moment [] (suc dead) pairs count = refl
live_rest s moment (r ∷ rs) zero pairs count = sym (full_filter (is_live s moment) (r ∷ rs) (omega (arith, count)))
live_rest s moment (r ∷ rs) (suc dead) pairs count = by (is_live s moment r) refl count (live_rest s moment rs dead pairs.1)
  where
    by :
        (b : Bool)
        → is_live s moment r ≡ b
        → suc dead + length (if b then r ∷ filter (is_live s moment) rs else filter (is_live s moment) rs) ≡ suc (length rs)
        → (dead + length (filter (is_live s moment) rs) ≡ length rs → drop dead rs ≡ filter (is_live s moment) rs)
        → drop dead rs ≡ (if b then r ∷ filter (is_live s moment) rs else filter (is_live s moment) rs)
    by true lives k later = absurd (omega (arith, count, live_on s moment r rs pairs lives))
    by false dies k later = later (omega (arith, k))

drop-behind : {X : Type 0} → (n : ℕ) (xs : List X) → drop 1 (drop n xs) ≡ drop (suc n) xs
drop-behind zero [] = refl
drop-behind zero (x ∷ xs) = refl
drop-behind (suc n) [] = refl
drop-behind (suc n) (x ∷ xs) = drop-behind n xs

-- a step of an iterator leaves all but the first
pub left_behind :
    {X : Type 0}
    → (n : ℕ) (xs ys zs : List X) (given : Option (Bor X))
    → YieldsFirstRef (λ l. l) ys given zs
    → ys ≡ drop n xs
    → zs ≡ drop (n + 1) xs
left_behind {X = X} n xs ys zs given step is = left given step ∙ ap (drop 1) is ∙ drop-behind n xs ∙ ap (λ k. drop k xs) next
  where
    next : suc n ≡ n + 1
    next = omega arith

    left : (r : Option (Bor X)) → YieldsFirstRef (λ l. l) ys r zs → zs ≡ drop 1 ys
    left None none = none.1 ∙ sym (ap (drop 1) none.0)
    left (Some x) first = sym (ap (drop 1) first)

pub live_wait :
    (s : Stores)
    → IsKept s
    → IsWhole s
    → (moment : ℕ)
    → AllByRecursion (λ r. is_waiting r.1.answer ≡ true) (filter (is_live s moment) (values s.waiting))
live_wait s h whole moment =
    let live = filter (λ p. is_live s moment p.1) (waits s) in
    subst (λ ps. AllByRecursion (λ r. is_waiting r.1.answer ≡ true) (filter (is_live s moment) (rows ps))) whole
    (subst (AllByRecursion (λ r. is_waiting r.1.answer ≡ true)) (sym (filter-rows (is_live s moment) (waits s)))
    (all_rows (λ r. is_waiting r.1.answer ≡ true) live
    (all_filter (λ p. is_waiting p.1.1.answer ≡ true) (λ p. is_live s moment p.1) (waits s) h.waiting)))
