-- An index into which the number of each row was put leads to the rows.
use Rattle.std.proofs.Common.{◌≡◌, ℕ, ◌+◌, Bool, true, false, true≢false, ◌==◌, cond, List, [], ◌∷◌, ◌++◌, length, if◌then◌else◌, refl, ap, sym, subst, ◌∙◌, arith, Option, Some, is_some, Result, Ok, Err, IsOk, IfOk, OnOk}
use Rattle.std.specs.List.{AllByRecursion}
use Rattle.std.specs.HashMap.{HashMap, get, hash_map_len, IsEmpty, Updates}
use Rattle.std.specs.Map.{lookup}
use Rattle.std.specs.declared.random_state.RandomState.{RandomState}
use Rattle.pending_table.specs.declared.stores.Number.{Number}
use Rattle.pending_table.specs.Merged.{Held, Pairs}
use Rattle.pending_table.specs.Stores.{same_number, number_of}
use Rattle.pending_table.specs.Relinked.{HasOtherNumber, LeadsTo}
use Rattle.pending_table.proofs.Hints.{all_both, same_number-equal}

-- All and Pairs, around one element

all_end : {X : Type 0} → (P : X → Type 0) (xs : List X) (x : X) → AllByRecursion P xs → P x → AllByRecursion P (xs ++ x ∷ [])
all_end P [] x h p = (p, tt)
all_end P (y ∷ ys) x h p = (h.0, all_end P ys x h.1 p)

all_front : {X : Type 0} → (P : X → Type 0) (xs ys : List X) → AllByRecursion P (xs ++ ys) → AllByRecursion P xs
all_front P [] ys h = tt
all_front P (x ∷ xs) ys h = (h.0, all_front P xs ys h.1)

all_at : {X : Type 0} → (P : X → Type 0) (xs : List X) (x : X) (ys : List X) → AllByRecursion P (xs ++ x ∷ ys) → P x
all_at P [] x ys h = h.0
all_at P (z ∷ xs) x ys h = all_at P xs x ys h.1

pub pairs_at :
    {X : Type 0}
    → (R : X → X → Type 0) (xs : List X) (x : X) (ys : List X)
    → Pairs R (xs ++ x ∷ ys)
    → AllByRecursion (λ y. R y x) xs
pairs_at R [] x ys h = tt
pairs_at R (z ∷ xs) x ys h = (all_at (R z) xs x ys h.0, pairs_at R xs x ys h.1)

length_end : (ps : List Held) (p : Held) → length (ps ++ p ∷ []) ≡ length ps + 1
length_end [] p = omega arith
length_end (q ∷ qs) p = omega (arith, length_end qs p)

-- whether two numbers are the same

same_number-own : (a : Number) → same_number a a ≡ true
same_number-own a = let link : (a.link == a.link) ≡ true = grind arith in let number : (a.number == a.number) ≡ true = grind arith in rw (link, number) refl

pub other-swapped : (a b : Number) → same_number a b ≡ false → same_number b a ≡ false
other-swapped a b other = by (same_number b a) refl
  where
    by : (c : Bool) → same_number b a ≡ c → same_number b a ≡ false
    by false e = e
    by true e =
        let same : b ≡ a = same_number-equal b a e in
        absurd (true≢false (sym e ∙ ap (λ c. same_number c a) same ∙ sym (ap (same_number a) same) ∙ other))

-- the empty index, and one more row

pub leads-empty : (m : HashMap Number ℕ RandomState) → IsEmpty m → LeadsTo [] m
leads-empty m empty = record {
  each = tt;
  unused = λ n none. ap (lookup (same_number n)) empty;
  numbered = omega arith;
}

pub leads-end :
    (done : List Held) (p : Held) (m n : HashMap Number ℕ RandomState) (old : Option ℕ)
    → LeadsTo done m
    → AllByRecursion (λ q. HasOtherNumber q p) done
    → old ≡ get same_number m (number_of p.1)
    → ((k : Number) → get same_number n k ≡ cond (same_number (number_of p.1) k) (Some p.0) (get same_number m k))
    → hash_map_len n ≡ hash_map_len m + (if is_some old then 0 else 1)
    → LeadsTo (done ++ p ∷ []) n
leads-end done p m n old h apart was updates len = record {
  each = all_end (λ q. get same_number n (number_of q.1) ≡ Some q.0) done p
      (all_both (λ q. HasOtherNumber q p) (λ q. get same_number m (number_of q.1) ≡ Some q.0) (λ q. get same_number n (number_of q.1) ≡ Some q.0) done
      (λ q other at. updates (number_of q.1) ∙ kept (number_of q.1) (other-swapped (number_of q.1) (number_of p.1) other) ∙ at)
      apart
      h.each)
      (updates (number_of p.1) ∙ ap (λ b. cond b (Some p.0) (get same_number m (number_of p.1))) (same_number-own (number_of p.1)));
  unused = λ k none.
      updates k
      ∙ kept k (all_at (λ q. same_number (number_of q.1) k ≡ false) done p [] none)
      ∙ h.unused k (all_front (λ q. same_number (number_of q.1) k ≡ false) done (p ∷ []) none);
  numbered = omega (arith, h.numbered, more, length_end done p);
}
  where
    kept : (k : Number) → same_number (number_of p.1) k ≡ false → cond (same_number (number_of p.1) k) (Some p.0) (get same_number m k) ≡ get same_number m k
    kept k other = ap (λ b. cond b (Some p.0) (get same_number m k)) other

    more : hash_map_len n ≡ hash_map_len m + 1
    more = subst (λ o. hash_map_len n ≡ hash_map_len m + (if is_some o then 0 else 1)) (was ∙ h.unused (number_of p.1) apart) len

-- an insertion that isn't refused puts one more row in
pub leads-inserted :
    {E : Type 0}
    → (done : List Held) (p : Held) (m n : HashMap Number ℕ RandomState) (r : Result (Option ℕ) E)
    → LeadsTo done m
    → AllByRecursion (λ q. HasOtherNumber q p) done
    → IsOk r
    → IfOk r (λ old. old ≡ get same_number m (number_of p.1))
    → OnOk r (Updates same_number m n (number_of p.1) (Some p.0))
    → IfOk r (λ old. hash_map_len n ≡ hash_map_len m + (if is_some old then 0 else 1))
    → LeadsTo (done ++ p ∷ []) n
leads-inserted done p m n (Ok old) h apart ok was updates len = leads-end done p m n old h apart was updates.0 len
leads-inserted done p m n (Err e) h apart ok was updates len = absurd cc
