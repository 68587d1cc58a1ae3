-- Lists of views, of turns and of numbers.
use Rattle.std.proofs.Common.{◌≡◌, ◌≢◌, ◌⊎◌, ℕ, zero, suc, ◌+◌, ◌==◌, ◌<◌, ◌≤◌, List, [], ◌∷◌, ◌++◌, Bool, true, false, cond, ltb, length, set, min, max, Option, refl, sym, ap, ◌∙◌, subst, inl, inr, ⊎_elim, arith, eq-eqb, ne_eqb, append_assoc, append-nil, length-append}
use Rattle.std.proofs.lemmas.Bool.{ltb-true, ltb-false}
use mathlib.Core.Logic.{dite}
use mathlib.Core.Option.{some, some-injective, some-ne-none}
use native.Mathlib.Decide.{ℕ_discrete, dec_le}
use lib.ListN.{get_elem?}
use Rattle.atomic_table.proofs.Lists.{at_set}
use Rattle.turnstile.specs.Turns.{Turn, StartsWith, longer, In, Distinct, least, greatest, without, of, plain, Numbered}
use Rattle.turnstile.specs.Order.{total}

-- a change of one view, and one more view
module _ {V : Type 0} where
  pub total_set : (f : V → ℕ) (vs : List V) (i : ℕ) (v w : V) → get_elem? vs i ≡ some v → total f (set vs i w) + f v ≡ total f vs + f w
  total_set f [] i v w at = absurd (some-ne-none v (sym at))
  total_set f (x ∷ xs) zero v w at = let e : f x ≡ f v = ap f (some-injective x v at) in omega arith
  total_set f (x ∷ xs) (suc i) v w at = let e = total_set f xs i v w at in omega (arith, e)

  pub total_end : (f : V → ℕ) (vs : List V) (w : V) → total f (vs ++ w ∷ []) ≡ total f vs + f w
  total_end f [] w = omega arith
  total_end f (x ∷ xs) w = let e = total_end f xs w in omega (arith, e)

  pub total_at : (f : V → ℕ) (vs : List V) (i : ℕ) (v : V) → get_elem? vs i ≡ some v → f v ≤ total f vs
  total_at f [] i v at = absurd (some-ne-none v (sym at))
  total_at f (x ∷ xs) zero v at = let e : f x ≡ f v = ap f (some-injective x v at) in omega arith
  total_at f (x ∷ xs) (suc i) v at = let e = total_at f xs i v at in omega (arith, e)

  pub total_two : (f : V → ℕ) (vs : List V) (i j : ℕ) (v w : V) → get_elem? vs i ≡ some v → get_elem? vs j ≡ some w → j ≢ i → f v + f w ≤ total f vs
  total_two f [] i j v w at there ne = absurd (some-ne-none v (sym at))
  total_two f (x ∷ xs) zero zero v w at there ne = absurd (ne refl)
  total_two f (x ∷ xs) zero (suc j) v w at there ne = let e : f x ≡ f v = ap f (some-injective x v at) in let l = total_at f xs j w there in omega (arith, l)
  total_two f (x ∷ xs) (suc i) zero v w at there ne = let e : f x ≡ f w = ap f (some-injective x w there) in let l = total_at f xs i v at in omega (arith, l)
  total_two f (x ∷ xs) (suc i) (suc j) v w at there ne = let l = total_two f xs i j v w at there (λ e. ne (ap suc e)) in omega (arith, l)

  pub total_below : (f g : V → ℕ) (vs : List V) → ((i : ℕ) (v : V) → get_elem? vs i ≡ some v → f v ≤ g v) → total f vs ≤ total g vs
  total_below f g [] each = omega arith
  total_below f g (x ∷ xs) each = let here = each 0 x refl in let l = total_below f g xs (λ i v at. each (suc i) v at) in omega (arith, here, l)

  pub each_set : (P : V → Type 0) (vs : List V) (i : ℕ) (w : V) → P w → ((j : ℕ) (u : V) → j ≢ i → get_elem? vs j ≡ some u → P u) → (j : ℕ) (u : V) → get_elem? (set vs i w) j ≡ some u → P u
  each_set P vs i w mine others j u at = ⊎_elim (λ (t : (j ≡ i) × (w ≡ u)). subst P t.1 mine) (λ (t : (j ≢ i) × (get_elem? vs j ≡ some u)). others j u t.0 t.1) (at_set vs i j w u at)

  pub at_end : (vs : List V) (w u : V) (j : ℕ) → get_elem? (vs ++ w ∷ []) j ≡ some u → (get_elem? vs j ≡ some u) ⊎ ((j ≡ length vs) × (w ≡ u))
  at_end [] w u zero at = inr (refl, some-injective w u at)
  at_end [] w u (suc j) at = absurd (some-ne-none u (sym at))
  at_end (x ∷ xs) w u zero at = inl at
  at_end (x ∷ xs) w u (suc j) at = ⊎_elim (λ t. inl t) (λ (t : (j ≡ length xs) × (w ≡ u)). inr (ap suc t.0, t.1)) (at_end xs w u j at)

  pub inside : (vs : List V) (j : ℕ) (u : V) → get_elem? vs j ≡ some u → j < length vs
  inside [] j u at = absurd (some-ne-none u (sym at))
  inside (x ∷ xs) zero u at = omega arith
  inside (x ∷ xs) (suc j) u at = let l = inside xs j u at in omega (arith, l)

  module _ (P : V → V → Type 0) (flip : (a b : V) → P a b → P b a) where
    abbrev pub Pairs : List V → Type 0
    Pairs vs = (i j : ℕ) (v w : V) → get_elem? vs i ≡ some v → get_elem? vs j ≡ some w → i ≢ j → P v w

    pub pairs_set : (vs : List V) (i : ℕ) (w : V) → Pairs vs → ((j : ℕ) (u : V) → j ≢ i → get_elem? vs j ≡ some u → P w u) → Pairs (set vs i w)
    pairs_set vs i w pairs mine a b v u at_a at_b ne = ⊎_elim
        (λ (s : (a ≡ i) × (w ≡ v)). ⊎_elim (λ (t : (b ≡ i) × (w ≡ u)). absurd (ne (s.0 ∙ sym t.0)))
        (λ (t : (b ≢ i) × (get_elem? vs b ≡ some u)). subst (λ (x : V). P x u) s.1 (mine b u t.0 t.1)) (at_set vs i b w u at_b))
        (λ (s : (a ≢ i) × (get_elem? vs a ≡ some v)). ⊎_elim (λ (t : (b ≡ i) × (w ≡ u)). subst (λ (x : V). P v x) t.1 (flip w v (mine a v s.0 s.1)))
        (λ (t : (b ≢ i) × (get_elem? vs b ≡ some u)). pairs a b v u s.1 t.1 ne) (at_set vs i b w u at_b)) (at_set vs i a w v at_a)

    pub pairs_end : (vs : List V) (w : V) → Pairs vs → ((j : ℕ) (u : V) → get_elem? vs j ≡ some u → P w u) → Pairs (vs ++ w ∷ [])
    pairs_end vs w pairs mine a b v u at_a at_b ne = ⊎_elim
        (λ (s : get_elem? vs a ≡ some v). ⊎_elim (λ (t : get_elem? vs b ≡ some u). pairs a b v u s t ne)
        (λ (t : (b ≡ length vs) × (w ≡ u)). subst (λ (x : V). P v x) t.1 (flip w v (mine a v s))) (at_end vs w u b at_b))
        (λ (s : (a ≡ length vs) × (w ≡ v)). ⊎_elim (λ (t : get_elem? vs b ≡ some u). subst (λ (x : V). P x u) s.1 (mine b u t))
        (λ (t : (b ≡ length vs) × (w ≡ u)). absurd (ne (s.0 ∙ sym t.0))) (at_end vs w u b at_b)) (at_end vs w v a at_a)

-- numbers
pub least-in : (ns : List ℕ) → 0 < length ns → In (least ns) ns
least-in [] some_number = absurd (omega arith)
least-in (n ∷ []) some_number = inl refl
least-in (n ∷ m ∷ ms) some_number = let rest = least-in (m ∷ ms) (omega arith) in dite (dec_le n (least (m ∷ ms)))
    (λ low. inl (let e : min n (least (m ∷ ms)) ≡ n = omega arith in e))
    (λ high. inr (let e : least (m ∷ ms) ≡ min n (least (m ∷ ms)) = omega arith in subst (λ (x : ℕ). In x (m ∷ ms)) e rest))

pub greatest-in : (ns : List ℕ) → 0 < length ns → In (greatest ns) ns
greatest-in [] some_number = absurd (omega arith)
greatest-in (n ∷ []) some_number = inl (let e : max n 0 ≡ n = omega arith in e)
greatest-in (n ∷ m ∷ ms) some_number = let rest = greatest-in (m ∷ ms) (omega arith) in dite (dec_le (greatest (m ∷ ms)) n)
    (λ low. inl (let e : max n (greatest (m ∷ ms)) ≡ n = omega arith in e))
    (λ high. inr (let e : greatest (m ∷ ms) ≡ max n (greatest (m ∷ ms)) = omega arith in subst (λ (x : ℕ). In x (m ∷ ms)) e rest))

pub in-without : (g n : ℕ) (ns : List ℕ) → In n (without g ns) → In n ns
in-without g n [] h = h
in-without g n (m ∷ ms) h = dite (ℕ_discrete g m)
    (λ e. inr (subst (λ (b : Bool). In n (cond b ms (m ∷ without g ms))) (eq-eqb g m e) h))
    (λ ne. ⊎_elim (λ (t : n ≡ m). inl t) (λ t. inr (in-without g n ms t)) (subst (λ (b : Bool). In n (cond b ms (m ∷ without g ms))) (ne_eqb g m ne) h))

pub without-distinct : (g : ℕ) (ns : List ℕ) → Distinct ns → Distinct (without g ns) × (In g (without g ns) → ⊥)
without-distinct g [] d = (tt, λ h. h)
without-distinct g (m ∷ ms) d = dite (ℕ_discrete g m)
    (λ e. subst (λ (b : Bool). Distinct (cond b ms (m ∷ without g ms)) × (In g (cond b ms (m ∷ without g ms)) → ⊥)) (sym (eq-eqb g m e))
    (d.1, λ h. d.0 (subst (λ (x : ℕ). In x ms) e h)))
    (λ ne. subst (λ (b : Bool). Distinct (cond b ms (m ∷ without g ms)) × (In g (cond b ms (m ∷ without g ms)) → ⊥)) (sym (ne_eqb g m ne))
    (let rest = without-distinct g ms d.1 in (((λ h. d.0 (in-without g m ms h)), rest.0), λ h. ⊎_elim ne rest.1 h)))

pub length-without : (g : ℕ) (ns : List ℕ) → In g ns → length (without g ns) + 1 ≡ length ns
length-without g [] h = absurd h
length-without g (m ∷ ms) h = dite (ℕ_discrete g m)
    (λ e. subst (λ (b : Bool). length (cond b ms (m ∷ without g ms)) + 1 ≡ length (m ∷ ms)) (sym (eq-eqb g m e)) (omega arith))
    (λ ne. subst (λ (b : Bool). length (cond b ms (m ∷ without g ms)) + 1 ≡ length (m ∷ ms)) (sym (ne_eqb g m ne))
    (let rest = length-without g ms (⊎_elim (λ (t : g ≡ m). absurd (ne t)) (λ t. t) h) in omega (arith, rest)))

pub in-append : (n : ℕ) (xs ys : List ℕ) → In n (xs ++ ys) → In n xs ⊎ In n ys
in-append n [] ys h = inr h
in-append n (x ∷ xs) ys h = ⊎_elim (λ (t : n ≡ x). inl (inl t)) (λ t. ⊎_elim (λ u. inl (inr u)) (λ u. inr u) (in-append n xs ys t)) h

pub in-left : (n : ℕ) (xs ys : List ℕ) → In n xs → In n (xs ++ ys)
in-left n [] ys h = absurd h
in-left n (x ∷ xs) ys h = ⊎_elim (λ (t : n ≡ x). inl t) (λ t. inr (in-left n xs ys t)) h

pub in-right : (n : ℕ) (xs ys : List ℕ) → In n ys → In n (xs ++ ys)
in-right n [] ys h = h
in-right n (x ∷ xs) ys h = inr (in-right n xs ys h)

pub distinct-append : (xs ys : List ℕ) → Distinct xs → Distinct ys → ((n : ℕ) → In n xs → In n ys → ⊥) → Distinct (xs ++ ys)
distinct-append [] ys d e apart = e
distinct-append (x ∷ xs) ys d e apart = ((λ h. ⊎_elim d.0 (apart x (inl refl)) (in-append x xs ys h)), distinct-append xs ys d.1 e (λ n h. apart n (inr h)))

-- turns
module _ {A B : Type 0} where
  pub of-append : (n : ℕ) (xs ys : List (Turn A B)) → of n (xs ++ ys) ≡ of n xs ++ of n ys
  of-append n [] ys = refl
  of-append n (x ∷ xs) ys = let rest = of-append n xs ys in split (n == x.0) rest
    where
      split : (b : Bool) → of n (xs ++ ys) ≡ of n xs ++ of n ys → cond b (x.1 ∷ of n (xs ++ ys)) (of n (xs ++ ys)) ≡ cond b (x.1 ∷ of n xs) (of n xs) ++ of n ys
      split true e = ap (λ (l : List (Option (A × B))). x.1 ∷ l) e
      split false e = e

  pub of-same : (n m : ℕ) (t : Option (A × B)) → n ≡ m → of n ((m, t) ∷ []) ≡ t ∷ []
  of-same n m t e = let r : List (Option (A × B)) = [] in ap (λ (b : Bool). cond b (t ∷ r) r) (eq-eqb n m e)

  pub of-other : (n m : ℕ) (t : Option (A × B)) → n ≢ m → of n ((m, t) ∷ []) ≡ []
  of-other n m t ne = let r : List (Option (A × B)) = [] in ap (λ (b : Bool). cond b (t ∷ r) r) (ne_eqb n m ne)

  pub plain-append : (xs ys : List (Turn A B)) → plain (xs ++ ys) ≡ plain xs ++ plain ys
  plain-append [] ys = refl
  plain-append (x ∷ xs) ys = ap (λ (l : List (Option (A × B))). x.1 ∷ l) (plain-append xs ys)

  pub numbered-end : (xs : List (Turn A B)) (m : ℕ) (t : Option (A × B)) → Numbered xs → m < 4 → Numbered (xs ++ (m, t) ∷ [])
  numbered-end [] m t h small = (small, tt)
  numbered-end (x ∷ xs) m t h small = (h.0, numbered-end xs m t h.1 small)

module _ {A : Type 0} where
  pub starts_whole : (xs : List A) → StartsWith xs xs
  starts_whole xs = ([], sym (append-nil xs))

  pub starts_more : (xs ys more : List A) → StartsWith xs ys → StartsWith (xs ++ more) ys
  starts_more xs ys more s = (s.0 ++ more, ap (λ (l : List A). l ++ more) s.1 ∙ append_assoc ys s.0 more)

  pub shorter_begins : (xs ys r s : List A) → xs ++ r ≡ ys ++ s → length xs ≤ length ys → StartsWith ys xs
  shorter_begins [] ys r s e le = (ys, refl)
  shorter_begins (x ∷ xs) [] r s e le = absurd (omega arith)
  shorter_begins (x ∷ xs) (y ∷ ys) r s e le = let tails : xs ++ r ≡ ys ++ s = cc in let heads : x ≡ y = cc in let rest = shorter_begins xs ys r s tails (omega arith) in
      (rest.0, (λ i. sym heads i ∷ rest.1 i))

  -- of two beginnings of one list the longer begins with both
  pub longer_begins : (all xs ys : List A) → StartsWith all xs → StartsWith all ys → StartsWith all (longer xs ys) × StartsWith (longer xs ys) xs × StartsWith (longer xs ys) ys
  longer_begins all xs ys s t = pick (ltb (length xs) (length ys)) refl
    where
      same : xs ++ s.0 ≡ ys ++ t.0
      same = sym s.1 ∙ t.1

      pick : (b : Bool) → ltb (length xs) (length ys) ≡ b → StartsWith all (cond b ys xs) × StartsWith (cond b ys xs) xs × StartsWith (cond b ys xs) ys
      pick true e = let lt = ltb-true (length xs) (length ys) e in (t, shorter_begins xs ys s.0 t.0 same (omega (arith, lt)), starts_whole ys)
      pick false e = let le = ltb-false (length xs) (length ys) e in (s, starts_whole xs, shorter_begins ys xs t.0 s.0 (sym same) le)

  empty_rest : (a b : List A) → length (a ++ b) ≡ length a → b ≡ []
  empty_rest a [] e = refl
  empty_rest a (x ∷ b) e = absurd (omega (arith, length-append a (x ∷ b)))

module _ {A B : Type 0} where
  -- a list between two that have the same turns under n has them too
  pub squeeze : (n : ℕ) (xs ys all : List (Turn A B)) → StartsWith ys xs → StartsWith all ys → of n xs ≡ of n all → of n ys ≡ of n all
  squeeze n xs ys all s t e =
      let low : of n ys ≡ of n xs ++ of n s.0 = ap (of n) s.1 ∙ of-append n xs s.0 in
      let high : of n all ≡ of n ys ++ of n t.0 = ap (of n) t.1 ∙ of-append n ys t.0 in
      let l : length (of n all) ≡ length (of n ys) + length (of n t.0) = ap length high ∙ length-append (of n ys) (of n t.0) in
      let k : length (of n ys) ≡ length (of n xs) + length (of n s.0) = ap length low ∙ length-append (of n xs) (of n s.0) in
      let m : length (of n xs) ≡ length (of n all) = ap length e in
      let none_left : of n t.0 ≡ [] = empty_rest (of n ys) (of n t.0) (length-append (of n ys) (of n t.0) ∙ (let z : length (of n ys) + length (of n t.0) ≡ length (of n ys) = omega (arith, l, k, m) in z)) in
      sym (high ∙ ap (λ (r : List (Option (A × B))). of n ys ++ r) none_left ∙ append-nil (of n ys))

module _ {A : Type 0} where
  -- lists that begin each other are one list
  pub begin_both : (xs ys : List A) → StartsWith xs ys → StartsWith ys xs → xs ≡ ys
  begin_both xs ys s t =
      let l : length xs ≡ length ys + length s.0 = ap length s.1 ∙ length-append ys s.0 in
      let k : length ys ≡ length xs + length t.0 = ap length t.1 ∙ length-append xs t.0 in
      let m : length (ys ++ s.0) ≡ length ys = length-append ys s.0 ∙ (let z : length ys + length s.0 ≡ length ys = omega (arith, l, k) in z) in
      s.1 ∙ (ap (λ (r : List A). ys ++ r) (empty_rest ys s.0 m) ∙ append-nil ys)
