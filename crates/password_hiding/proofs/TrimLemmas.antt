-- Zeros at the end of a list.
use Rattle.std.proofs.Common.{◌≡◌, ℕ, ◌+◌, ◌-◌, ◌<◌, ◌≤◌, Bool, true, false, cond, eqb, List, [], ◌∷◌, ◌++◌, length, get_or, take, refl, sym, ap, ◌∙◌, inl, inr, arith, suc, replicate}
use Rattle.std.specs.Prelude.{◌&&◌}
use Rattle.std.proofs.lemmas.Bool.{eqb-true, eqb-false}
use Rattle.std.proofs.lemmas.Bool.Decides.{eqb_tells}
use Rattle.std.proofs.lemmas.List.{take_more}
use Rattle.password_hiding.specs.Hiding.{is_nil, trimmed}

trimmed-zero : (xs : List ℕ) → trimmed (xs ++ 0 ∷ []) ≡ trimmed xs
trimmed-zero [] = refl
trimmed-zero (x ∷ xs) = rw (trimmed-zero xs) refl

drops_none : (b : Bool) (ys xs : List ℕ) (x y : ℕ) → ys ≡ xs ++ y ∷ [] → cond (b && is_nil ys) [] (x ∷ ys) ≡ x ∷ ys
drops_none true ys [] x y e = rw e refl
drops_none true ys (z ∷ xs) x y e = rw e refl
drops_none false ys xs x y e = refl

trimmed-other : (xs : List ℕ) (y : ℕ) → eqb y 0 ≡ false → trimmed (xs ++ y ∷ []) ≡ xs ++ y ∷ []
trimmed-other [] y e = rw e refl
trimmed-other (x ∷ xs) y e =
    let rest : trimmed (xs ++ y ∷ []) ≡ xs ++ y ∷ [] = trimmed-other xs y e in
    drops_none (eqb x 0) (trimmed (xs ++ y ∷ [])) xs x y rest ∙ ap (λ (ys : List ℕ). x ∷ ys) rest

-- a loop's step: a zero at the end is left out
pub one_less : (xs : List ℕ) (n : ℕ) → 0 < n → n ≤ length xs → get_or xs (n - 1) 0 ≡ 0 → trimmed (take (n - 1) xs) ≡ trimmed (take n xs)
one_less xs n some le zero =
    let at : n ≡ (n - 1) + 1 = omega arith in
    sym (ap (λ (k : ℕ). trimmed (take k xs)) at ∙ ap trimmed (take_more xs (n - 1) 0 (omega arith)) ∙ ap (λ (y : ℕ). trimmed (take (n - 1) xs ++ y ∷ [])) zero ∙ trimmed-zero (take (n - 1) xs))

differs : (y : ℕ) → (y ≡ 0 → ⊥) → eqb y 0 ≡ false
differs y other = elim (eqb_tells y 0) [ inl same ↦ absurd (other same.1) | inr not_same ↦ not_same.0 ]

-- a loop's end
pub no_zero : (xs : List ℕ) (n : ℕ) → 0 < n → n ≤ length xs → (get_or xs (n - 1) 0 ≡ 0 → ⊥) → trimmed (take n xs) ≡ take n xs
no_zero xs n some le other =
    let at : n ≡ (n - 1) + 1 = omega arith in
    let text : take n xs ≡ take (n - 1) xs ++ get_or xs (n - 1) 0 ∷ [] = ap (λ (k : ℕ). take k xs) at ∙ take_more xs (n - 1) 0 (omega arith) in
    ap trimmed text ∙ trimmed-other (take (n - 1) xs) (get_or xs (n - 1) 0) (differs (get_or xs (n - 1) 0) other) ∙ sym text

-- ---- what is left out

puts_back : (b : Bool) (x : ℕ) (xs t : List ℕ) → (b ≡ true → x ≡ 0) → xs ≡ t ++ replicate (length xs - length t) 0
    → x ∷ xs ≡ cond (b && is_nil t) [] (x ∷ t) ++ replicate (length (x ∷ xs) - length (cond (b && is_nil t) [] (x ∷ t))) 0
puts_back true x xs [] zero e =
    let n : length xs - 0 ≡ length xs = omega arith in
    let all : suc (length xs) - 0 ≡ suc (length xs) = omega arith in
    rw (all, zero refl) (ap (λ (ys : List ℕ). 0 ∷ ys) (e ∙ ap (λ (k : ℕ). replicate k 0) n))
puts_back true x xs (y ∷ t) zero e =
    let n : suc (length xs) - suc (length (y ∷ t)) ≡ length xs - length (y ∷ t) = omega arith in
    ap (λ (ys : List ℕ). x ∷ ys) (e ∙ ap (λ (k : ℕ). (y ∷ t) ++ replicate k 0) (sym n))
puts_back false x xs t zero e =
    let n : suc (length xs) - suc (length t) ≡ length xs - length t = omega arith in
    ap (λ (ys : List ℕ). x ∷ ys) (e ∙ ap (λ (k : ℕ). t ++ replicate k 0) (sym n))

pub zeros_back : (xs : List ℕ) → xs ≡ trimmed xs ++ replicate (length xs - length (trimmed xs)) 0
zeros_back [] = refl
zeros_back (x ∷ xs) = puts_back (eqb x 0) x xs (trimmed xs) (eqb-true x 0) (zeros_back xs)

last_of : (b : Bool) (x last : ℕ) (t front : List ℕ) → (b ≡ false → x ≡ 0 → ⊥) → ((others : List ℕ) → t ≡ others ++ last ∷ [] → last ≡ 0 → ⊥)
    → cond (b && is_nil t) [] (x ∷ t) ≡ front ++ last ∷ [] → last ≡ 0 → ⊥
last_of true x last [] [] some later e zero = absurd cc
last_of true x last [] (y ∷ front) some later e zero = absurd cc
last_of true x last (z ∷ t) [] some later e zero = absurd cc
last_of true x last (z ∷ t) (y ∷ front) some later e zero = later front (cc) zero
last_of false x last [] [] some later e zero = let same : x ≡ last = cc in some refl (same ∙ zero)
last_of false x last [] (y ∷ []) some later e zero = absurd cc
last_of false x last [] (y ∷ z ∷ front) some later e zero = absurd cc
last_of false x last (z ∷ t) [] some later e zero = absurd cc
last_of false x last (z ∷ t) (y ∷ front) some later e zero = later front (cc) zero

pub last_is_other : (xs front : List ℕ) (last : ℕ) → trimmed xs ≡ front ++ last ∷ [] → last ≡ 0 → ⊥
last_is_other [] [] last e zero = absurd cc
last_is_other [] (y ∷ front) last e zero = absurd cc
last_is_other (x ∷ xs) front last e zero =
    last_of (eqb x 0) x last (trimmed xs) front (eqb-false x 0) (λ others f z. last_is_other xs others last f z) e zero
