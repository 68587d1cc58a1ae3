-- One turn among all turns, by its number or without.
use Rattle.std.proofs.Common.{◌≡◌, ℕ, ◌==◌, Bool, true, false, cond, List, [], ◌∷◌, ◌++◌, refl, sym, ap, ◌∙◌, subst, append_assoc, arith}
use Rattle.std.proofs.lemmas.Bool.Decides.{nat_tests}
use Rattle.std.proofs.lemmas.List.{append-nil}
use Rattle.server_workers.specs.Entries.{RunTurn}
use Rattle.server_workers.specs.Segments.{ServerTurn, flat}
use Rattle.turnstile.specs.Turns.{of, plain}

of-when : (b : Bool) (turn : RunTurn) (xs ys : List RunTurn) → cond b (turn ∷ (xs ++ ys)) (xs ++ ys) ≡ cond b (turn ∷ xs) xs ++ ys
of-when true turn xs ys = refl
of-when false turn xs ys = refl

pub of-append : (n : ℕ) (xs ys : List ServerTurn) → of n (xs ++ ys) ≡ of n xs ++ of n ys
of-append n [] ys = refl
of-append n (x ∷ xs) ys =
    ap (λ os. cond (n == x.0) (x.1 ∷ os) os) (of-append n xs ys) ∙ of-when (n == x.0) x.1 (of n xs) (of n ys)

pub plain-append : (xs ys : List ServerTurn) → plain (xs ++ ys) ≡ plain xs ++ plain ys
plain-append [] ys = refl
plain-append (x ∷ xs) ys = ap (λ ts. x.1 ∷ ts) (plain-append xs ys)

pub flat-push : (segs : List (List ServerTurn)) (seg : List ServerTurn) → flat (segs ++ seg ∷ []) ≡ flat segs ++ seg
flat-push [] seg = append-nil seg
flat-push (x ∷ segs) seg = ap (λ ts. x ++ ts) (flat-push segs seg) ∙ sym (append_assoc x (flat segs) seg)

-- a turn with its number where it stands among all turns
pub record Stands (n : ℕ) (turns : List ServerTurn) (a : List RunTurn) (x : RunTurn) (b : List RunTurn) : Type 0 where
  pub front : List ServerTurn
  pub back : List ServerTurn
  pub whole : turns ≡ front ++ (n, x) ∷ back
  pub before : of n front ≡ a
  pub after : of n back ≡ b

-- the turns of a number after a first one that has another
stands-later : (n : ℕ) (t : ServerTurn) (ts : List ServerTurn) (a : List RunTurn) (x : RunTurn) (b : List RunTurn) → (n == t.0) ≡ false → Stands n ts a x b
    → Stands n (t ∷ ts) a x b
stands-later n t ts a x b other s = record {
  front = t ∷ s.front;
  back = s.back;
  whole = ap (λ us. t ∷ us) s.whole;
  before = ap (λ c. cond c (t.1 ∷ of n s.front) (of n s.front)) other ∙ s.before;
  after = s.after;
}

stands-next : (n : ℕ) (t : ServerTurn) (ts : List ServerTurn) (a : List RunTurn) (x : RunTurn) (b : List RunTurn) → (n == t.0) ≡ true → Stands n ts a x b
    → Stands n (t ∷ ts) (t.1 ∷ a) x b
stands-next n t ts a x b same s = record {
  front = t ∷ s.front;
  back = s.back;
  whole = ap (λ us. t ∷ us) s.whole;
  before = ap (λ c. cond c (t.1 ∷ of n s.front) (of n s.front)) same ∙ ap (λ us. t.1 ∷ us) s.before;
  after = s.after;
}

same-number : (n m : ℕ) → (n == m) ≡ true → n ≡ m
same-number n m is = grind (arith, nat_tests)

nothing-there : (a : List RunTurn) (x : RunTurn) (b : List RunTurn) → [] ≡ a ++ x ∷ b → ⊥
nothing-there [] x b is = cc
nothing-there (y ∷ a) x b is = cc

-- a turn that stands among those of a number stands among all turns
pub of-there : (n : ℕ) (ts : List ServerTurn) (a : List RunTurn) (x : RunTurn) (b : List RunTurn) → of n ts ≡ a ++ x ∷ b → Stands n ts a x b
of-there n [] a x b is = absurd (nothing-there a x b is)
of-there n (t ∷ ts) a x b is = by (λ a at. of-there n ts a x b at) (n == t.0) refl is
  where
    first : (later : (a : List RunTurn) → of n ts ≡ a ++ x ∷ b → Stands n ts a x b) (a : List RunTurn) → (n == t.0) ≡ true → t.1 ∷ of n ts ≡ a ++ x ∷ b
        → Stands n (t ∷ ts) a x b
    first later [] same at =
        let e : n ≡ t.0 = same-number n t.0 same in
        let here : t.1 ≡ x = cc in
        let turn : t ≡ (n, x) = ap (λ m. (m, t.1)) (sym e) ∙ ap (λ y. (n, y)) here in
        record { front = []; back = ts; whole = ap (λ u. u ∷ ts) turn; before = refl; after = cc }
    first later (y ∷ a) same at =
        let here : t.1 ≡ y = cc in
        let more : of n ts ≡ a ++ x ∷ b = cc in
        subst (λ z. Stands n (t ∷ ts) (z ∷ a) x b) here (stands-next n t ts a x b same (later a more))

    by : (later : (a : List RunTurn) → of n ts ≡ a ++ x ∷ b → Stands n ts a x b) (c : Bool) → (n == t.0) ≡ c
        → cond c (t.1 ∷ of n ts) (of n ts) ≡ a ++ x ∷ b → Stands n (t ∷ ts) a x b
    by later true same at = first later a same at
    by later false other at = stands-later n t ts a x b other (later a at)

-- all turns without their numbers fall apart at one of them as all turns do
pub record StandsPlain (x : RunTurn) (turns : List ServerTurn) (a b : List RunTurn) : Type 0 where
  pub number : ℕ
  pub front : List ServerTurn
  pub back : List ServerTurn
  pub whole : turns ≡ front ++ (number, x) ∷ back
  pub before : plain front ≡ a
  pub after : plain back ≡ b

plain-later : (x y : RunTurn) (t : ServerTurn) (turns : List ServerTurn) (a b : List RunTurn) → t.1 ≡ y → StandsPlain x turns a b
    → StandsPlain x (t ∷ turns) (y ∷ a) b
plain-later x y t turns a b first s = record {
  number = s.number;
  front = t ∷ s.front;
  back = s.back;
  whole = ap (λ l. t ∷ l) s.whole;
  before = ap (λ l. t.1 ∷ l) s.before ∙ ap (λ (z : RunTurn). z ∷ a) first;
  after = s.after;
}

pub plain-there : (x : RunTurn) (turns : List ServerTurn) (a b : List RunTurn) → plain turns ≡ a ++ x ∷ b → StandsPlain x turns a b
plain-there x [] [] b is = cc
plain-there x [] (y ∷ a) b is = cc
plain-there x (t ∷ turns) [] b is = record {
  number = t.0;
  front = [];
  back = turns;
  whole = let same : t.1 ≡ x = cc in ap (λ (z : RunTurn). (t.0, z) ∷ turns) same;
  before = refl;
  after = cc;
}
plain-there x (t ∷ turns) (y ∷ a) b is =
    plain-later x y t turns a b (let e : t.1 ≡ y = cc in e) (plain-there x turns a b (let e : plain turns ≡ a ++ x ∷ b = cc in e))
