-- The window over the numbers of the open requests.
use Rattle.std.proofs.Common.{◌≡◌, ℕ, zero, suc, ◌+◌, ◌%◌, ◌<◌, ◌≤◌, true, false, eqb, not, List, [], ◌∷◌, ◌++◌, length, filter, Option, Some, None, refl, sym, ap, ◌∙◌, subst, arith}
use Rattle.std.specs.Prelude.{find, slice_set}
use Rattle.reverse_core.specs.declared.requests.OpenRequest.{OpenRequest}
use Rattle.reverse_core.specs.History.{has_identifier}
use Rattle.reverse_core.specs.Windows.{filled, slot_at, IsNumbered, TakesOut}

abbrev Slots : Type 0
Slots = List (Option OpenRequest)

-- numbers fewer than 256 apart have different identifiers
other-identifier : (n k : ℕ) → k < 255 → eqb (n % 256) ((n + suc k) % 256) ≡ false
other-identifier n k few = grind arith

next-identifier : (n j : ℕ) → (n + suc j) % 256 ≡ (n + 1 + j) % 256
next-identifier n j = ap (λ m. m % 256) (let e : n + suc j ≡ n + 1 + j = omega arith in e)

-- none behind the first slot has its identifier
find-none : (base k : ℕ) (slots : Slots) → IsNumbered (base + suc k) slots → k + length slots < 256 → find (has_identifier (base % 256)) (filled slots) ≡ None
find-none base k [] numbered few = refl
find-none base k (None ∷ slots) numbered few = find-none base (suc k) slots (subst (λ n. IsNumbered n slots) (omega arith) numbered) (omega arith)
find-none base k (Some o ∷ slots) numbered few =
    let other : eqb (o.taken.number % 256) (base % 256) ≡ false =
    (let is : o.taken.number ≡ base + suc k = numbered.0 in let low : k < 255 = omega arith in grind (arith, other-identifier base k low)) in
    rw other (find-none base (suc k) slots (subst (λ n. IsNumbered n slots) (omega arith) numbered.1) (omega arith))

-- the slot of an identifier
pub find-at : (base j : ℕ) (slots : Slots) → IsNumbered base slots → length slots ≤ 256 → j < 256
    → find (has_identifier ((base + j) % 256)) (filled slots) ≡ slot_at slots j
find-at base j [] numbered few below = refl
find-at base zero (None ∷ slots) numbered few below =
    rw (let e : base + 0 ≡ base = omega arith in e) (find-none base 0 slots (subst (λ n. IsNumbered n slots) (omega arith) numbered) (omega arith))
find-at base zero (Some o ∷ slots) numbered few below =
    let is : o.taken.number ≡ base = numbered.0 in
    let here : eqb (o.taken.number % 256) ((base + 0) % 256) ≡ true = grind arith in
    rw here refl
find-at base (suc j) (None ∷ slots) numbered few below =
    rw (next-identifier base j) (find-at (base + 1) j slots numbered (omega arith) (omega arith))
find-at base (suc j) (Some o ∷ slots) numbered few below =
    let is : o.taken.number ≡ base = numbered.0 in
    let other : eqb (o.taken.number % 256) ((base + suc j) % 256) ≡ false =
    (let low : j < 255 = omega arith in grind (arith, other-identifier base j low)) in
    rw other (ap (λ m. find (has_identifier m) (filled slots)) (next-identifier base j) ∙ find-at (base + 1) j slots numbered.1 (omega arith) (omega arith))

-- ---- a slot is emptied

pub numbered-set : (base j : ℕ) (slots : Slots) → IsNumbered base slots → IsNumbered base (slice_set slots j None)
numbered-set base j [] numbered = tt
numbered-set base zero (None ∷ slots) numbered = numbered
numbered-set base zero (Some o ∷ slots) numbered = numbered.1
numbered-set base (suc j) (None ∷ slots) numbered = numbered-set (base + 1) j slots numbered
numbered-set base (suc j) (Some o ∷ slots) numbered = (numbered.0, numbered-set (base + 1) j slots numbered.1)

filter-none : (n base : ℕ) (slots : Slots) → IsNumbered base slots → n < base → filter (λ x. not (eqb x.taken.number n)) (filled slots) ≡ filled slots
filter-none n base [] numbered below = refl
filter-none n base (None ∷ slots) numbered below = filter-none n (base + 1) slots numbered (omega arith)
filter-none n base (Some o ∷ slots) numbered below =
    let is : o.taken.number ≡ base = numbered.0 in
    let other : eqb o.taken.number n ≡ false = grind arith in
    rw other (ap (λ os. o ∷ os) (filter-none n (base + 1) slots numbered.1 (omega arith)))

pub filter-at : (base j : ℕ) (slots : Slots) → IsNumbered base slots → filter (λ x. not (eqb x.taken.number (base + j))) (filled slots) ≡ filled (slice_set slots j None)
filter-at base j [] numbered = refl
filter-at base zero (None ∷ slots) numbered = rw (let e : base + 0 ≡ base = omega arith in e) (filter-none base (base + 1) slots numbered (omega arith))
filter-at base zero (Some o ∷ slots) numbered =
    let is : o.taken.number ≡ base = numbered.0 in
    let here : eqb o.taken.number (base + 0) ≡ true = grind arith in
    rw here (ap (λ n. filter (λ x. not (eqb x.taken.number n)) (filled slots)) (let e : base + 0 ≡ base = omega arith in e) ∙ filter-none base (base + 1) slots numbered.1 (omega arith))
filter-at base (suc j) (None ∷ slots) numbered =
    rw (let e : base + suc j ≡ base + 1 + j = omega arith in e) (filter-at (base + 1) j slots numbered)
filter-at base (suc j) (Some o ∷ slots) numbered =
    let is : o.taken.number ≡ base = numbered.0 in
    let other : eqb o.taken.number (base + suc j) ≡ false = grind arith in
    rw other (ap (λ os. o ∷ os) (ap (λ n. filter (λ x. not (eqb x.taken.number n)) (filled slots)) (let e : base + suc j ≡ base + 1 + j = omega arith in e) ∙ filter-at (base + 1) j slots numbered.1))

-- an empty one stays as it is
pub filled-empty : (j : ℕ) (slots : Slots) → slot_at slots j ≡ None → filled (slice_set slots j None) ≡ filled slots
filled-empty j [] e = refl
filled-empty zero (None ∷ slots) e = refl
filled-empty zero (Some o ∷ slots) e = absurd (cc)
filled-empty (suc j) (None ∷ slots) e = filled-empty j slots e
filled-empty (suc j) (Some o ∷ slots) e = ap (λ os. o ∷ os) (filled-empty j slots e)

pub number-at : (base j : ℕ) (slots : Slots) (o : OpenRequest) → IsNumbered base slots → slot_at slots j ≡ Some o → o.taken.number ≡ base + j
number-at base j [] o numbered e = absurd (cc)
number-at base zero (None ∷ slots) o numbered e = absurd (cc)
number-at base zero (Some x ∷ slots) o numbered e = (let is : x ≡ o = cc in let n : x.taken.number ≡ base = numbered.0 in subst (λ (y : OpenRequest). y.taken.number ≡ base + 0) is (omega arith))
number-at base (suc j) (None ∷ slots) o numbered e = omega (arith, number-at (base + 1) j slots o numbered e)
number-at base (suc j) (Some x ∷ slots) o numbered e = omega (arith, number-at (base + 1) j slots o numbered.1 e)

record Splits (o : OpenRequest) (old new : List OpenRequest) : Type 0 where
  before : List OpenRequest
  behind : List OpenRequest
  old_is : old ≡ before ++ o ∷ behind
  new_is : new ≡ before ++ behind

more-split : (x o : OpenRequest) (old new : List OpenRequest) → Splits o old new → Splits o (x ∷ old) (x ∷ new)
more-split x o old new s = record {
  before = x ∷ s.before;
  behind = s.behind;
  old_is = ap (λ os. x ∷ os) s.old_is;
  new_is = ap (λ os. x ∷ os) s.new_is;
}

split-at : (j : ℕ) (slots : Slots) (o : OpenRequest) → slot_at slots j ≡ Some o → Splits o (filled slots) (filled (slice_set slots j None))
split-at j [] o e = absurd (cc)
split-at zero (None ∷ slots) o e = absurd (cc)
split-at zero (Some x ∷ slots) o e = record { before = []; behind = filled slots; old_is = (let is : x ≡ o = cc in ap (λ (y : OpenRequest). y ∷ filled slots) is); new_is = refl }
split-at (suc j) (None ∷ slots) o e = split-at j slots o e
split-at (suc j) (Some x ∷ slots) o e = more-split x o (filled slots) (filled (slice_set slots j None)) (split-at j slots o e)

pub takes-out : (j : ℕ) (slots : Slots) (o : OpenRequest) → slot_at slots j ≡ Some o → TakesOut o (filled slots) (filled (slice_set slots j None))
takes-out j slots o e =
    let s = split-at j slots o e in
    record {
      before = s.before;
      behind = s.behind;
      old_is = s.old_is;
      new_is = s.new_is;
    }

pub takes-number : (base j : ℕ) (slots : Slots) (o : OpenRequest) → IsNumbered base slots → slot_at slots j ≡ Some o
    → filled (slice_set slots j None) ≡ filter (λ x. not (eqb x.taken.number o.taken.number)) (filled slots)
takes-number base j slots o numbered e = sym (rw (number-at base j slots o numbered e) (filter-at base j slots numbered))

pub count-taken : (j : ℕ) (slots : Slots) (o : OpenRequest) → slot_at slots j ≡ Some o → length (filled (slice_set slots j None)) + 1 ≡ length (filled slots)
count-taken j [] o e = absurd (cc)
count-taken zero (None ∷ slots) o e = absurd (cc)
count-taken zero (Some x ∷ slots) o e = omega arith
count-taken (suc j) (None ∷ slots) o e = count-taken j slots o e
count-taken (suc j) (Some x ∷ slots) o e = omega (arith, count-taken j slots o e)

pub length-set : (j : ℕ) (slots : Slots) → length (slice_set slots j None) ≡ length slots
length-set j [] = refl
length-set zero (s ∷ slots) = refl
length-set (suc j) (s ∷ slots) = ap suc (length-set j slots)

-- ---- a slot more

pub filled-more : (slots : Slots) (o : OpenRequest) → filled (slots ++ Some o ∷ []) ≡ filled slots ++ o ∷ []
filled-more [] o = refl
filled-more (None ∷ slots) o = filled-more slots o
filled-more (Some x ∷ slots) o = ap (λ os. x ∷ os) (filled-more slots o)

pub numbered-more : (base : ℕ) (slots : Slots) (o : OpenRequest) → IsNumbered base slots → o.taken.number ≡ base + length slots → IsNumbered base (slots ++ Some o ∷ [])
numbered-more base [] o numbered e = (omega arith, tt)
numbered-more base (None ∷ slots) o numbered e = numbered-more (base + 1) slots o numbered (omega arith)
numbered-more base (Some x ∷ slots) o numbered e = (numbered.0, numbered-more (base + 1) slots o numbered.1 (omega arith))

pub length-more : (slots : Slots) (s : Option OpenRequest) → length (slots ++ s ∷ []) ≡ length slots + 1
length-more [] s = omega arith
length-more (x ∷ slots) s = omega (arith, length-more slots s)

pub length-end : (os : List OpenRequest) (o : OpenRequest) → length (os ++ o ∷ []) ≡ length os + 1
length-end [] o = omega arith
length-end (x ∷ os) o = omega (arith, length-end os o)

pub filled-short : (slots : Slots) → length (filled slots) ≤ length slots
filled-short [] = omega arith
filled-short (None ∷ slots) = omega (arith, filled-short slots)
filled-short (Some o ∷ slots) = omega (arith, filled-short slots)

pub length-both : (xs ys : Slots) → length (xs ++ ys) ≡ length xs + length ys
length-both [] ys = omega arith
length-both (x ∷ xs) ys = omega (arith, length-both xs ys)

pub length-three : (xs ys zs : Slots) → length (xs ++ ys ++ zs) ≡ length xs + length ys + length zs
length-three xs ys zs = omega (arith, length-both (xs ++ ys) zs, length-both xs ys)

pub few-slots : (xs ys zs : Slots) → length xs + length ys + length zs ≤ 256 → length (xs ++ ys ++ zs) ≤ 256
few-slots xs ys zs few = omega (arith, length-three xs ys zs)
