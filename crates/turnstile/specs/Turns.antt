-- Turns and numbers. A turn is the number under which it was taken, with its entry, or with None where it is blank.
use Rattle.std.specs.Prelude.{◌≡◌, ℕ, ◌==◌, ◌<◌, ◌⊎◌, List, [], ◌∷◌, ◌++◌, cond, ltb, length, min, max, Option, Some, None, Result, Ok, Err}

abbrev pub Turn : Type 0 → Type 0 → Type 0
Turn A B = ℕ × Option (A × B)

-- the entry of a step is its ask with its answer; a step that refused has none
abbrev pub entry_of : {A B E : Type 0} → A → Result B E → Option (A × B)
entry_of ask (Ok answer) = Some (ask, answer)
entry_of ask (Err refusal) = None

module _ {A B : Type 0} where
  -- what was taken under the number n, in order
  abbrev pub of : ℕ → List (Turn A B) → List (Option (A × B))
  of n [] = []
  of n (t ∷ ts) = cond (n == t.0) (t.1 ∷ of n ts) (of n ts)

  -- the turns without their numbers
  abbrev pub plain : List (Turn A B) → List (Option (A × B))
  plain [] = []
  plain (t ∷ ts) = t.1 ∷ plain ts

  -- each turn has one of the numbers 0 to 3
  abbrev pub Numbered : List (Turn A B) → Type 0
  Numbered [] = Unit {0}
  Numbered (t ∷ ts) = (t.0 < 4) × Numbered ts

module _ {A : Type 0} where
  -- the first list begins with the second
  abbrev pub StartsWith : List A → List A → Type 0
  StartsWith whole part = (rest : List A) × (whole ≡ part ++ rest)

  -- the longer of two lists, or the first
  abbrev pub longer : List A → List A → List A
  longer xs ys = cond (ltb (length xs) (length ys)) ys xs

abbrev pub In : ℕ → List ℕ → Type 0
In n [] = ⊥
In n (m ∷ ms) = (n ≡ m) ⊎ In n ms

abbrev pub Distinct : List ℕ → Type 0
Distinct [] = Unit {0}
Distinct (n ∷ ns) = ¬ In n ns × Distinct ns

-- the least number; of none it is 0
abbrev pub least : List ℕ → ℕ
least [] = 0
least (n ∷ []) = n
least (n ∷ m ∷ ms) = min n (least (m ∷ ms))

abbrev pub greatest : List ℕ → ℕ
greatest [] = 0
greatest (n ∷ ns) = max n (greatest ns)

-- the numbers without the first that is g
abbrev pub without : ℕ → List ℕ → List ℕ
without g [] = []
without g (n ∷ ns) = cond (g == n) ns (n ∷ without g ns)
