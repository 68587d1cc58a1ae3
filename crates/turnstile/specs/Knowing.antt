-- What a pass knows, and what each call on it tells.
use Rattle.std.specs.Prelude.{◌≡◌, ◌≢◌, ℕ, List, [], ◌∷◌, ◌++◌, Option, Some}
use Rattle.turnstile.specs.declared.view.Known.{Known}
use Rattle.turnstile.specs.Turns.{Turn, StartsWith, longer, In, least, greatest, without, of, plain}

module _ {D A B Base : Type 0} (stands : D → Base → List (Option (A × B)) → Type 0) where
  -- the desk that was handed in stood for no turns from this base
  abbrev pub Carries : Known D A B → Base → Type 0
  Carries v base = (desk : D) × (v.first ≡ Some desk) × stands desk base []

  -- the desk stands for these turns, from each base that is carried
  abbrev pub Stands : Known D A B → D → List (Turn A B) → Type 0
  Stands v desk turns = (base : Base) → Carries v base → stands desk base (plain turns)

module _ {D A B : Type 0} where
  -- all four numbers, and nothing seen
  abbrev pub fresh : D → Known D A B
  fresh desk = record { first = Some desk; numbers = 0 ∷ 1 ∷ 2 ∷ 3 ∷ []; seen = [] }

  -- a turn was taken under the least number: all that is seen now begins with what was seen before, and ends with this turn
  pub record Visited (turn : Option (A × B)) (v w : Known D A B) : Type 0 where
    pub between : List (Turn A B)
    pub seen : w.seen ≡ (v.seen ++ between) ++ (least v.numbers, turn) ∷ []
    pub own : of (least v.numbers) w.seen ≡ of (least v.numbers) v.seen ++ turn ∷ []
    pub others : (n : ℕ) → In n v.numbers → n ≢ least v.numbers → of n w.seen ≡ of n v.seen
    pub same : (w.first ≡ v.first) × (w.numbers ≡ v.numbers)

  -- what is left of a pass that gave its greatest number away, and what the new pass knows
  abbrev pub left_of : Known D A B → Known D A B
  left_of v = record v { numbers = without (greatest v.numbers) v.numbers }

  abbrev pub right_of : Known D A B → Known D A B
  right_of v = record v { numbers = greatest v.numbers ∷ [] }

  -- the numbers of both, and the longer of the two lists, which begins with the other
  pub record Joined (v u w : Known D A B) : Type 0 where
    pub first : (w.first ≡ v.first) × (w.first ≡ u.first)
    pub numbers : w.numbers ≡ v.numbers ++ u.numbers
    pub seen : w.seen ≡ longer v.seen u.seen
    pub begins : StartsWith w.seen v.seen × StartsWith w.seen u.seen
    pub own : (n : ℕ) → In n v.numbers → of n w.seen ≡ of n v.seen
    pub theirs : (n : ℕ) → In n u.numbers → of n w.seen ≡ of n u.seen
