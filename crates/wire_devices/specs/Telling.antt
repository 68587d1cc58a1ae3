-- What a device tells of its content, where it does. It may stop telling, and from then on tells nothing.
use Rattle.std.specs.Prelude.{◌≡◌, ℕ, ◌+◌, Bool, true, List, ◌++◌, take, Option, Some, option_map}

-- what is known, and then these
abbrev pub more : {A : Type 0} → Option (List A) → List A → Option (List A)
more known xs = option_map (λ ys. ys ++ xs) known

-- What is told now, where it still is, is what was told before, and then these.
pub record Adds {A : Type 0} (before now : Option (List A)) (xs : List A) : Type 0 where
  pub still : (ys : List A) → now ≡ Some ys → more before xs ≡ Some ys

-- the same of the first so many of these
pub record AddsPrefix {A : Type 0} (before now : Option (List A)) (xs : List A) : Type 0 where
  pub count : ℕ
  pub adds : Adds before now (take count xs)

-- What is counted now, where it still is, is one more than before.
pub record AddsOne (before now : Option ℕ) : Type 0 where
  pub still : (n : ℕ) → now ≡ Some n → option_map (λ m. m + 1) before ≡ Some n

-- what is told, where anything is, is this
abbrev pub TellsOnly : {A : Type 0} → Option A → A → Type 0
TellsOnly {A} known x = (y : A) → known ≡ Some y → y ≡ x

-- it isn't told that the next look finds something
abbrev pub MayBeQuiet : Option Bool → Type 0
MayBeQuiet ready = ¬ (ready ≡ Some true)
