-- An input that is taken whole.
use Rattle.std.specs.Prelude.{◌≡◌, ℕ, ◌+◌, ◌≤◌, List, [], length, Option, Some}
use Rattle.wire_core.specs.Source.{Consumes}
use Rattle.agent_status.specs.declared.status.Status.{Status}
use Rattle.agent_status.specs.declared.status.Status.TheVariants.{ReadFault, OutOfMemory, TooLong}

-- 2^20: as many octets are taken at most of an input that is taken whole
abbrev pub most_whole : ℕ
most_whole = 1048576

-- the input was taken to its end
pub record TakenWhole (input : List ℕ) (left : Option (List ℕ)) : Type 0 where
  pub ended : left ≡ Some []
  pub few : length input ≤ most_whole

-- at most 2^20 octets were taken
abbrev pub TakenPart : Option (List ℕ) → Option (List ℕ) → Type 0
TakenPart before left = (octets : List ℕ) × Consumes before left octets × (length octets ≤ most_whole)

-- one octet more was taken
abbrev pub TakenMore : Option (List ℕ) → Option (List ℕ) → Type 0
TakenMore before left = (octets : List ℕ) × Consumes before left octets × (length octets ≡ most_whole + 1)

-- why an input wasn't taken whole, and what was taken of it
abbrev pub TakesNot : Status → Option (List ℕ) → Option (List ℕ) → Type 0
TakesNot ReadFault before left = TakenPart before left
TakesNot OutOfMemory before left = TakenPart before left
TakesNot TooLong before left = TakenMore before left
TakesNot status before left = ⊥
