-- The moment up to which a run goes.
use Rattle.std.specs.Prelude.{ℕ, ◌+◌, ◌-◌, ◌^◌, ◌<◌, ◌≤◌, min, List, [], ◌∷◌, ◌++◌, All, Option}
use Rattle.wire_devices.specs.Telling.{Adds}

-- so long after the first reading of the clock, as far as a u64 counts
abbrev pub until_of : ℕ → ℕ → ℕ
until_of reading millis = min (reading + millis) (2 ^ 64 - 1)

-- the clock was read so often, and each time it was before this moment
pub record Early (until : ℕ) (before now : Option (List ℕ)) : Type 0 where
  pub readings : List ℕ
  pub adds : Adds before now readings
  pub each : All (λ reading. reading < until) readings

-- the last reading alone is at or past this moment
pub record Late (until : ℕ) (before now : Option (List ℕ)) : Type 0 where
  pub readings : List ℕ
  pub last : ℕ
  pub adds : Adds before now (readings ++ last ∷ [])
  pub each : All (λ reading. reading < until) readings
  pub over : until ≤ last

-- After the first reading of the run none is so long after it.
pub record InTime (millis : ℕ) (before now : Option (List ℕ)) : Type 0 where
  pub first : ℕ
  pub readings : List ℕ
  pub adds : Adds before now (first ∷ readings)
  pub each : All (λ reading. reading < until_of first millis) readings

-- The last reading alone is so long after the first one of the run, or longer.
pub record TimeIsOver (millis : ℕ) (before now : Option (List ℕ)) : Type 0 where
  pub first : ℕ
  pub readings : List ℕ
  pub last : ℕ
  pub adds : Adds before now (first ∷ readings ++ last ∷ [])
  pub each : All (λ reading. reading < until_of first millis) readings
  pub over : until_of first millis ≤ last
