-- What a read of a source tells.
use Rattle.std.specs.Prelude.{◌≡◌, ℕ, ◌<◌, ◌≤◌, List, [], length, take, Option, Some, ⊤}
use Rattle.std.specs.Io.KnownBytes.{prepend_known}
use Rattle.wire_core.specs.declared.outside.Got.{Got}
use Rattle.wire_core.specs.declared.outside.Got.TheVariants.{Bytes, End, Failed}

-- What was to come is these octets, and then what still is. A source that doesn't tell it never does.
pub record Consumes (before now : Option (List ℕ)) (octets : List ℕ) : Type 0 where
  pub front : before ≡ prepend_known octets now

-- nothing is to come, where that is told
abbrev pub IsAtEnd : Option (List ℕ) → Type 0
IsAtEnd left = (xs : List ℕ) → left ≡ Some xs → xs ≡ []

-- the answer says that nothing is to come: `Bytes(0)` does too, unless the buffer is empty
abbrev pub IsEnd : Got → ℕ → Type 0
IsEnd (Bytes n) room = (n ≡ 0) × (0 < room)
IsEnd End room = ⊤
IsEnd Failed room = ⊥

abbrev pub GotFailed : Got → Type 0
GotFailed (Bytes n) = ⊥
GotFailed End = ⊥
GotFailed Failed = ⊤

-- `Bytes(n)` took the first n octets of the buffer off what was to come; any other answer took none
abbrev pub GotReads : Got → Option (List ℕ) → Option (List ℕ) → List ℕ → Type 0
GotReads (Bytes n) before now buf = (n ≤ length buf) × Consumes before now (take n buf)
GotReads End before now buf = now ≡ before
GotReads Failed before now buf = now ≡ before
