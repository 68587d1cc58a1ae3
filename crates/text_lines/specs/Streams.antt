-- How the octets of a source become lines.
use Rattle.std.specs.Prelude.{◌≡◌, ℕ, ◌+◌, ◌<◌, ◌≤◌, Bool, true, false, ◌==◌, List, [], ◌∷◌, ◌++◌, length, drop, Option, Result, Ok, Err, ⊤}
use Rattle.std.specs.List.{list_any}
use Rattle.std.specs.Io.KnownBytes.{prepend_known}
use Rattle.wire_core.specs.Source.{Consumes, IsAtEnd}
use Rattle.text_lines.specs.declared.intake.TakeFault.{TakeFault}
use Rattle.text_lines.specs.declared.intake.TakeFault.TheVariants.{Read, TooMuch}
use Rattle.text_lines.specs.declared.raw_lines.RawFault.{RawFault}
use Rattle.text_lines.specs.declared.raw_lines.RawFault.TheVariants as raw
use Rattle.text_lines.specs.declared.raw_lines.RawLine.{RawLine}
use Rattle.text_lines.specs.declared.raw_lines.RawLine.TheVariants.{Line, LastLine, End}

-- 2^40: as many octets are taken of a source at most
abbrev pub most_octets : ℕ
most_octets = 1099511627776

-- octets that were taken of a source and not passed on yet, and how many were passed on
pub record Held : Type 0 where
  pub octets : List ℕ
  pub passed : ℕ

-- what asking for more does: more octets come, the source ends, the read fails, or the source has more than
-- may be taken
abbrev pub Refills : Result Bool TakeFault → Option (List ℕ) → Option (List ℕ) → Held → Held → Type 0
Refills (Ok true) before now old new =
    (0 < length new.octets) × Consumes before now new.octets × (new.passed ≡ old.passed)
Refills (Ok false) before now old new = (now ≡ before) × (new ≡ old) × IsAtEnd before
Refills (Err Read) before now old new = (now ≡ before) × (new ≡ old)
Refills (Err TooMuch) before now old new =
    (old.passed ≡ most_octets) × (new ≡ old) × ((x : ℕ) × Consumes before now (x ∷ []))

-- no line ends within these octets
abbrev pub IsUnended : List ℕ → Type 0
IsUnended xs = list_any (λ x. x == 10) xs ≡ false

-- the octets before the first one that ends a line, or all of them where none does
abbrev pub IsFirstPiece : Bool → List ℕ → List ℕ → Type 0
IsFirstPiece true xs piece = IsUnended piece × (xs ≡ piece ++ 10 ∷ drop (length piece + 1) xs)
IsFirstPiece false xs piece = IsUnended piece × (xs ≡ piece)

-- the present line as far as it was taken, what is held besides, and how many octets a line has at most
pub record Cutting : Type 0 where
  pub line : List ℕ
  pub held : Held
  pub longest : ℕ

-- more of the present line: all of it, as much as is held, or more than a line may have
abbrev pub Cuts : Result Bool RawFault → Cutting → Cutting → Type 0
Cuts (Ok true) old new = (piece : List ℕ) × IsUnended piece × (old.held.octets ≡ piece ++ 10 ∷ new.held.octets)
    × (new.line ≡ old.line ++ piece) × (new.held.passed ≡ old.held.passed + length piece + 1)
Cuts (Ok false) old new = IsUnended old.held.octets × (new.held.octets ≡ [])
    × (new.line ≡ old.line ++ old.held.octets) × (new.held.passed ≡ old.held.passed + length old.held.octets)
Cuts (Err raw.LongLine) old new = (piece : List ℕ) × ((more : List ℕ) × IsUnended piece
    × (old.held.octets ≡ piece ++ more) × (old.longest < length old.line + length piece))
Cuts (Err raw.NoMemory) old new = ⊤
Cuts (Err fault) old new = ⊥

-- what is still to come of the lines: the octets that are held, and those that the source has left
abbrev pub rest_of : Cutting → Option (List ℕ) → Option (List ℕ)
rest_of c left = prepend_known c.held.octets left

-- the next line: it ends by the octet 0a, it ends with the source, or there is none
abbrev pub TakesRawLine : RawLine → Option (List ℕ) → Option (List ℕ) → Cutting → Cutting → Type 0
TakesRawLine Line before now old new = Consumes before now (new.line ++ 10 ∷ []) × (new.held.passed ≡ old.held.passed + length new.line + 1)
TakesRawLine LastLine before now old new = Consumes before now new.line × IsAtEnd now × (0 < length new.line)
    × (new.held.passed ≡ old.held.passed + length new.line)
TakesRawLine End before now old new = (now ≡ before) × IsAtEnd before × (new.held.passed ≡ old.held.passed)

-- the source ended at or after the line
abbrev pub SourceEnded : Result RawLine RawFault → Type 0
SourceEnded (Ok Line) = ⊥
SourceEnded (Ok LastLine) = ⊤
SourceEnded (Ok End) = ⊤
SourceEnded (Err fault) = ⊥

-- why there is none: these octets of a line, no more than a line may have, came before the source failed, or before it gave
-- more than may be taken of it; or they were too many for one line; or these octets were taken before memory was wanting
abbrev pub TakesNone : RawFault → Option (List ℕ) → Option (List ℕ) → Cutting → Cutting → Type 0
TakesNone raw.Read before left old new = (xs : List ℕ) × IsUnended xs × Consumes before left xs × (length xs ≤ old.longest)
TakesNone raw.TooMuch before left old new = (xs : List ℕ) × ((x : ℕ) × IsUnended xs × Consumes before left (xs ++ x ∷ [])
    × (length xs ≤ old.longest) × (old.held.passed + length xs ≡ most_octets))
TakesNone raw.LongLine before left old new = (xs : List ℕ) × ((more : List ℕ) × IsUnended xs × Consumes before left (xs ++ more) × (old.longest < length xs)
    × (old.held.passed + length (xs ++ more) ≤ most_octets))
TakesNone raw.NoMemory before left old new = (xs : List ℕ) × Consumes before left xs

-- the same fault of a line
abbrev pub IsTakeFault : TakeFault → RawFault → Type 0
IsTakeFault Read fault = fault ≡ raw.Read
IsTakeFault TooMuch fault = fault ≡ raw.TooMuch
