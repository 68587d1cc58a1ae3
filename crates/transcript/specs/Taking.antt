-- What is taken of a source for the next line of a transcript.
use Rattle.std.specs.Prelude.{◌≡◌, ℕ, ◌+◌, ◌<◌, ◌≤◌, Bool, true, false, List, [], ◌∷◌, ◌++◌, length, Option, Some, None, Result, Ok, Err}
use Rattle.wire_core.specs.Source.{Consumes, IsAtEnd}
use Rattle.text_lines.specs.Streams.{Cutting, IsUnended, most_octets}
use Rattle.text_lines.specs.Words.{lines_of}
use Rattle.text_lines.specs.declared.raw_lines.RawFault.{RawFault}
use Rattle.text_lines.specs.declared.raw_lines.RawFault.TheVariants as raw
use Rattle.transcript.specs.Positions.{IsReading, TakesBad, TakesLine, TooLong}
use Rattle.transcript.specs.Reading.{At, read_line}
use Rattle.transcript.specs.declared.line.Line.{Line}
use Rattle.transcript.specs.declared.line_fault.LineFault.{LineFault}
use Rattle.transcript.specs.declared.line_fault.LineFault.TheVariants as fault
use Rattle.transcript.specs.declared.reader.LineReader.{LineReader}

-- after a line the octet 0a was passed, or the source ended
abbrev pub IsEnding : Bool → Option (List ℕ) → List ℕ → List ℕ → Type 0
IsEnding false now octets ending = ending ≡ 10 ∷ []
IsEnding true now octets ending = (ending ≡ []) × IsAtEnd now × (0 < length octets)

-- the next line was read, and nothing else
pub record ReadsLine (at : At) (before now : Option (List ℕ)) (old new : Cutting) (reader : LineReader) (ended : Bool) (said : Line) : Type 0 where
  pub octets : List ℕ
  pub ending : List ℕ
  pub unended : IsUnended octets
  pub is_ending : IsEnding ended now octets ending
  pub taken : Consumes before now (octets ++ ending)
  pub says : TakesLine (Ok said) at (read_line at octets) reader
  pub passed : new.held.passed ≡ old.held.passed + length (octets ++ ending)

-- the first line of what was to come is bad
pub record FirstIsBad (at : At) (fault : LineFault) (xs : List ℕ) : Type 0 where
  pub octets : List ℕ
  pub more : List (List ℕ)
  pub lines : lines_of xs ≡ octets ∷ more
  pub bad : TakesBad fault at (read_line at octets)

-- why no line was read: the source failed within it, it is bad, the source has too many octets, or memory was wanting. Of a
-- line that isn't bad no more octets were taken than a line may have.
abbrev pub ReadsNone : LineFault → At → Option (List ℕ) → Option (List ℕ) → Cutting → Type 0
ReadsNone fault.Read at before left old = (xs : List ℕ) × IsUnended xs × Consumes before left xs × (length xs ≤ 140000)
ReadsNone (fault.Bad number reason) at before left old = (xs : List ℕ) → before ≡ Some xs → FirstIsBad at (fault.Bad number reason) xs
ReadsNone fault.Long at before left old = (xs : List ℕ) × ((x : ℕ) × IsUnended xs × Consumes before left (xs ++ x ∷ [])
    × (length xs ≤ 140000) × (old.held.passed + length xs ≡ most_octets))
ReadsNone fault.NoMemory at before left old = (xs : List ℕ) × Consumes before left xs

-- what asking for the next line answers
abbrev pub ReadsNext : Result (Option Line) LineFault → At → Option (List ℕ) → Option (List ℕ) → Option (List ℕ) → Cutting → Cutting → LineReader → Bool → Type 0
ReadsNext (Ok (Some said)) at before now left old new reader ended = ReadsLine at before now old new reader ended said
ReadsNext (Ok None) at before now left old new reader ended =
    (now ≡ before) × IsAtEnd before × (ended ≡ true) × (new.held.passed ≡ old.held.passed) × IsReading reader at
ReadsNext (Err fault) at before now left old new reader ended = ReadsNone fault at before left old

-- a fault of the octets as a fault of the line
abbrev pub IsOfLine : RawFault → At → LineFault → Type 0
IsOfLine raw.Read at why = why ≡ fault.Read
IsOfLine raw.TooMuch at why = why ≡ fault.Long
IsOfLine raw.LongLine at why = TooLong why at
IsOfLine raw.NoMemory at why = why ≡ fault.NoMemory
