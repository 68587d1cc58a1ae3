-- What a command makes of the lines of its input, and how it may end.
use Rattle.std.specs.Prelude.{◌≡◌, ℕ, ◌<◌, ◌≤◌, ◌⊎◌, Bool, true, false, List, [], ◌∷◌, ◌++◌, length, Option, Some, None, Result, Ok, Err, ⊤}
use Rattle.std.specs.List.{AllByRecursion, flat_map}
use Rattle.wire_core.specs.Counts.{Rose}
use Rattle.wire_core.specs.Sink.{Appends, AppendsPrefix}
use Rattle.wire_core.specs.Source.{Consumes, IsAtEnd}
use Rattle.text_lines.specs.Stops.{Bad}
use Rattle.text_lines.specs.Streams.{IsUnended, most_octets}
use Rattle.text_lines.specs.declared.raw_lines.RawFault.{RawFault}
use Rattle.text_lines.specs.declared.raw_lines.RawFault.TheVariants as raw
use Rattle.text_lines.specs.Words.{lines_of}
use Rattle.agent_status.specs.declared.status.Status.{Status}
use Rattle.agent_status.specs.declared.status.Status.TheVariants.{Done, Usage, BadConfig, BadTranscript, ReadFault, WriteFault, OutOfMemory, TooLong}

-- what a command makes of lines: how many octets one has at most, which is the first bad one, what those before it print, and
-- what stands after all lines
pub record Task : Type 0 where
  pub longest : ℕ
  pub stop : List (List ℕ) → Option Bad
  pub text : List (List ℕ) → List ℕ
  pub close : List (List ℕ) → List ℕ

-- no lines are sound and print nothing; a bad line prints nothing, and what follows it changes nothing
pub record IsTask (task : Task) : Type 0 where
  pub none : task.stop [] ≡ None
  pub empty : task.text [] ≡ []
  pub quiet : (lines : List (List ℕ)) (line : List ℕ) (bad : Bad) → task.stop lines ≡ None → task.stop (lines ++ line ∷ []) ≡ Some bad
      → task.text (lines ++ line ∷ []) ≡ task.text lines
  pub stop : (lines more : List (List ℕ)) (bad : Bad) → task.stop lines ≡ Some bad → task.stop (lines ++ more) ≡ Some bad
  pub text : (lines more : List (List ℕ)) (bad : Bad) → task.stop lines ≡ Some bad → task.text (lines ++ more) ≡ task.text lines

-- ---- one line

-- the line is the first bad one, and this is its status
abbrev pub IsBad : Task → Status → List (List ℕ) → Type 0
IsBad task (BadTranscript line reason) lines = task.stop lines ≡ Some (record { line = line; reason = reason })
IsBad task status lines = ⊥

-- the line isn't bad, and adds this text
pub record Adds (task : Task) (lines : List (List ℕ)) (line added : List ℕ) : Type 0 where
  pub sound : task.stop (lines ++ line ∷ []) ≡ None
  pub text : task.text (lines ++ line ∷ []) ≡ task.text lines ++ added

-- why a line wasn't taken: it is bad, or of its text only a prefix was written
abbrev pub WorksNot : Task → Status → List (List ℕ) → List ℕ → Option (List ℕ) → Option (List ℕ) → Type 0
WorksNot task (BadTranscript number reason) lines line before now =
    (task.stop (lines ++ line ∷ []) ≡ Some (record { line = number; reason = reason })) × (now ≡ before)
WorksNot task WriteFault lines line before now = (text : List ℕ) × Adds task lines line text × AppendsPrefix before now text
WorksNot task OutOfMemory lines line before now =
    (now ≡ before) ⊎ ((text : List ℕ) × Adds task lines line text × AppendsPrefix before now text)
WorksNot task status lines line before now = ⊥

-- what taking a line after these does
abbrev pub Works : Task → (List (List ℕ) → Type 0) → Result Unit Status → List (List ℕ) → List ℕ → Option (List ℕ) → Option (List ℕ) → Type 0
Works task took (Ok done) lines line before now =
    took (lines ++ line ∷ []) × ((text : List ℕ) × Adds task lines line text × Appends before now text)
Works task took (Err status) lines line before now = WorksNot task status lines line before now

-- what stands after all lines was written, or wasn't
abbrev pub ClosesWith : Status → List ℕ → Option (List ℕ) → Option (List ℕ) → Type 0
ClosesWith Done text before now = Appends before now text
ClosesWith WriteFault text before now = AppendsPrefix before now text
ClosesWith OutOfMemory text before now = now ≡ before
ClosesWith status text before now = ⊥

abbrev pub Closes : Task → Status → List (List ℕ) → Option (List ℕ) → Option (List ℕ) → Type 0
Closes task status lines before now = ClosesWith status (task.close lines) before now

-- the last line was taken, and what stands after all lines was written
abbrev pub Finishes : Task → Status → List (List ℕ) → List ℕ → Option (List ℕ) → Option (List ℕ) → Type 0
Finishes task Done lines line before now =
    (text : List ℕ) × Adds task lines line text × Appends before now (text ++ task.close (lines ++ line ∷ []))
Finishes task WriteFault lines line before now =
    (text : List ℕ) × Adds task lines line text × AppendsPrefix before now (text ++ task.close (lines ++ line ∷ []))
Finishes task status lines line before now = WorksNot task status lines line before now

-- ---- the whole input

-- these lines as octets, each ended by the octet 0a
abbrev pub ended_text : List (List ℕ) → List ℕ
ended_text lines = flat_map (λ line. line ++ 10 ∷ []) lines

-- the octets of these lines: each is ended by the octet 0a, but for a last one that ends with its text
abbrev pub AreLines : List ℕ → List (List ℕ) → Type 0
AreLines octets lines = (octets ≡ ended_text lines) ⊎ (octets ++ 10 ∷ [] ≡ ended_text lines)

-- The input is at its end, none of its lines is bad, and exactly what they print was written.
pub record Whole (task : Task) (input : List ℕ) (left before now : Option (List ℕ)) : Type 0 where
  pub ended : left ≡ Some []
  pub sound : task.stop (lines_of input) ≡ None
  pub short : length input ≤ most_octets
  pub written : Appends before now (task.text (lines_of input) ++ task.close (lines_of input))

-- This is the first bad line, it was found within the octets that may be taken, and exactly what the lines before it print
-- was written.
pub record Stops (task : Task) (bad : Bad) (input : List ℕ) (left before now : Option (List ℕ)) : Type 0 where
  pub first : task.stop (lines_of input) ≡ Some bad
  pub taken : List ℕ
  pub is_taken : Consumes (Some input) left taken
  pub few : length taken ≤ most_octets
  pub written : Appends before now (task.text (lines_of input))

-- What was taken is lines that ended, none of them bad, and a part of one that had not, which isn't too long, and exactly what
-- these lines print was written.
pub record BreaksOff (task : Task) (input : List ℕ) (left before now : Option (List ℕ)) : Type 0 where
  pub lines : List (List ℕ)
  pub each : AllByRecursion IsUnended lines
  pub sound : task.stop lines ≡ None
  pub part : List ℕ
  pub unended : IsUnended part
  pub short : length part ≤ task.longest
  pub taken : Consumes (Some input) left (ended_text lines ++ part)
  pub written : Appends before now (task.text lines)

-- The same, where as many octets were taken as may be, and the input gave one more.
pub record Overruns (task : Task) (input : List ℕ) (left before now : Option (List ℕ)) : Type 0 where
  pub lines : List (List ℕ)
  pub each : AllByRecursion IsUnended lines
  pub sound : task.stop lines ≡ None
  pub part : List ℕ
  pub unended : IsUnended part
  pub short : length part ≤ task.longest
  pub full : length (ended_text lines ++ part) ≡ most_octets
  pub more : ℕ
  pub taken : Consumes (Some input) left ((ended_text lines ++ part) ++ more ∷ [])
  pub written : Appends before now (task.text lines)

-- These lines were taken, none of them bad, and perhaps octets after them, and of what they print a prefix was written.
pub record WritesPart (task : Task) (input : List ℕ) (left before now : Option (List ℕ)) : Type 0 where
  pub lines : List (List ℕ)
  pub each : AllByRecursion IsUnended lines
  pub sound : task.stop lines ≡ None
  pub octets : List ℕ
  pub are_lines : AreLines octets lines
  pub more : List ℕ
  pub taken : Consumes (Some input) left (octets ++ more)
  pub written : AppendsPrefix before now (task.text lines)

-- The input is at its end, none of its lines is bad, and a prefix of what they print was written.
pub record EndsPart (task : Task) (input : List ℕ) (left before now : Option (List ℕ)) : Type 0 where
  pub ended : left ≡ Some []
  pub sound : task.stop (lines_of input) ≡ None
  pub written : AppendsPrefix before now (task.text (lines_of input) ++ task.close (lines_of input))

-- what was taken of the input and what was written, by the status
abbrev pub EndsBy : Task → Status → List ℕ → Option (List ℕ) → Option (List ℕ) → Option (List ℕ) → Type 0
EndsBy task Done input left before now = Whole task input left before now
EndsBy task (BadTranscript line reason) input left before now =
    Stops task (record { line = line; reason = reason }) input left before now
EndsBy task ReadFault input left before now = BreaksOff task input left before now
EndsBy task WriteFault input left before now = WritesPart task input left before now ⊎ EndsPart task input left before now
EndsBy task OutOfMemory input left before now = WritesPart task input left before now
EndsBy task TooLong input left before now = Overruns task input left before now
EndsBy task status input left before now = ⊥

-- a status with which a command may end that goes through its input line by line
abbrev pub IsLinesEnd : Status → Type 0
IsLinesEnd Done = ⊤
IsLinesEnd (BadTranscript line reason) = ⊤
IsLinesEnd ReadFault = ⊤
IsLinesEnd WriteFault = ⊤
IsLinesEnd OutOfMemory = ⊤
IsLinesEnd TooLong = ⊤
IsLinesEnd status = ⊥

-- Lines that end were taken, none of them bad, and what they print was written. The input is at its end behind these octets.
pub record TakesEach (task : Task) (took : List (List ℕ) → Type 0) (input left before now : Option (List ℕ)) (behind : List ℕ) : Type 0 where
  pub lines : List (List ℕ)
  pub taken : took lines
  pub each : AllByRecursion IsUnended lines
  pub sound : task.stop lines ≡ None
  pub octets : Consumes input left (ended_text lines ++ behind)
  pub few : length (ended_text lines ++ behind) ≤ most_octets
  pub ended : IsAtEnd left
  pub written : Appends before now (task.text lines)

-- The line behind these is the first bad one. It ends by the octet 0a, or with the input, where it has more octets than a line
-- may have.
pub record FindsBad (task : Task) (bad : Bad) (input : List ℕ) : Type 0 where
  pub lines : List (List ℕ)
  pub each : AllByRecursion IsUnended lines
  pub sound : task.stop lines ≡ None
  pub line : List ℕ
  pub unended : IsUnended line
  pub is_bad : task.stop (lines ++ line ∷ []) ≡ Some bad
  pub behind : List ℕ
  pub octets : input ≡ ended_text lines ++ (line ++ behind)
  pub ends : ((rest : List ℕ) × (behind ≡ 10 ∷ rest)) ⊎ ((behind ≡ []) × (task.longest < length line))

-- all lines that end were taken, and the input is at its end behind them or behind a further line, or they weren't
abbrev pub TakesLines : Task → (List (List ℕ) → Type 0) → Result Bool Status → Option (List ℕ) → Option (List ℕ) → List ℕ
    → Option (List ℕ) → Option (List ℕ) → Type 0
TakesLines task took (Ok true) input left line before now =
    TakesEach task took input left before now line × IsUnended line × (0 < length line)
TakesLines task took (Ok false) input left line before now = TakesEach task took input left before now []
TakesLines task took (Err Done) input left line before now = ⊥
TakesLines task took (Err Usage) input left line before now = ⊥
TakesLines task took (Err (BadTranscript number reason)) input left line before now =
    (octets : List ℕ) → input ≡ Some octets → EndsBy task (BadTranscript number reason) octets left before now
    × FindsBad task (record { line = number; reason = reason }) octets
TakesLines task took (Err status) input left line before now =
    (octets : List ℕ) → input ≡ Some octets → EndsBy task status octets left before now

-- how a command ends whose next line can't be taken of the source
abbrev pub StatusOf : RawFault → (List (List ℕ) → Type 0) → Task → Status → Type 0
StatusOf raw.Read took task status = status ≡ ReadFault
StatusOf raw.TooMuch took task status = status ≡ TooLong
StatusOf raw.LongLine took task status = (lines : List (List ℕ)) (octets : List ℕ) → took lines → task.longest < length octets
    → IsBad task status (lines ++ octets ∷ [])
StatusOf raw.NoMemory took task status = status ≡ OutOfMemory

-- the counts that rose, by the status: the ends and faults of the source, and the faults of the sink
abbrev pub EndsCounts : Status → ℕ → ℕ → ℕ → ℕ → ℕ → ℕ → Type 0
EndsCounts Done ends ends' reads reads' writes writes' = Rose ends ends'
EndsCounts (BadConfig fault) ends ends' reads reads' writes writes' = Rose ends ends'
EndsCounts ReadFault ends ends' reads reads' writes writes' = Rose reads reads'
EndsCounts WriteFault ends ends' reads reads' writes writes' = Rose writes writes'
EndsCounts status ends ends' reads reads' writes writes' = Unit {0}

-- the same where all lines that end were taken, or weren't
abbrev pub TakesCounts : Result Bool Status → ℕ → ℕ → ℕ → ℕ → ℕ → ℕ → Type 0
TakesCounts (Ok more) ends ends' reads reads' writes writes' = Rose ends ends'
TakesCounts (Err status) ends ends' reads reads' writes writes' = EndsCounts status ends ends' reads reads' writes writes'
