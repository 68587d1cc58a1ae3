-- A position that is kept while a transcript is read.
use Rattle.std.specs.Prelude.{◌≡◌, ℕ, ◌<◌, List, length, Option, Some, None, Result, Ok, Err, ⊤, OnOk}
use Rattle.wire_core.specs.Counts.{one_more}
use Rattle.wire_core.specs.declared.memory.NoMemory.{NoMemory}
use Rattle.agent_events.specs.declared.events.Input.{Input}
use Rattle.text_lines.specs.declared.word_fault.WordFault.{WordFault}
use Rattle.text_lines.specs.declared.word_fault.WordFault.TheVariants as word
use Rattle.transcript.specs.Inputs.{HasCut, inputs_of, stream_after}
use Rattle.transcript.specs.Reading.{At, Step, read_line}
use Rattle.transcript.specs.declared.happening.Happening.{Happening}
use Rattle.transcript.specs.declared.line.Line.{Line}
use Rattle.transcript.specs.declared.line_fault.LineFault.{LineFault}
use Rattle.transcript.specs.declared.line_fault.LineFault.TheVariants as fault
use Rattle.transcript.specs.declared.position.Position.{Position}
use Rattle.transcript.specs.declared.reader.LineReader.{LineReader}

abbrev pub fault_at : ℕ → ℕ → LineFault
fault_at number reason = fault.Bad number reason

abbrev pub fault_of : ℕ → WordFault → LineFault
fault_of number word.Bad = fault.Bad number 3
fault_of number word.NoMemory = fault.NoMemory

pub record StandsAt (p : Position) (at : At) : Type 0 where
  pub controls : p.controls ≡ at.controls
  pub section : p.section ≡ at.section
  pub addresses : p.addresses.items ≡ at.addresses
  pub cut : HasCut p.link.framer p.link.is_broken at.stream
  pub lines : p.lines ≡ at.lines

-- the line says what it says there, and the next one stands where it does; or it is bad for its reason
abbrev pub TakesStep : Result Line LineFault → At → Step → Position → Type 0
TakesStep (Ok said) at (Ok step) new = (said ≡ step.0) × StandsAt new step.1
TakesStep (Ok said) at (Err reason) new = ⊥
TakesStep (Err fault.NoMemory) at step new = ⊤
TakesStep (Err (fault.Bad number why)) at (Err reason) new = (number ≡ one_more at.lines) × (why ≡ reason)
TakesStep (Err f) at step new = ⊥

-- the inputs, and the octets of the link after them; all else stays
abbrev pub TellsInputs : Result (List Input) NoMemory → At → Happening → Position → Position → Type 0
TellsInputs (Ok inputs) at told old new =
    (inputs ≡ inputs_of at.stream told) × HasCut new.link.framer new.link.is_broken (stream_after at.stream told)
    × (new.controls ≡ old.controls) × (new.section ≡ old.section) × (new.addresses ≡ old.addresses) × (new.lines ≡ old.lines)
TellsInputs (Err e) at told old new = ⊤

-- nothing was refused, and the next line stands here
pub record IsReading (r : LineReader) (at : At) : Type 0 where
  pub position : StandsAt r.position at
  pub open_to : r.refused ≡ None

-- what the line says, and where the next one stands
abbrev pub TakesLine : Result Line LineFault → At → Step → LineReader → Type 0
TakesLine answer at step new = TakesStep answer at step new.position × OnOk answer (new.refused ≡ None)

abbrev pub TakesSome : Result (Option Line) LineFault → At → Step → LineReader → Type 0
TakesSome (Ok (Some said)) at step new = TakesLine (Ok said) at step new
TakesSome (Ok None) at step new = ⊥
TakesSome (Err f) at step new = TakesLine (Err f) at step new

abbrev pub TakesBad : LineFault → At → Step → Type 0
TakesBad (fault.Bad number why) at (Err reason) = (number ≡ one_more at.lines) × (why ≡ reason)
TakesBad f at step = ⊥

-- what is said of a line that has more octets than a line may have
abbrev pub TooLong : LineFault → At → Type 0
TooLong fault at = (octets : List ℕ) → 140000 < length octets → TakesBad fault at (read_line at octets)
