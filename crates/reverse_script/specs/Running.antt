-- Internal: what the command `reverse` knows of the lines so far.
use Rattle.std.specs.Prelude.{◌≡◌, ℕ, ◌+◌, ◌-◌, ◌^◌, List, [], ◌∷◌, min, count_by, Option, Some, None, Result, Ok, Err, IsTrue, ⊤}
use Rattle.std.specs.List.{flat_map}
use Rattle.wire_core.specs.Sink.{Appends}
use Rattle.agent_status.specs.declared.status.Status.{Status}
use Rattle.agent_status.specs.declared.status.Status.TheVariants.{BadTranscript, OutOfMemory}
use Rattle.text_lines.specs.declared.word_fault.WordFault.{WordFault}
use Rattle.text_lines.specs.declared.word_fault.WordFault.TheVariants as words
use Rattle.reverse_map.specs.declared.own.Reverse.{Reverse}
use Rattle.reverse_core.specs.declared.events.ReverseInput.{ReverseInput}
use Rattle.reverse_core.specs.declared.events.ReverseOutput.{ReverseOutput}
use Rattle.reverse_core.specs.Places.{ReverseEvent, ReversePlace}
use Rattle.reverse_core.specs.History.{past, place}
use Rattle.reverse_core.specs.Standing.{ReverseState, ReverseStandsFor}
use Rattle.reverse_script.specs.declared.counts.Counts.{Counts}
use Rattle.reverse_script.specs.declared.line.OwnWords.{OwnWords}
use Rattle.reverse_script.specs.declared.line.ScriptLine.{ScriptLine}
use Rattle.reverse_script.specs.declared.line.ScriptLine.TheVariants as lines
use Rattle.reverse_script.specs.declared.line.ScriptFault.{ScriptFault}
use Rattle.reverse_script.specs.declared.line.ScriptFault.TheVariants.{Bad, NoMemory}
use Rattle.reverse_script.specs.declared.work.ReverseWork.{ReverseWork}
use Rattle.reverse_script.specs.Script.{Said, Tells, Comes, is_own_in_limits, own_by}
use Rattle.reverse_script.specs.Printed.{At, Nothing, Running, Stage, is_answer, is_drop, is_send, output_line, outputs_of, printed_from, start}

-- ---- reading

abbrev pub own_told : OwnWords → Option Reverse
own_told w = own_by w.host.now w.realm.now w.server.now w.port.now w.secret.now w.retention.now

abbrev pub said_of : ScriptLine → Said
said_of (lines.Own own) = Tells own
said_of (lines.Event moment input) = Comes (record { moment = moment; input = input })

abbrev pub fault_of : WordFault → ScriptFault
fault_of words.Bad = Bad 3
fault_of words.NoMemory = NoMemory

abbrev pub Refuses : ScriptFault → Result Said ℕ → Type 0
Refuses (Bad reason) said = said ≡ Err reason
Refuses NoMemory said = ⊤

-- a reader of a line gives exactly what it says, but for want of memory
abbrev pub Says : Result ScriptLine ScriptFault → Result Said ℕ → Type 0
Says (Ok line) said = said ≡ Ok (said_of line)
Says (Err fault) said = Refuses fault said

-- what is told is within its limits
abbrev pub IsInLimits : ScriptLine → Type 0
IsInLimits (lines.Own own) = IsTrue (is_own_in_limits own)
IsInLimits (lines.Event moment input) = ⊤

-- the status of a line of this number that can't be read
abbrev pub bad_line_status : ℕ → ScriptFault → Status
bad_line_status number (Bad reason) = BadTranscript number reason
bad_line_status number NoMemory = OutOfMemory

-- ---- running

abbrev pub event_at : ℕ → ReverseInput → ReverseEvent
event_at moment input = record { moment = moment; input = input }

-- with these outputs counted too
abbrev pub counted : Counts → List ReverseOutput → Counts
counted c outputs = record {
  sends = min (c.sends + count_by is_send outputs) (2 ^ 64 - 1);
  answers = min (c.answers + count_by is_answer outputs) (2 ^ 64 - 1);
  drops = min (c.drops + count_by is_drop outputs) (2 ^ 64 - 1);
}

abbrev pub counts_of : List ReversePlace → Counts
counts_of ps = record { sends = outputs_of is_send ps; answers = outputs_of is_answer ps; drops = outputs_of is_drop ps }

-- the core stands for the history of these places, and the counts are of their outputs
pub record RunsAt (core : ReverseState) (counts : Counts) (own : Reverse) (ps : List ReversePlace) : Type 0 where
  pub history : List ReverseEvent
  pub past_is : ps ≡ past own history
  pub own_is : core.own ≡ own
  pub stands : ReverseStandsFor core history
  pub counted : counts ≡ counts_of ps

-- one more input was run
abbrev pub RunsOn : ReverseState → Counts → Reverse → List ReversePlace → ℕ → ReverseEvent → Option (List ℕ) → Option (List ℕ) → Type 0
RunsOn core counts own ps number e before now =
    RunsAt core counts own (place own ps e ∷ ps) × Appends before now (flat_map (output_line number) (place own ps e).outputs)

abbrev pub IsStage : Option ReverseState → Counts → Stage → Type 0
IsStage None counts Nothing = counts ≡ counts_of []
IsStage None counts (Running own ps) = ⊥
IsStage (Some core) counts Nothing = ⊥
IsStage (Some core) counts (Running own ps) = RunsAt core counts own ps

pub record IsAt (work : ReverseWork) (at : At) : Type 0 where
  pub lines : work.lines ≡ at.lines
  pub stage : IsStage work.core work.counts at.stage

-- these lines were taken, and none of them is bad
pub record Took (work : ReverseWork) (lines : List (List ℕ)) : Type 0 where
  pub sound : (printed_from start lines).stop ≡ None
  pub at : IsAt work (printed_from start lines).at
