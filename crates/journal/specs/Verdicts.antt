-- The verdict of a check.
use Rattle.std.specs.Prelude.{◌≡◌, ℕ, ◌-◌, ◌^◌, ◌≤◌, List, [], ◌∷◌, ◌++◌, length, min, codes, decimal, Option, Some, None, Result, Ok, Err}
use Rattle.wire_core.specs.Counts.{Rose}
use Rattle.wire_core.specs.Sink.{Appends, AppendsPrefix}
use Rattle.wire_core.specs.Source.{Consumes}
use Rattle.text_lines.specs.Streams.{most_octets}
use Rattle.text_lines.specs.Words.{lines_of}
use Rattle.agent_status.specs.declared.status.Status.{Status}
use Rattle.agent_status.specs.declared.status.Status.TheVariants.{BadTranscript, ReadFault, WriteFault, OutOfMemory, TooLong}
use Rattle.text_commands.specs.Tasks.{EndsCounts, Task}
use Rattle.journal.specs.Faults.{IsNoJournal}
use Rattle.journal.specs.Journal.{journal_text}
use Rattle.journal.specs.declared.verdict.Verdict.{Verdict}
use Rattle.journal.specs.declared.verdict.Verdict.TheVariants.{Yes, No}

-- The text is the journal of an input of so many lines, none of which is bad. A count stands still at its end.
pub record IsJournal (task : Task) (key text : List ℕ) (count : ℕ) : Type 0 where
  pub input : List ℕ
  pub sound : task.stop (lines_of input) ≡ None
  pub is : text ≡ journal_text task key (lines_of input)
  pub counted : count ≡ min (length (lines_of input)) (2 ^ 64 - 1)

abbrev pub IsVerdict : Task → List ℕ → List ℕ → Verdict → Type 0
IsVerdict task key text (Yes count) = IsJournal task key text count
IsVerdict task key text (No line reason) = IsNoJournal task key text line reason

-- the verdict where a line is at fault
abbrev pub verdict_by : Status → Result Verdict Status
verdict_by (BadTranscript line reason) = Ok (No line reason)
verdict_by status = Err status

abbrev pub verdict_text : Verdict → List ℕ
verdict_text (Yes count) = codes "yes " ++ decimal count ++ 10 ∷ []
verdict_text (No line reason) = codes "no " ++ decimal line ++ 32 ∷ decimal reason ++ 10 ∷ []

-- ---- a check

-- a part of the input was taken
abbrev pub Takes : List ℕ → Option (List ℕ) → Type 0
Takes input left = (taken : List ℕ) × Consumes (Some input) left taken

-- so much of the input was taken: its end was seen, or a line that is at fault
abbrev pub TakesFew : List ℕ → Option (List ℕ) → Type 0
TakesFew input left = (taken : List ℕ) × Consumes (Some input) left taken × (length taken ≤ most_octets)

-- as many octets were taken as may be, and one more
abbrev pub TakesMore : List ℕ → Option (List ℕ) → Type 0
TakesMore input left = (taken : List ℕ) × ((more : ℕ) × Consumes (Some input) left (taken ++ more ∷ []) × (length taken ≡ most_octets))

-- why there is no verdict
abbrev pub JudgesNot : Status → List ℕ → Option (List ℕ) → Type 0
JudgesNot ReadFault input left = Takes input left
JudgesNot OutOfMemory input left = Takes input left
JudgesNot TooLong input left = TakesMore input left
JudgesNot status input left = ⊥

abbrev pub JudgesBy : Task → List ℕ → Result Verdict Status → List ℕ → Option (List ℕ) → Type 0
JudgesBy task key (Ok verdict) input left = IsVerdict task key input verdict × TakesFew input left
JudgesBy task key (Err status) input left = JudgesNot status input left

-- the verdict was written, or why it wasn't
abbrev pub ChecksBy : Task → List ℕ → Result Verdict Status → List ℕ → Option (List ℕ) → Option (List ℕ) → Option (List ℕ) → Type 0
ChecksBy task key (Ok verdict) input left before now =
    IsVerdict task key input verdict × TakesFew input left × Appends before now (verdict_text verdict)
ChecksBy task key (Err WriteFault) input left before now =
    (verdict : Verdict) × IsVerdict task key input verdict × TakesFew input left × AppendsPrefix before now (verdict_text verdict)
ChecksBy task key (Err status) input left before now = JudgesNot status input left × (now ≡ before)

-- the counts that rose: the input was read to its end where the text is a journal
abbrev pub CheckCounts : Result Verdict Status → ℕ → ℕ → ℕ → ℕ → ℕ → ℕ → Type 0
CheckCounts (Ok (Yes count)) ends ends' reads reads' writes writes' = Rose ends ends'
CheckCounts (Ok (No line reason)) ends ends' reads reads' writes writes' = Unit {0}
CheckCounts (Err status) ends ends' reads reads' writes writes' = EndsCounts status ends ends' reads reads' writes writes'
