-- How a run of the program ends.
use Rattle.std.specs.Prelude.{ℕ, List, Option, Ok, Err}
use Rattle.wire_core.specs.Counts.{Rose}
use Rattle.agent_status.specs.declared.status.Status.{Status}
use Rattle.agent_status.specs.declared.status.Status.TheVariants as status
use Rattle.text_commands.specs.Tasks.{EndsBy}
use Rattle.replay_command.specs.Replay.{replay_task}
use Rattle.journal.specs.Verdicts.{ChecksBy}
use Rattle.journal.specs.Writing.{journal_task}
use Rattle.journal.specs.declared.verdict.Verdict.TheVariants.{Yes, No}
use Rattle.audit_log.specs.declared.status.AuditStatus.{AuditStatus}
use Rattle.audit_log.specs.declared.status.AuditStatus.TheVariants.{Done, Usage, BadTranscript, ReadFault, WriteFault, OutOfMemory, TooLong, AuditNo}

-- ---- numbers

abbrev pub status_number : AuditStatus → ℕ
status_number Done = 0
status_number Usage = 1
status_number (BadTranscript line reason) = 3
status_number ReadFault = 4
status_number WriteFault = 5
status_number OutOfMemory = 9
status_number TooLong = 12
status_number (AuditNo line reason) = 13

-- ---- the same statuses of a command

-- one that wrote a journal or gave no verdict
abbrev pub written_status : Status → AuditStatus
written_status status.Done = Done
written_status (status.BadTranscript line reason) = BadTranscript line reason
written_status status.ReadFault = ReadFault
written_status status.WriteFault = WriteFault
written_status status.TooLong = TooLong
written_status other = OutOfMemory

-- ---- `write`

-- the journal of the transcript was written, or of it what stands before the fault
abbrev pub WritesBy : AuditStatus → List ℕ → List ℕ → Option (List ℕ) → Option (List ℕ) → Option (List ℕ) → Type 0
WritesBy Done key input left before now = EndsBy (journal_task replay_task key) status.Done input left before now
WritesBy (BadTranscript line reason) key input left before now =
    EndsBy (journal_task replay_task key) (status.BadTranscript line reason) input left before now
WritesBy ReadFault key input left before now = EndsBy (journal_task replay_task key) status.ReadFault input left before now
WritesBy WriteFault key input left before now = EndsBy (journal_task replay_task key) status.WriteFault input left before now
WritesBy OutOfMemory key input left before now = EndsBy (journal_task replay_task key) status.OutOfMemory input left before now
WritesBy TooLong key input left before now = EndsBy (journal_task replay_task key) status.TooLong input left before now
WritesBy other key input left before now = ⊥

-- ---- `check`

-- The text is the journal of a transcript, or isn't, from this line on and for this reason, or there is no verdict.
abbrev pub AuditsBy : AuditStatus → List ℕ → List ℕ → Option (List ℕ) → Option (List ℕ) → Option (List ℕ) → Type 0
AuditsBy Done key input left before now = (count : ℕ) × ChecksBy replay_task key (Ok (Yes count)) input left before now
AuditsBy (AuditNo line reason) key input left before now = ChecksBy replay_task key (Ok (No line reason)) input left before now
AuditsBy ReadFault key input left before now = ChecksBy replay_task key (Err status.ReadFault) input left before now
AuditsBy WriteFault key input left before now = ChecksBy replay_task key (Err status.WriteFault) input left before now
AuditsBy OutOfMemory key input left before now = ChecksBy replay_task key (Err status.OutOfMemory) input left before now
AuditsBy TooLong key input left before now = ChecksBy replay_task key (Err status.TooLong) input left before now
AuditsBy other key input left before now = ⊥

-- ---- counts

-- the counts that rose, by the status
abbrev pub AuditCounts : AuditStatus → ℕ → ℕ → ℕ → ℕ → ℕ → ℕ → Type 0
AuditCounts Done ends ends' reads reads' writes writes' = Rose ends ends'
AuditCounts ReadFault ends ends' reads reads' writes writes' = Rose reads reads'
AuditCounts WriteFault ends ends' reads reads' writes writes' = Rose writes writes'
AuditCounts other ends ends' reads reads' writes writes' = Unit {0}
