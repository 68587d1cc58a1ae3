-- How the command `generate` ends.
use Rattle.std.specs.Prelude.{ℕ, List, Option}
use Rattle.wire_core.specs.Counts.{Rose}
use Rattle.wire_core.specs.Sink.{Appends, AppendsPrefix}
use Rattle.generated_logins.specs.Generator.{generated_text}
use Rattle.agent_status.specs.declared.status.Status.{Status}
use Rattle.agent_status.specs.declared.status.Status.TheVariants.{Done, WriteFault, OutOfMemory}

-- the transcript was written, or a prefix of it
abbrev pub GeneratesBy : Status → ℕ → ℕ → Option (List ℕ) → Option (List ℕ) → Type 0
GeneratesBy Done count seed before now = Appends before now (generated_text count seed)
GeneratesBy WriteFault count seed before now = AppendsPrefix before now (generated_text count seed)
GeneratesBy OutOfMemory count seed before now = AppendsPrefix before now (generated_text count seed)
GeneratesBy status count seed before now = ⊥

-- the sink's count of faults rose where it failed
abbrev pub WriteCounts : Status → ℕ → ℕ → Type 0
WriteCounts WriteFault writes writes' = Rose writes writes'
WriteCounts status writes writes' = Unit {0}
