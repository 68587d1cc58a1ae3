-- Internal: what a line makes a command print, in memory.
use Rattle.std.specs.Prelude.{◌≡◌, ℕ, List, [], ◌∷◌, ◌++◌, Some, Result, Ok, Err}
use Rattle.wire_core.specs.Forms.{Writing}
use Rattle.agent_status.specs.declared.status.Status.{Status}
use Rattle.agent_status.specs.declared.status.Status.TheVariants.{BadTranscript, WriteFault, OutOfMemory}
use Rattle.text_commands.specs.Tasks.{Adds, Task}

-- a text that takes no more octets wants memory
abbrev pub memory_status : Status → Status
memory_status WriteFault = OutOfMemory
memory_status status = status

-- the text that a line behind these adds, or why there is none
abbrev pub Prints : Task → (List (List ℕ) → Type 0) → Result Writing Status → List (List ℕ) → List ℕ → Type 0
Prints task took (Ok text) lines line = took (lines ++ line ∷ []) × Adds task lines line text.written
Prints task took (Err (BadTranscript number reason)) lines line =
    task.stop (lines ++ line ∷ []) ≡ Some (record { line = number; reason = reason })
Prints task took (Err OutOfMemory) lines line = Unit {0}
Prints task took (Err status) lines line = ⊥

-- the text behind all lines, or want of memory
abbrev pub PrintsEnd : Task → Result Writing Status → List (List ℕ) → Type 0
PrintsEnd task (Ok text) lines = text.written ≡ task.close lines
PrintsEnd task (Err status) lines = status ≡ OutOfMemory
