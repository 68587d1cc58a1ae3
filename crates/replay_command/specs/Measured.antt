-- How the command `measure` ends.
use Rattle.std.specs.Prelude.{◌≡◌, ℕ, List, ◌++◌, Option}
use Rattle.generated_logins.specs.Generator.{generated_lines}
use Rattle.agent_status.specs.declared.status.Status.{Status}
use Rattle.text_commands.specs.declared.following.TranscriptWork.{TranscriptWork}
use Rattle.text_commands.specs.Tasks.{Closes}
use Rattle.transcript_runs.specs.declared.session.Session.{Session}
use Rattle.replay_command.specs.declared.counts.Counts.{Counts}
use Rattle.replay_command.specs.Replay.{Replays, replay_task}

-- the end line of the transcript's replay was written, or wasn't
abbrev pub MeasuresBy : Status → ℕ → ℕ → Option (List ℕ) → Option (List ℕ) → Type 0
MeasuresBy status count seed before now = Closes replay_task status (generated_lines count seed) before now

-- of these lines the first were replayed, and the others are still to come
pub record ReplaysOn (work : TranscriptWork (Session Counts)) (lines left : List (List ℕ)) : Type 0 where
  pub done : List (List ℕ)
  pub replays : Replays work done
  pub whole : lines ≡ done ++ left
