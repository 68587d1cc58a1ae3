-- What a replay makes of the lines of its input.
use Rattle.std.specs.Prelude.{◌≡◌, ℕ, List, [], Option, Some}
use Rattle.wire_core.specs.Sink.{Appends}
use Rattle.transcript_runs.specs.Runs.{rule_of}
use Rattle.replay_command.specs.Run.{replay_telling, transcript_text}
use Rattle.transcript_runs.specs.Sessions.{HasFollowed}
use Rattle.transcript_runs.specs.declared.session.Session.{Session}
use Rattle.replay_command.specs.Counted.{AreCounted}
use Rattle.replay_command.specs.declared.counts.Counts.{Counts}
use Rattle.text_commands.specs.Following.{Takes}
use Rattle.text_commands.specs.Tasks.{Task}
use Rattle.text_commands.specs.Transcripts.{Rule, transcript_task}
use Rattle.text_commands.specs.declared.following.TranscriptWork.{TranscriptWork}
use Rattle.transcript.specs.Reading.{IsTranscript}
use Rattle.transcript.specs.declared.line.Line.{Line}

-- what the lines print, each followed after those before it
abbrev pub replay_rule : Rule
replay_rule = rule_of replay_telling

-- a transcript's lines, and what they print
abbrev pub replay_task : Task
replay_task = transcript_task replay_rule

-- the replay has taken these lines
abbrev pub Replays : TranscriptWork (Session Counts) → List (List ℕ) → Type 0
Replays work lines = Takes replay_rule (HasFollowed AreCounted) work lines

-- the input was a transcript of these lines and is at its end, and exactly what the transcript prints was written
pub record IsReplayed (input : List ℕ) (left before now : Option (List ℕ)) : Type 0 where
  pub lines : List Line
  pub is : IsTranscript input lines
  pub ended : left ≡ Some []
  pub written : Appends before now (transcript_text lines)
