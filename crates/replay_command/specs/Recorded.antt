-- The record of a run, and what a replay of it prints (profile).
use Rattle.std.specs.Prelude.{◌≡◌, ℕ, false, List, [], ◌∷◌, ◌++◌, map}
use Rattle.std.specs.List.{flat_map}
use Rattle.wire_core.specs.Counts.{one_more}
use Rattle.agent_settings.specs.declared.config.Config.{Config}
use Rattle.agent_events.specs.declared.events.Input.{Input}
use Rattle.agent_events.specs.declared.events.Output.{Output}
use Rattle.agent_core.specs.Places.{Event}
use Rattle.agent_core.specs.History.{past}
use Rattle.agent_core.specs.LawsOfSends.{busy_outputs, without_idle}
use Rattle.printed_lines.specs.Text.{output_line}
use Rattle.transcript.specs.Reading.{IsTranscript}
use Rattle.transcript.specs.Records.{AreTellable, AreTellableSettings, lines_with, record_text}
use Rattle.transcript.specs.declared.line.Line.{Line}
use Rattle.transcript_runs.specs.Runs.{Running}
use Rattle.replay_command.specs.Run.{end_text, transcript_text}

-- what is told of a history: the inputs that aren't idle, each at the greatest moment so far
abbrev pub told_inputs : Config → List Event → List (ℕ × Input)
told_inputs config history = map (λ e. (e.moment, e.input)) (without_idle config [] history)

-- its record: the lines of the settings, and of these inputs
abbrev pub recorded : Config → List Event → List ℕ
recorded config history = record_text config (told_inputs config history)

-- the lines of outputs, those of each input with the number of its line
abbrev pub numbered_lines : ℕ → List (List Output) → List ℕ
numbered_lines lines [] = []
numbered_lines lines (outputs ∷ more) = flat_map (output_line (one_more lines)) outputs ++ numbered_lines (one_more lines) more

-- a record is a transcript, and what it prints is, for each input that isn't idle, the very outputs that the run had for it, and
-- at the end the counts of the run
abbrev pub RecordsAreReplayed : Type 0
RecordsAreReplayed = (config : Config) (boot : ℕ) (history : List Event)
    → AreTellableSettings config boot → AreTellable false (told_inputs config history)
    → (lines : List Line) × (IsTranscript (recorded config history) lines × (
    transcript_text lines
    ≡ numbered_lines (lines_with 1 config.clients) (busy_outputs config [] history) ++ end_text (Running config (past config history))))
