-- What a transcript prints: its lines are followed one after another (profile).
use Rattle.std.specs.Prelude.{ℕ, ◌-◌, ◌^◌, Bool, List, ◌++◌, min, count_by, sum_by}
use Rattle.std.specs.List.{flat_map}
use Rattle.agent_settings.specs.declared.config.Config.{Config}
use Rattle.agent_events.specs.declared.events.Input.{Input}
use Rattle.agent_events.specs.declared.events.Output.{Output}
use Rattle.agent_core.specs.Places.{Event, Place}
use Rattle.agent_core.specs.History.{place}
use Rattle.printed_lines.specs.Text.{end_line, is_drop, is_reply, is_send, output_line}
use Rattle.transcript.specs.declared.line.Line.{Line}
use Rattle.transcript_runs.specs.Runs.{Stage, Telling, first_stage, inputs_told, line_told, lines_told, places_in, stage_after}

-- what goes out for an event behind these places, on the line with this number
abbrev pub event_text : ℕ → Config → List Place → Event → List ℕ
event_text number config ps e = flat_map (output_line number) (place config ps e).outputs

-- and for the inputs of a line, for a line and for lines
abbrev pub inputs_text : ℕ → Config → List Place → ℕ → List Input → List ℕ
inputs_text number config ps moment inputs = inputs_told event_text number config ps moment inputs

abbrev pub printed_for : Stage → Line → List ℕ
printed_for stage said = line_told event_text stage said

abbrev pub printed_for_lines : Stage → List Line → List ℕ
printed_for_lines stage lines = lines_told event_text stage lines

-- How many outputs of a kind went out. A count stands still at the end of 64 bits.
abbrev pub outputs_of : (Output → Bool) → List Place → ℕ
outputs_of kind ps = min (sum_by (λ p. count_by kind p.outputs) ps) (2 ^ 64 - 1)

-- the last line
abbrev pub counts_text : List Place → List ℕ
counts_text ps = end_line (outputs_of is_reply ps) (outputs_of is_send ps) (outputs_of is_drop ps)

abbrev pub end_text : Stage → List ℕ
end_text stage = counts_text (places_in stage)

abbrev pub replay_telling : Telling
replay_telling = record { text = event_text; end = end_text }

-- what a transcript of these lines prints
abbrev pub transcript_text : List Line → List ℕ
transcript_text lines = printed_for_lines first_stage lines ++ end_text (stage_after first_stage lines)
