-- What the lines of a transcript make of the agent, and what is told of each input (profile).
use Rattle.std.specs.Prelude.{ℕ, List, [], ◌∷◌, ◌++◌, Option, Some, None, option_map, false}
use Rattle.agent_settings.specs.declared.config.Config.{Config}
use Rattle.agent_settings.specs.Config.{with_client}
use Rattle.agent_events.specs.declared.events.Input.{Input}
use Rattle.agent_core.specs.Places.{Event, Place}
use Rattle.agent_core.specs.History.{place}
use Rattle.text_commands.specs.Transcripts.{Rule}
use Rattle.transcript.specs.declared.line.Line.{Line}
use Rattle.transcript.specs.declared.line.Line.TheVariants as line
use Rattle.transcript.specs.Told as told
use Rattle.transcript.specs.Told.{Told, after_lines, given_by}

-- ---- the agent

-- what the lines so far made of the agent: the settings as far as they were told, or settings and the places of a history,
-- the newest first
pub data Stage : Type 0 where
  Settings : Option Config → Stage
  Running : Config → List Place → Stage

abbrev pub event_at : ℕ → Input → Event
event_at moment x = record { moment = moment; input = x }

-- the places after inputs of one moment
abbrev pub places_after : Config → List Place → ℕ → List Input → List Place
places_after config ps moment [] = ps
places_after config ps moment (x ∷ xs) = places_after config (place config ps (event_at moment x) ∷ ps) moment xs

-- a control line is no input of the agent, but a run begins with it too
abbrev pub follow : Stage → Line → Stage
follow (Settings told) (line.Agent number config) = Settings (Some config)
follow (Settings told) (line.Client number client) = Settings (option_map (λ config. with_client config client) told)
follow (Settings None) (line.Event number moment inputs) = Settings None
follow (Settings (Some config)) (line.Event number moment inputs) = Running config (places_after config [] moment inputs)
follow (Settings None) (line.Control number moment address port octets) = Settings None
follow (Settings (Some config)) (line.Control number moment address port octets) = Running config []
follow (Running config ps) (line.Agent number other) = Running config ps
follow (Running config ps) (line.Client number client) = Running config ps
follow (Running config ps) (line.Event number moment inputs) = Running config (places_after config ps moment inputs)
follow (Running config ps) (line.Control number moment address port octets) = Running config ps

abbrev pub first_stage : Stage
first_stage = Settings None

abbrev pub stage_after : Stage → List Line → Stage
stage_after stage lines = after_lines follow stage lines

abbrev pub places_in : Stage → List Place
places_in (Settings told) = []
places_in (Running config ps) = ps

-- what the lines told, apart from what a run made of them
abbrev pub told_of : Stage → Told
told_of (Settings before) = told.Settings before
told_of (Running config ps) = told.Begun

-- ---- what is told

-- of an event behind these places, on the line with this number, and behind all of them
pub record Telling : Type 0 where
  pub text : ℕ → Config → List Place → Event → List ℕ
  pub end : Stage → List ℕ

module _ (text : ℕ → Config → List Place → Event → List ℕ) where
  -- of inputs of one moment, on the line with this number
  abbrev pub inputs_told : ℕ → Config → List Place → ℕ → List Input → List ℕ
  inputs_told number config ps moment [] = []
  inputs_told number config ps moment (x ∷ xs) =
      text number config ps (event_at moment x) ++ inputs_told number config (place config ps (event_at moment x) ∷ ps) moment xs

  -- of one line
  abbrev pub line_told : Stage → Line → List ℕ
  line_told (Settings told) (line.Agent number config) = []
  line_told (Settings told) (line.Client number client) = []
  line_told (Settings None) (line.Event number moment inputs) = []
  line_told (Settings (Some config)) (line.Event number moment inputs) = inputs_told number config [] moment inputs
  line_told (Settings told) (line.Control number moment address port octets) = []
  line_told (Running config ps) (line.Agent number other) = []
  line_told (Running config ps) (line.Client number client) = []
  line_told (Running config ps) (line.Event number moment inputs) = inputs_told number config ps moment inputs
  line_told (Running config ps) (line.Control number moment address port octets) = []

  abbrev pub lines_told : Stage → List Line → List ℕ
  lines_told stage lines = given_by follow line_told stage lines

-- what all lines give, each followed after those before it, and what stands behind them
abbrev pub rule_of : Telling → Rule
rule_of telling = record {
  controls = false;
  text = λ lines. lines_told telling.text first_stage lines;
  close = λ lines. telling.end (stage_after first_stage lines);
}
