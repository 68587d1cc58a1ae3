-- A `link` line whose octets are cut in two.
use Rattle.std.specs.Prelude.{◌≡◌, ℕ, Bool, ◌<◌, List, [], ◌∷◌, ◌++◌, length, Some, None}
use Rattle.agent_settings.specs.declared.config.Config.{Config}
use Rattle.agent_events.specs.declared.events.Input.{Input}
use Rattle.agent_events.specs.declared.events.Output.{Output}
use Rattle.agent_core.specs.Places.{Place}
use Rattle.agent_core.specs.History.{place}
use Rattle.printed_lines.specs.EventText.{link_line}
use Rattle.transcript.specs.Grammar.{IsHex, IsNumber}
use Rattle.transcript.specs.Reading.{Said, beginning, read_from}
use Rattle.transcript.specs.Told.{given_by}
use Rattle.transcript_runs.specs.Runs.{Running, Settings, Stage, event_at, first_stage, follow, stage_after}
use Rattle.transcript.specs.declared.line.Line.{Line}
use Rattle.transcript.specs.declared.line.Line.TheVariants as line

-- ---- what goes out, without the numbers of lines

-- the outputs of inputs of one moment
abbrev pub inputs_outputs : Config → List Place → ℕ → List Input → List Output
inputs_outputs config ps moment [] = []
inputs_outputs config ps moment (x ∷ xs) =
    (place config ps (event_at moment x)).outputs ++ inputs_outputs config (place config ps (event_at moment x) ∷ ps) moment xs

abbrev pub line_outputs : Stage → Line → List Output
line_outputs (Settings told) (line.Agent number config) = []
line_outputs (Settings told) (line.Client number client) = []
line_outputs (Settings None) (line.Event number moment inputs) = []
line_outputs (Settings (Some config)) (line.Event number moment inputs) = inputs_outputs config [] moment inputs
line_outputs (Settings told) (line.Control number moment address port octets) = []
line_outputs (Running config ps) (line.Agent number other) = []
line_outputs (Running config ps) (line.Client number client) = []
line_outputs (Running config ps) (line.Event number moment inputs) = inputs_outputs config ps moment inputs
line_outputs (Running config ps) (line.Control number moment address port octets) = []

abbrev pub outputs_of_lines : Stage → List Line → List Output
outputs_of_lines stage lines = given_by follow line_outputs stage lines

-- ---- the cut

-- no line is bad here either, and all lines make the same of the agent and have the same outputs
pub record GivesSame (said other : Said) : Type 0 where
  pub sound : other.stop ≡ None
  pub stage : stage_after first_stage other.lines ≡ stage_after first_stage said.lines
  pub outputs : outputs_of_lines first_stage other.lines ≡ outputs_of_lines first_stage said.lines

-- a transcript with a line of the octets of both words, some in each, and the same one with two lines of the same moment
-- in its place, whether control lines may stand or not
abbrev pub LinkLinesCanBeCut : Type 0
LinkLinesCanBeCut = (controls : Bool) (before after : List (List ℕ)) (moment a b x y : List ℕ) (m : ℕ)
    → IsNumber 18446744073709551615 moment m → IsHex a x → IsHex b y → 0 < length x → 0 < length y
    → (read_from (beginning controls) (before ++ link_line moment (a ++ b) ∷ after)).stop ≡ None
    → GivesSame (read_from (beginning controls) (before ++ link_line moment (a ++ b) ∷ after))
    (read_from (beginning controls) (before ++ link_line moment a ∷ link_line moment b ∷ after))
