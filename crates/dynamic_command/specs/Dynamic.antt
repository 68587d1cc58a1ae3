-- What a transcript prints in which control lines may stand: its events come into the book and the core beside it, one after
-- another (profile).
use Rattle.std.specs.Prelude.{ℕ, ◌-◌, ◌^◌, Bool, true, false, List, [], ◌∷◌, ◌++◌, map, min, codes, count_by, sum_by, Option, Some, None, option_map}
use Rattle.std.specs.List.{flat_map}
use Rattle.agent_settings.specs.declared.client.Client.{Client}
use Rattle.agent_settings.specs.declared.config.Config.{Config}
use Rattle.agent_settings.specs.Config.{with_client}
use Rattle.session_book.specs.declared.events.BookInput.{BookInput}
use Rattle.session_book.specs.declared.events.BookInput.TheVariants as input
use Rattle.session_book.specs.declared.events.BookOutput.{BookOutput}
use Rattle.session_book.specs.declared.events.BookOutput.TheVariants.{Core, Control, Dropped}
use Rattle.session_book.specs.declared.events.BookReason.{BookReason}
use Rattle.session_book.specs.declared.events.BookReason.TheVariants.{AbortOpen, StrangeControl}
use Rattle.session_book.specs.Reasons.{reason_number}
use Rattle.session_book.specs.Places.{BookEvent, BookPlace}
use Rattle.session_book.specs.History.{place}
use Rattle.printed_lines.specs.Text as text
use Rattle.printed_lines.specs.Text.{output_line, control_line, drop_line, end_line_with_controls}
use Rattle.transcript.specs.Told as told
use Rattle.transcript.specs.Told.{Told, after_lines, given_by}
use Rattle.transcript.specs.declared.line.Line.{Line}
use Rattle.transcript.specs.declared.line.Line.TheVariants as line
use Rattle.text_commands.specs.Tasks.{Task}
use Rattle.text_commands.specs.Transcripts.{Rule, transcript_task}

-- ---- the lines that outputs are printed as

abbrev pub reason_name : BookReason → List ℕ
reason_name AbortOpen = codes "AbortOpen"
reason_name StrangeControl = codes "StrangeControl"

-- the line of an output of the input on this line
abbrev pub book_line : ℕ → BookOutput → List ℕ
book_line number (Core output) = output_line number output
book_line number (Control address port octets) = control_line number address port octets
book_line number (Dropped reason) = drop_line number (reason_number reason) (reason_name reason)

-- which outputs are counted: the book's own answers are sends, and its drops are drops
abbrev pub is_reply : BookOutput → Bool
is_reply (Core output) = text.is_reply output
is_reply output = false

abbrev pub is_send : BookOutput → Bool
is_send (Core output) = text.is_send output
is_send output = false

abbrev pub is_drop : BookOutput → Bool
is_drop (Core output) = text.is_drop output
is_drop (Control address port octets) = false
is_drop (Dropped reason) = true

abbrev pub is_control : BookOutput → Bool
is_control (Control address port octets) = true
is_control output = false

-- ---- inputs

abbrev pub event_at : ℕ → BookInput → BookEvent
event_at moment x = record { moment = moment; input = x }

-- the places after inputs of one moment
abbrev pub places_after : Config → List BookPlace → ℕ → List BookInput → List BookPlace
places_after config ps moment [] = ps
places_after config ps moment (x ∷ xs) = places_after config (place config ps (event_at moment x) ∷ ps) moment xs

-- and what they print, on the line with this number
abbrev pub inputs_text : ℕ → Config → List BookPlace → ℕ → List BookInput → List ℕ
inputs_text number config ps moment [] = []
inputs_text number config ps moment (x ∷ xs) =
    flat_map (book_line number) (place config ps (event_at moment x)).outputs
    ++ inputs_text number config (place config ps (event_at moment x) ∷ ps) moment xs

-- ---- one line

-- what the lines so far made of the book: the settings as far as they were told, or settings and the places of a history,
-- the newest first
pub data Stage : Type 0 where
  Settings : Option Config → Stage
  Running : Config → List BookPlace → Stage

-- a run begins with the first line that is no settings line
abbrev pub begun : Stage → Stage
begun (Settings None) = Settings None
begun (Settings (Some config)) = Running config []
begun (Running config ps) = Running config ps

abbrev pub ran : Stage → ℕ → List BookInput → Stage
ran (Settings before) moment inputs = Settings before
ran (Running config ps) moment inputs = Running config (places_after config ps moment inputs)

abbrev pub ran_text : ℕ → Stage → ℕ → List BookInput → List ℕ
ran_text number (Settings before) moment inputs = []
ran_text number (Running config ps) moment inputs = inputs_text number config ps moment inputs

abbrev pub with_settings : Stage → Config → Stage
with_settings (Settings before) config = Settings (Some config)
with_settings (Running old ps) config = Running old ps

abbrev pub joined : Stage → Client → Stage
joined (Settings before) client = Settings (option_map (λ config. with_client config client) before)
joined (Running config ps) client = Running config ps

-- the inputs of an event line come into the book, which gives the core what it doesn't take for itself; a control line is one
-- input of the book
abbrev pub stage_on : Stage → Line → Stage
stage_on stage (line.Agent number config) = with_settings stage config
stage_on stage (line.Client number client) = joined stage client
stage_on stage (line.Event number moment inputs) = ran (begun stage) moment (map input.Core inputs)
stage_on stage (line.Control number moment address port octets) = ran (begun stage) moment (input.Control address port octets ∷ [])

abbrev pub text_of : Stage → Line → List ℕ
text_of stage (line.Agent number config) = []
text_of stage (line.Client number client) = []
text_of stage (line.Event number moment inputs) = ran_text number (begun stage) moment (map input.Core inputs)
text_of stage (line.Control number moment address port octets) =
    ran_text number (begun stage) moment (input.Control address port octets ∷ [])

-- what the lines told, apart from what a run made of them
abbrev pub told_of : Stage → Told
told_of (Settings before) = told.Settings before
told_of (Running config ps) = told.Begun

-- ---- whole transcripts

abbrev pub first_stage : Stage
first_stage = Settings None

abbrev pub stage_after : Stage → List Line → Stage
stage_after stage lines = after_lines stage_on stage lines

abbrev pub lines_text : Stage → List Line → List ℕ
lines_text stage lines = given_by stage_on text_of stage lines

abbrev pub places_in : Stage → List BookPlace
places_in (Settings before) = []
places_in (Running config ps) = ps

-- How many outputs of a kind went out. A count stands still at the end of 64 bits.
abbrev pub outputs_of : (BookOutput → Bool) → List BookPlace → ℕ
outputs_of kind ps = min (sum_by (λ p. count_by kind p.outputs) ps) (2 ^ 64 - 1)

abbrev pub end_text : Stage → List ℕ
end_text stage =
    end_line_with_controls (outputs_of is_reply (places_in stage)) (outputs_of is_send (places_in stage))
    (outputs_of is_drop (places_in stage)) (outputs_of is_control (places_in stage))

-- what the lines print, each followed after those before it
abbrev pub dynamic_rule : Rule
dynamic_rule = record {
  controls = true;
  text = λ lines. lines_text first_stage lines;
  close = λ lines. end_text (stage_after first_stage lines);
}

-- the lines of a transcript in which control lines may stand, and what they print
abbrev pub dynamic_task : Task
dynamic_task = transcript_task dynamic_rule
