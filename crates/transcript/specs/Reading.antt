-- What a transcript's lines say, one after another (profile).
use Rattle.std.specs.Prelude.{◌≡◌, ℕ, Bool, true, false, ◌==◌, nat_lt, List, [], ◌∷◌, ◌++◌, length, Option, Some, None, Result, Ok, Err, if◌then◌else◌}
use Rattle.std.specs.List.{list_any}
use Rattle.wire_core.specs.Counts.{one_more}
use Rattle.agent_settings.specs.declared.client.Client.{Client}
use Rattle.agent_settings.specs.declared.config.Config.{Config}
use Rattle.text_lines.specs.Stops.{Bad}
use Rattle.text_lines.specs.Words.{lines_of, words_of}
use Rattle.transcript.specs.Kinds.{kind_of}
use Rattle.transcript.specs.Lines.{settings_of, client_of, event_of, control_of}
use Rattle.transcript.specs.Inputs.{inputs_of, stream_after}
use Rattle.transcript.specs.declared.control.Control.{Control}
use Rattle.transcript.specs.declared.kind.Kind.{Kind}
use Rattle.transcript.specs.declared.kind.Kind.TheVariants as kind
use Rattle.transcript.specs.declared.happening.Happening.{Happening}
use Rattle.transcript.specs.declared.line.Line.{Line}
use Rattle.transcript.specs.declared.line.Line.TheVariants as line
use Rattle.transcript.specs.declared.position.Section.{Section}
use Rattle.transcript.specs.declared.position.Section.TheVariants.{Start, Settings, Events}

-- Where a line stands: whether control lines may stand in the transcript, behind which lines it stands, which addresses the
-- clients so far have, the octets of the `link` lines since the last `up` or `ready` line, and how many lines came before.
pub record At : Type 0 where
  pub controls : Bool
  pub section : Section
  pub addresses : List ℕ
  pub stream : List ℕ
  pub lines : ℕ

abbrev pub beginning : Bool → At
beginning controls = record { controls = controls; section = Start; addresses = []; stream = []; lines = 0 }

abbrev pub start : At
start = beginning false

-- of a transcript in which control lines may stand
abbrev pub start_with_control : At
start_with_control = beginning true

-- the agent line comes first, client lines follow directly, at most 1,024, and all further lines are events, or control
-- lines where these may stand
abbrev pub may_stand : Bool → Section → ℕ → Kind → Bool
may_stand controls Start clients kind.Agent = true
may_stand controls Start clients kind.Client = false
may_stand controls Start clients (kind.Event name) = false
may_stand controls Start clients kind.Control = false
may_stand controls Settings clients kind.Agent = false
may_stand controls Settings clients kind.Client = nat_lt clients 1024
may_stand controls Settings clients (kind.Event name) = true
may_stand controls Settings clients kind.Control = controls
may_stand controls Events clients kind.Agent = false
may_stand controls Events clients kind.Client = false
may_stand controls Events clients (kind.Event name) = true
may_stand controls Events clients kind.Control = controls

-- what a line says and where the next one stands, or the reason why it is bad
abbrev pub Step : Type 0
Step = Result (Line × At) ℕ

-- 3: a word isn't of its kind or not within its limits
abbrev pub agent_step : At → Option Config → Step
agent_step at None = Err 3
agent_step at (Some config) =
    Ok (line.Agent (one_more at.lines) config, record at { section = Settings; lines = one_more at.lines })

-- 4: the address came before
abbrev pub client_step : At → Option Client → Step
client_step at None = Err 3
client_step at (Some client) =
    if list_any (λ address. address == client.address) at.addresses then Err 4
    else Ok (
      line.Client (one_more at.lines) client,
      record at { addresses = at.addresses ++ client.address ∷ []; lines = one_more at.lines },
    )

abbrev pub event_step : At → Option (ℕ × Happening) → Step
event_step at None = Err 3
event_step at (Some told) =
    Ok (
      line.Event (one_more at.lines) told.0 (inputs_of at.stream told.1),
      record at { section = Events; stream = stream_after at.stream told.1; lines = one_more at.lines },
    )

-- the stream of the link goes on
abbrev pub control_step : At → Option Control → Step
control_step at None = Err 3
control_step at (Some told) =
    Ok (
      line.Control (one_more at.lines) told.moment told.address told.port told.octets,
      record at { section = Events; lines = one_more at.lines },
    )

abbrev pub kind_step : At → Kind → List (List ℕ) → Step
kind_step at kind.Agent words = agent_step at (settings_of words)
kind_step at kind.Client words = client_step at (client_of words)
kind_step at (kind.Event name) words = event_step at (event_of name words)
kind_step at kind.Control words = control_step at (control_of words)

-- 2: the count of words and the fixed words are those of no line that may stand there
abbrev pub words_step : At → Option Kind → List (List ℕ) → Step
words_step at None words = Err 2
words_step at (Some found) words =
    if may_stand at.controls at.section (length at.addresses) found then kind_step at found words else Err 2

-- 1: the line has more than 140,000 octets
abbrev pub read_line : At → List ℕ → Step
read_line at octets =
    if nat_lt 140000 (length octets) then Err 1 else words_step at (kind_of (words_of octets)) (words_of octets)

-- ---- whole texts

-- what lines say, up to the first bad one
pub record Said : Type 0 where
  pub lines : List Line
  pub stop : Option Bad

abbrev pub said_on : At → Step → (At → Said) → Said
said_on at (Err reason) others = record { lines = []; stop = Some (record { line = one_more at.lines; reason = reason }) }
said_on at (Ok step) others = record { lines = step.0 ∷ (others step.1).lines; stop = (others step.1).stop }

abbrev pub read_from : At → List (List ℕ) → Said
read_from at [] = record { lines = []; stop = None }
read_from at (octets ∷ more) = said_on at (read_line at octets) (λ next. read_from next more)

-- what a text says
abbrev pub said_in_text : List ℕ → Said
said_in_text text = read_from start (lines_of text)

-- the text is a transcript of these lines
abbrev pub IsTranscript : List ℕ → List Line → Type 0
IsTranscript text lines = said_in_text text ≡ record { lines = lines; stop = None }
