-- Settings and inputs that are told as lines, and read again (profile).
use Rattle.std.specs.Prelude.{◌≡◌, ◌≢◌, ℕ, ◌<◌, ◌≤◌, ◌^◌, Bool, true, false, List, [], ◌∷◌, ◌++◌, length, map, Some, None, IsSome, All}
use Rattle.std.specs.List.{AllByRecursion as Each, concat, flat_map, join_with_byte}
use Rattle.wire_core.specs.Counts.{one_more}
use Rattle.wire_core.specs.Numbers.{AreOctets}
use Rattle.diameter_message.specs.Framing.{stream_fault}
use Rattle.diameter_message.specs.Stream.{AreFrames, IsFrame}
use Rattle.agent_settings.specs.declared.client.Client.{Client}
use Rattle.agent_settings.specs.declared.config.Config.{Config}
use Rattle.agent_settings.specs.Config.{InLimits}
use Rattle.agent_events.specs.declared.events.Input.{Input}
use Rattle.agent_events.specs.declared.events.Input.TheVariants.{Datagram, Up, Ready, Message, Broken, Down, Tick, Drain, Leave}
use Rattle.printed_lines.specs.EventText.{event_line, event_words}
use Rattle.printed_lines.specs.SettingsText.{agent_words, client_words, settings_text}
use Rattle.transcript.specs.Reading.{At, IsTranscript, Said, read_from, start}
use Rattle.transcript.specs.declared.line.Line.{Line}
use Rattle.transcript.specs.declared.line.Line.TheVariants as line
use Rattle.transcript.specs.declared.position.Section.TheVariants.{Start, Settings}

-- an input that a line can tell: a datagram of UDP over IPv4, a message of the link, or any other
abbrev pub IsTellable : Input → Type 0
IsTellable (Datagram via address port octets) =
    (address < 2 ^ 32) × (port < 2 ^ 16) × AreOctets octets × (length octets ≤ 65535)
IsTellable (Message octets) = AreOctets octets × IsFrame octets
IsTellable input = Unit {0}

-- behind a fault of the stream neither a message nor a fault comes before the next link
abbrev pub MayCome : Bool → Input → Type 0
MayCome true (Message octets) = ⊥
MayCome true (Broken fault) = ⊥
MayCome broken input = Unit {0}

abbrev pub is_broken_after : Bool → Input → Bool
is_broken_after broken Up = false
is_broken_after broken Ready = false
is_broken_after broken (Broken fault) = true
is_broken_after broken input = broken

-- inputs with their moments that lines can tell, one after the other
abbrev pub AreTellable : Bool → List (ℕ × Input) → Type 0
AreTellable broken [] = Unit {0}
AreTellable broken (e ∷ events) =
    (e.0 < 2 ^ 64) × IsTellable e.1 × MayCome broken e.1 × AreTellable (is_broken_after broken e.1) events

-- their lines, without the ends
abbrev pub told_lines : List (ℕ × Input) → List (List ℕ)
told_lines events = map (λ e. join_with_byte 32 (event_words e.0 e.1)) events

-- what these lines say behind so many others
abbrev pub says_behind : ℕ → List (ℕ × Input) → List Line
says_behind lines [] = []
says_behind lines (e ∷ events) = line.Event (one_more lines) e.0 (e.1 ∷ []) ∷ says_behind (one_more lines) events

-- the octets of a stream are whole messages, or show a fault
abbrev pub IsCut : Bool → List ℕ → Type 0
IsCut false stream = (messages : List (List ℕ)) × AreFrames messages × (stream ≡ concat messages)
IsCut true stream = IsSome (stream_fault stream)

-- behind the settings, inputs that lines tell are read from them
abbrev pub EventLinesAreRead : Type 0
EventLinesAreRead = (at : At) (broken : Bool) (events : List (ℕ × Input)) → at.section ≢ Start → IsCut broken at.stream
    → AreTellable broken events
    → read_from at (told_lines events) ≡ record { lines = says_behind at.lines events; stop = None }

-- ---- the settings before them

-- a client whose line tells it: 32 bits are an address, and the secret is octets
abbrev pub IsTellableClient : Client → Type 0
IsTellableClient client = (client.address < 2 ^ 32) × AreOctets client.secret × All (λ address. address < 2 ^ 32) client.nas

-- settings whose lines tell them: they are in limits and have a boot
pub record AreTellableSettings (config : Config) (boot : ℕ) : Type 0 where
  pub limits : InLimits config
  pub booted : config.boot ≡ Some boot
  pub boot_fits : boot < 2 ^ 32
  pub address : config.address < 2 ^ 32
  pub clients : Each IsTellableClient config.clients

-- their lines, without the ends
abbrev pub client_lines : List Client → List (List ℕ)
client_lines clients = map (λ client. join_with_byte 32 (client_words client)) clients

abbrev pub settings_lines : Config → List (List ℕ)
settings_lines config = join_with_byte 32 (agent_words config) ∷ client_lines config.clients

-- what client lines say behind so many others, and how many lines there are with them
abbrev pub clients_say : ℕ → List Client → List Line
clients_say lines [] = []
clients_say lines (client ∷ clients) = line.Client (one_more lines) client ∷ clients_say (one_more lines) clients

abbrev pub lines_with : ℕ → List Client → ℕ
lines_with lines [] = lines
lines_with lines (client ∷ clients) = lines_with (one_more lines) clients

abbrev pub settings_say : Config → List Line
settings_say config = line.Agent 1 (record config { clients = [] }) ∷ clients_say 1 config.clients

-- where the line behind them stands
abbrev pub behind_settings : Config → At
behind_settings config = record {
  controls = false;
  section = Settings;
  addresses = map (λ client. client.address) config.clients;
  stream = [];
  lines = lines_with 1 config.clients;
}

-- these lines say the first, and others the rest
abbrev pub says_before : List Line → Said → Said
says_before first rest = record { lines = first ++ rest.lines; stop = rest.stop }

-- settings that lines tell are read from them, whatever follows
abbrev pub SettingsLinesAreRead : Type 0
SettingsLinesAreRead = (config : Config) (boot : ℕ) (more : List (List ℕ)) → AreTellableSettings config boot
    → read_from start (settings_lines config ++ more) ≡ says_before (settings_say config) (read_from (behind_settings config) more)

-- ---- a record

-- the lines of the settings, and then those of the inputs, each with its end
abbrev pub record_text : Config → List (ℕ × Input) → List ℕ
record_text config events = settings_text config ++ flat_map (λ e. event_line e.0 e.1) events

-- such a text is a transcript, which says the settings and then each input at its moment
abbrev pub RecordsAreTranscripts : Type 0
RecordsAreTranscripts = (config : Config) (boot : ℕ) (events : List (ℕ × Input)) → AreTellableSettings config boot → AreTellable false events
    → IsTranscript (record_text config events) (settings_say config ++ says_behind (lines_with 1 config.clients) events)
