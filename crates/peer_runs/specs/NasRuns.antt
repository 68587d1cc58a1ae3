-- How a run of clients ends, one for each line of its input: by what the clock and the socket told, and by what was written.
use Rattle.std.specs.Prelude.{◌≡◌, ℕ, ◌⊎◌, List, [], ◌∷◌, ◌++◌, flat_map, codes, Option, Some, None, Result, Ok, Err}
use Rattle.std.specs.List.{AllByRecursion}
use Rattle.std.specs.Option.{option_to_list}
use Rattle.hex.specs.Hex.{encode_lower}
use Rattle.wire_core.specs.Counts.{one_more}
use Rattle.wire_core.specs.Sink.{Appends, AppendsPrefix}
use Rattle.wire_devices.specs.Sockets.{Socket}
use Rattle.agent_status.specs.declared.status.Status.{Status}
use Rattle.agent_status.specs.declared.status.Status.TheVariants.{BadTranscript, ReadFault, WriteFault, OutOfMemory, DatagramFault, TooLong}
use Rattle.text_lines.specs.Stops.{Bad}
use Rattle.text_lines.specs.Words.{lines_of}
use Rattle.text_lines.specs.declared.raw_lines.RawFault.{RawFault}
use Rattle.text_lines.specs.declared.raw_lines.RawFault.TheVariants as raw
use Rattle.test_peers.specs.PacketLines.{packet_in}
use Rattle.text_commands.specs.Shown.{Shown}
use Rattle.text_commands.specs.Tasks.{EndsBy, Task, WritesPart}
use Rattle.peer_runs.specs.declared.asking.Target.{Target}
use Rattle.peer_runs.specs.Asking.{Asked, AskingTold, Asks, IsAnswered, IsUnanswered, answer_of}

-- ---- lines

-- 'reply HEX', or 'none'
abbrev pub answer_text : Option (List ℕ) → List ℕ
answer_text None = codes "none" ++ 10 ∷ []
answer_text (Some octets) = codes "reply " ++ encode_lower octets ++ 10 ∷ []

-- the line of a client
abbrev pub line_by : ℕ → Asked → List ℕ
line_by patience client = answer_text (answer_of patience client)

-- no line has the number 0: this stands for a line for which there is no client
abbrev pub unasked : Bad
unasked = record { line = 0; reason = 0 }

-- the first line is bad, or it takes the first client
abbrev pub nas_on : ℕ → ℕ → Result (List ℕ) ℕ → List Asked → (List Asked → Shown) → Shown
nas_on patience before (Err reason) clients others =
    record { text = []; stop = Some (record { line = one_more before; reason = reason }) }
nas_on patience before (Ok packet) [] others = record { text = []; stop = Some unasked }
nas_on patience before (Ok packet) (client ∷ clients) others =
    record { text = line_by patience client ++ (others clients).text; stop = (others clients).stop }

-- so many lines came before
abbrev pub nas_from : ℕ → ℕ → List Asked → List (List ℕ) → Shown
nas_from patience before clients [] = record { text = []; stop = None }
nas_from patience before clients (line ∷ lines) =
    nas_on patience before (packet_in line) clients (λ left. nas_from patience (one_more before) left lines)

-- The lines of these clients, one for each line of the input, up to the first that is bad or has none. Nothing stands after
-- them.
abbrev pub nas_task : ℕ → List Asked → Task
nas_task patience clients = record {
  longest = 140000;
  stop = λ lines. (nas_from patience 0 clients lines).stop;
  text = λ lines. (nas_from patience 0 clients lines).text;
  close = λ lines. [];
}

-- each of these clients has the packet of its line
abbrev pub AreFor : List Asked → List (List ℕ) → Type 0
AreFor [] lines = Unit {0}
AreFor (client ∷ clients) [] = ⊥
AreFor (client ∷ clients) (line ∷ lines) = (packet_in line ≡ Ok client.packet) × AreFor clients lines

-- ---- the run

-- a client is broken off where the socket fails, and nowhere else
abbrev pub IsBrokenOff : Status → ℕ → Option Asked → Type 0
IsBrokenOff DatagramFault patience None = ⊥
IsBrokenOff DatagramFault patience (Some client) = IsUnanswered patience client
IsBrokenOff status patience None = Unit {0}
IsBrokenOff status patience (Some client) = ⊥

-- what was taken of the input and what was written, by the status
abbrev pub NasBy : Status → ℕ → List Asked → List ℕ → Option (List ℕ) → Option (List ℕ) → Option (List ℕ) → Type 0
NasBy DatagramFault patience clients input left before now =
    WritesPart (nas_task patience clients) input left before now × Appends before now (flat_map (line_by patience) clients)
NasBy status patience clients input left before now = EndsBy (nas_task patience clients) status input left before now

-- What the input, the output, the clock and the socket of a run tell before it, and after it (').
pub record NasTold : Type 0 where
  pub input : Option (List ℕ)
  pub input' : Option (List ℕ)
  pub output : Option (List ℕ)
  pub output' : Option (List ℕ)
  pub clock : Option (List ℕ)
  pub clock' : Option (List ℕ)
  pub socket : Socket
  pub socket' : Socket

-- Clients asked one after another, each for its line, each of them to its end but for a last one that may be broken off.
pub record NasEnds (status : Status) (place : Target) (patience : ℕ) (run : NasTold) : Type 0 where
  pub clients : List Asked
  pub last : Option Asked
  pub answered : AllByRecursion (IsAnswered patience) clients
  pub broken_off : IsBrokenOff status patience last
  pub told : Asks place patience (clients ++ option_to_list last) (record {
    clock = run.clock;
    clock' = run.clock';
    socket = run.socket;
    socket' = run.socket';
  })
  pub lines : (X : List ℕ) → run.input ≡ Some X → AreFor (clients ++ option_to_list last) (lines_of X)
  pub ends : (X : List ℕ) → run.input ≡ Some X → NasBy status patience clients X run.input' run.output run.output'

-- ---- one line

-- this client asked for this line, to its end
pub record AsksFor (place : Target) (patience : ℕ) (line : List ℕ) (client : Asked) (tells : AskingTold) : Type 0 where
  pub packet : packet_in line ≡ Ok client.packet
  pub answered : IsAnswered patience client
  pub told : Asks place patience (client ∷ []) tells

-- the same of one that was broken off
pub record BreaksOffFor (place : Target) (patience : ℕ) (line : List ℕ) (client : Asked) (tells : AskingTold) : Type 0 where
  pub packet : packet_in line ≡ Ok client.packet
  pub unanswered : IsUnanswered patience client
  pub told : Asks place patience (client ∷ []) tells

-- why a line has no text: it is bad, memory is wanting, or its client was broken off
abbrev pub AsksNot : Status → Target → ℕ → ℕ → List ℕ → AskingTold → Type 0
AsksNot (BadTranscript bad reason) place patience number line tells =
    (bad ≡ number) × (packet_in line ≡ Err reason) × Asks place patience [] tells
AsksNot OutOfMemory place patience number line tells =
    Asks place patience [] tells ⊎ ((client : Asked) × AsksFor place patience line client tells)
AsksNot DatagramFault place patience number line tells =
    (client : Asked) × BreaksOffFor place patience line client tells
AsksNot status place patience number line tells = ⊥

-- the text of the line of this number
abbrev pub AsksText : Result (List ℕ) Status → Target → ℕ → ℕ → List ℕ → AskingTold → Type 0
AsksText (Ok text) place patience number line tells =
    (client : Asked) × (text ≡ line_by patience client) × AsksFor place patience line client tells
AsksText (Err status) place patience number line tells = AsksNot status place patience number line tells

-- what was written for it
abbrev pub AsksLine : Result Unit Status → Target → ℕ → ℕ → List ℕ → Option (List ℕ) → Option (List ℕ) → AskingTold → Type 0
AsksLine (Ok done) place patience number line output output' tells =
    (client : Asked) × Appends output output' (line_by patience client) × AsksFor place patience line client tells
AsksLine (Err WriteFault) place patience number line output output' tells =
    (client : Asked) × AppendsPrefix output output' (line_by patience client) × AsksFor place patience line client tells
AsksLine (Err status) place patience number line output output' tells =
    (output' ≡ output) × AsksNot status place patience number line tells

-- ---- the reading

-- how the run ends where the line of this number can't be taken of the input
abbrev pub status_at : ℕ → RawFault → Status
status_at number raw.Read = ReadFault
status_at number raw.TooMuch = TooLong
status_at number raw.LongLine = BadTranscript number 1
status_at number raw.NoMemory = OutOfMemory
