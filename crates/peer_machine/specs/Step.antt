-- One step of the link (RFC 6733, sections 5.3 to 5.5; profile).
use Rattle.std.specs.Prelude.{ℕ, ◌+◌, ◌^◌, ◌<◌, ◌≤◌, Bool, true, false, List, length, Option, Some, None}
use Rattle.radius_packet.specs.declared.reasons.Reason.{Reason}
use Rattle.diameter_message.specs.Message.{MessageParts}
use Rattle.diameter_message.specs.View.{message_view}
use Rattle.peer_machine.specs.declared.Phase.TheVariants.{Closed}
use Rattle.peer_machine.specs.declared.LinkCause.{LinkCause}
use Rattle.peer_machine.specs.declared.messages.Names.{Names}
use Rattle.peer_machine.specs.declared.peer.PeerInput.{PeerInput}
use Rattle.peer_machine.specs.declared.peer.PeerInput.TheVariants.{Up, Ready, Message, Broken, Down, Tick, Leave}
use Rattle.peer_machine.specs.declared.peer.PeerOutput.{PeerOutput}
use Rattle.peer_machine.specs.declared.words.Event.{Event}
use Rattle.peer_machine.specs.declared.words.Event.TheVariants.{Opens, Serves, Says, Breaks, Ends, Ticks, Leaves}
use Rattle.peer_machine.specs.declared.words.Act.{Act}
use Rattle.peer_machine.specs.declared.words.Act.TheVariants.{Discard, Pass, Close, Request, Answer, AnswerAndClose}
use Rattle.peer_machine.specs.declared.words.LinkState.{LinkState}
use Rattle.peer_machine.specs.Messages.{request_text, answer_text}
use Rattle.peer_machine.specs.Reading.{said_in}
use Rattle.peer_machine.specs.Rules.{act_on, if_room, after_event, after}

-- the agent's names, the watchdog's time, and the link
pub record PeerParts : Type 0 where
  pub names : Names
  pub watchdog : ℕ
  pub link : LinkState

-- no link began
abbrev pub unlinked : LinkState
unlinked = record { phase = Closed; number = 0; heard = 0; asked = None; leave = 0; requests = 0 }

abbrev pub fresh_peer : List ℕ → List ℕ → ℕ → ℕ → ℕ → PeerParts
fresh_peer host realm address boot watchdog = record {
  names = record { host = host; realm = realm; address = address; boot = boot };
  watchdog = watchdog;
  link = unlinked;
}

-- the names fit an AVP, and the count of requests a hop
pub record IsPeer (names : Names) (link : LinkState) : Type 0 where
  pub host : length names.host ≤ 255
  pub realm : length names.realm ≤ 255
  pub requests : link.requests < 2 ^ 31

-- ---- what comes in

abbrev pub event_of : PeerInput → Event
event_of Up = Opens
event_of Ready = Serves
event_of (Message m) = Says (said_in (message_view m.now))
event_of (Broken fault) = Breaks fault
event_of Down = Ends
event_of Tick = Ticks
event_of Leave = Leaves

abbrev pub message_in : PeerInput → Option MessageParts
message_in (Message m) = Some (message_view m.now)
message_in input = None

-- a message's command is one that a header can hold
abbrev pub HasCommand : Option MessageParts → Type 0
HasCommand None = Unit {0}
HasCommand (Some m) = m.header.command < 2 ^ 24

-- ---- what goes out

abbrev pub base_answer : Names → Option MessageParts → ℕ → Bool → Option (List ℕ)
base_answer names None code error = None
base_answer names (Some m) code error = Some (answer_text names m code error)

-- the octets that are sent; a request has the next number of the link as its hop
abbrev pub sent : Names → LinkState → ℕ → Option MessageParts → Act → Option (List ℕ)
sent names l end m (Request request) = Some (request_text names request (2147483648 + l.requests) end)
sent names l end m (Answer code error) = base_answer names m code error
sent names l end m (AnswerAndClose code cause) = base_answer names m code false
sent names l end m act = None

abbrev pub is_request : Act → Bool
is_request (Request request) = true
is_request act = false

abbrev pub closed_by : Act → Option LinkCause
closed_by (Close cause) = Some cause
closed_by (AnswerAndClose code cause) = Some cause
closed_by act = None

abbrev pub dropped_by : Act → Option Reason
dropped_by (Discard reason) = Some reason
dropped_by act = None

abbrev pub is_pass : Act → Bool
is_pass Pass = true
is_pass act = false

abbrev pub output_of : Option (List ℕ) → Act → PeerOutput
output_of send act = record {
  send = send;
  request = is_request act;
  closed = closed_by act;
  dropped = dropped_by act;
  application = is_pass act;
}

-- ---- the step

abbrev pub act_at : PeerParts → ℕ → Event → Bool → Act
act_at p moment event spare = if_room spare (act_on p.link p.watchdog moment event)

abbrev pub link_at : PeerParts → ℕ → Event → LinkState
link_at p moment event = after_event p.link moment event

-- what goes out at this effective moment, where `spare` says that one more message has room, and `end` is the
-- End-to-End Identifier of a request
abbrev pub output_at : PeerParts → ℕ → PeerInput → Bool → ℕ → PeerOutput
output_at p moment input spare end =
    let act = act_at p moment (event_of input) spare in
    output_of (sent p.names (link_at p moment (event_of input)) end (message_in input) act) act

-- and the peer after it
abbrev pub peer_after : PeerParts → ℕ → PeerInput → Bool → PeerParts
peer_after p moment input spare =
    record p { link = after (link_at p moment (event_of input)) moment (act_at p moment (event_of input) spare) }
