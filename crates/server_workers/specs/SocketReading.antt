-- What the reader of a socket did: by the turns that it took itself, and by what its socket received and was handed.
use Rattle.std.specs.Prelude.{◌≡◌, ℕ, ◌+◌, ◌-◌, ◌^◌, ◌<◌, ◌≤◌, ◌==◌, ◌⊎◌, min, Bool, true, false, ◌||◌, List, [], ◌∷◌, flat_map, All, Option, Some, None, MatchBool}
use Rattle.wire_core.specs.Counts.{Rose}
use Rattle.radius_packet.specs.declared.reasons.Via.{Via}
use Rattle.peer_machine.specs.declared.LinkCause.{LinkCause}
use Rattle.agent_events.specs.declared.events.Input.{Input}
use Rattle.agent_events.specs.declared.events.Input.TheVariants as inputs
use Rattle.turnstile.specs.declared.view.Known.{Known}
use Rattle.wire_devices.specs.declared.devices.Datagram.{Datagram}
use Rattle.wire_devices.specs.Sockets.{Socket, datagram}
use Rattle.wire_devices.specs.Telling.{Adds}
use Rattle.server_workers.specs.declared.heard.Heard.{Heard}
use Rattle.server_workers.specs.declared.socket_reader.ReadCounts.{ReadCounts}
use Rattle.server_workers.specs.Entries.{EndsWith, HasLeave, Less, RunTurn, is_final, replies, ticks}
use Rattle.server_workers.specs.Going.{Went}

-- ---- turns

-- the input that a datagram is on a port
abbrev pub input_of : Via → Datagram → Input
input_of via d = inputs.Datagram via d.address d.port d.octets

-- the datagram that an input is of
abbrev pub datagram_in : Input → List Datagram
datagram_in (inputs.Datagram via address port octets) = datagram address port octets ∷ []
datagram_in ask = []

abbrev pub entry_datagram : RunTurn → List Datagram
entry_datagram None = []
entry_datagram (Some entry) = datagram_in entry.0

-- the datagrams that were entered, in order
abbrev pub datagrams : List RunTurn → List Datagram
datagrams turns = flat_map entry_datagram turns

-- What a reader asks: datagrams of its own port, Ticks, and where its receives failed 16 times in a row, a Leave.
abbrev pub SocketMayAsk : Via → ℕ → Input → Type 0
SocketMayAsk via row (inputs.Datagram port_via address port octets) = port_via ≡ via
SocketMayAsk via row inputs.Tick = Unit {0}
SocketMayAsk via row inputs.Leave = row ≡ 16
SocketMayAsk via row ask = ⊥

abbrev pub SocketMayTake : Via → ℕ → RunTurn → Type 0
SocketMayTake via row None = Unit {0}
SocketMayTake via row (Some entry) = SocketMayAsk via row entry.0

-- the link is closed, and won't be made again
abbrev pub is_closed_for_good : Option LinkCause → Bool
is_closed_for_good None = false
is_closed_for_good (Some cause) = is_final cause

-- after such an answer a reader stops
abbrev pub is_last : Heard → Bool
is_last heard = heard.finished || is_closed_for_good heard.closed

abbrev pub IsLast : RunTurn → Type 0
IsLast None = ⊥
IsLast (Some entry) = is_last entry.1 ≡ true

-- ---- a socket

-- What is counted now, where it still is, is more than before by so many, or by more.
pub record AddsAtLeast (before now : Option ℕ) (count : ℕ) : Type 0 where
  pub still : (n : ℕ) → now ≡ Some n → (m : ℕ) × (before ≡ Some m) × (m + count ≤ n)

-- the socket was handed these, and tells nothing else that is new but faults
pub record Hands (before now : Socket) (sent : List Datagram) : Type 0 where
  pub handed : Adds before.handed now.handed sent
  pub received : now.received ≡ before.received
  pub idle : now.idle ≡ before.idle
  pub row : now.row ≡ before.row
  pub port : now.port ≡ before.port
  pub grows : before.faults ≤ now.faults

-- ---- a reader

-- A reader of the socket of this port took these turns: each datagram that was received was entered, but for so many that
-- are lost, and what came of an entry was handed to the socket. The count of faults never fell, and it rose where more
-- receives in a row failed than before.
pub record ReadsDatagrams (via : Via) (mine : List RunTurn) (s t : Socket) (out : ℕ) : Type 0 where
  pub got : List Datagram
  pub received : Adds s.received t.received got
  pub entered : Less got (datagrams mine) out
  pub handed : Adds s.handed t.handed (replies mine)
  pub idle : AddsAtLeast s.idle t.idle (ticks mine)
  pub asks : All (SocketMayTake via t.row) mine
  pub grows : s.faults ≤ t.faults
  pub failed : s.row < t.row → Rose s.faults t.faults
  pub port : t.port ≡ s.port

-- 16 receives in a row failed and a Leave was entered, or the last turn is an entry after whose answer a reader stops
abbrev pub StopsReading : ℕ → List RunTurn → Type 0
StopsReading row mine = ((row ≡ 16) × HasLeave mine) ⊎ ((row < 16) × EndsWith IsLast mine)

-- the turns of a whole run
pub record ServedSocket (via : Via) (mine : List RunTurn) (s t : Socket) (out : ℕ) : Type 0 where
  pub reads : ReadsDatagrams via mine s t out
  pub last : StopsReading t.row mine

-- ---- with the pass, and what is counted

-- One look at the socket, and what follows from it; whether it was the last. What is lost is counted, up to 2^64 - 1.
pub record ReadsOnce {T : Type 0} (via : Via) (k l : Known T Input Heard) (s t : Socket) (before now : ReadCounts) (over : Bool) : Type 0 where
  pub mine : List RunTurn
  pub out : ℕ
  pub went : Went mine k l
  pub reads : ReadsDatagrams via mine s t out
  pub counted : now.lost ≡ min (before.lost + out) (2 ^ 64 - 1)
  pub row : now.row ≡ t.row
  pub last : MatchBool over (StopsReading t.row mine) (t.row < 16)

-- a whole run of a reader, how many datagrams it lost, and whether it ended since 16 receives in a row failed
pub record ReadsSocket {T : Type 0} (via : Via) (k l : Known T Input Heard) (s t : Socket) (lost : ℕ) (failed : Bool) : Type 0 where
  pub mine : List RunTurn
  pub out : ℕ
  pub went : Went mine k l
  pub served : ServedSocket via mine s t out
  pub lost_is : lost ≡ min out (2 ^ 64 - 1)
  pub fault : failed ≡ (t.row == 16)
