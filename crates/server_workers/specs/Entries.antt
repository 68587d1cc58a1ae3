-- Turns of one number: what was asked, what came of it, and how often.
use Rattle.std.specs.Prelude.{◌≡◌, ℕ, ◌+◌, Bool, true, false, List, [], ◌∷◌, ◌++◌, flat_map, count_by, Option, Some, None}
use Rattle.radius_packet.specs.declared.reasons.Via.{Via}
use Rattle.radius_packet.specs.declared.reasons.Via.TheVariants.{Auth, Acct}
use Rattle.peer_machine.specs.declared.LinkCause.{LinkCause}
use Rattle.peer_machine.specs.declared.LinkCause.TheVariants as causes
use Rattle.wire_devices.specs.declared.devices.Datagram.{Datagram}
use Rattle.wire_devices.specs.Sockets.{datagram}
use Rattle.agent_events.specs.declared.events.Input.{Input}
use Rattle.agent_events.specs.declared.events.Input.TheVariants.{Down, Tick, Drain, Leave}
use Rattle.agent_events.specs.declared.events.Output.{Output}
use Rattle.agent_events.specs.declared.events.Output.TheVariants.{Reply, Send}
use Rattle.server_workers.specs.declared.heard.Heard.{Heard}

-- a turn: an ask with its answer, or blank
abbrev pub RunTurn : Type 0
RunTurn = Option (Input × Heard)

-- the turn of a visit, which was blank where memory was wanting
abbrev pub turn_of : Input → Option Heard → RunTurn
turn_of ask None = None
turn_of ask (Some heard) = Some (ask, heard)

-- ---- lists

-- the last of these has P
abbrev pub EndsWith : {A : Type 0} → (A → Type 0) → List A → Type 0
EndsWith {A} P xs = (front : List A) × (x : A) × (xs ≡ front ++ x ∷ []) × P x

-- the second list is the first, in order, less so many
pub data Less {A : Type 0} : List A → List A → ℕ → Type 0 where
  empty : Less [] [] 0
  keeps : (x : A) (xs ys : List A) (n : ℕ) → Less xs ys n → Less (x ∷ xs) (x ∷ ys) n
  loses : (x : A) (xs ys : List A) (n : ℕ) → Less xs ys n → Less (x ∷ xs) ys (n + 1)

-- ---- entries

abbrev pub EachEntry : (Input → Heard → Type 0) → List RunTurn → Type 0
EachEntry P [] = Unit {0}
EachEntry P (None ∷ turns) = EachEntry P turns
EachEntry P (Some entry ∷ turns) = P entry.0 entry.1 × EachEntry P turns

abbrev pub is_tick : Input → Bool
is_tick Tick = true
is_tick ask = false

abbrev pub is_down : Input → Bool
is_down Down = true
is_down ask = false

abbrev pub is_entry_of : (Input → Bool) → RunTurn → Bool
is_entry_of test None = false
is_entry_of test (Some entry) = test entry.0

-- how many entries are of a Tick or of a Down, and how many turns are blank
abbrev pub ticks : List RunTurn → ℕ
ticks turns = count_by (is_entry_of is_tick) turns

abbrev pub downs : List RunTurn → ℕ
downs turns = count_by (is_entry_of is_down) turns

abbrev pub is_blank : RunTurn → Bool
is_blank None = true
is_blank (Some entry) = false

abbrev pub blanks : List RunTurn → ℕ
blanks turns = count_by is_blank turns

-- ---- the agent's leave

-- a Leave was entered among these
abbrev pub HasLeave : List RunTurn → Type 0
HasLeave turns = (front back : List RunTurn) × ((left : Heard) × (turns ≡ front ++ Some (Leave, left) ∷ back))

abbrev pub AreBlank : List RunTurn → Type 0
AreBlank [] = Unit {0}
AreBlank (None ∷ turns) = AreBlank turns
AreBlank (Some entry ∷ turns) = ⊥

-- A Leave was asked for until it was entered: as often as memory was wanting the turn was blank.
pub record AsksLeave (left : Heard) (turns : List RunTurn) : Type 0 where
  pub blanks : List RunTurn
  pub whole : turns ≡ blanks ++ Some (Leave, left) ∷ []
  pub blank : AreBlank blanks

-- ---- replies

-- an output as a datagram, where it is a reply
abbrev pub reply_of : Output → List Datagram
reply_of (Reply via address port octets) = datagram address port octets ∷ []
reply_of output = []

-- the same, where it is a reply of this port
abbrev pub reply_by : Via → Output → List Datagram
reply_by Auth (Reply Auth address port octets) = datagram address port octets ∷ []
reply_by Acct (Reply Acct address port octets) = datagram address port octets ∷ []
reply_by via output = []

abbrev pub entry_replies : (Output → List Datagram) → RunTurn → List Datagram
entry_replies in_output None = []
entry_replies in_output (Some entry) = flat_map in_output entry.1.outputs

-- the replies that came of entries, in order
abbrev pub replies : List RunTurn → List Datagram
replies turns = flat_map (entry_replies reply_of) turns

-- those of this port
abbrev pub replies_by : Via → List RunTurn → List Datagram
replies_by via turns = flat_map (entry_replies (reply_by via)) turns

-- ---- what is sent on the link

abbrev pub octets_of : Output → List ℕ
octets_of (Send octets) = octets
octets_of output = []

-- the octets of all Sends, one after another
abbrev pub octets_in : List Output → List ℕ
octets_in [] = []
octets_in (o ∷ outputs) = octets_of o ++ octets_in outputs

abbrev pub handed_at : Input → Heard → List ℕ
handed_at Drain heard = octets_in heard.sends
handed_at ask heard = []

-- what the Drains of these turns handed over
abbrev pub sends : List RunTurn → List ℕ
sends [] = []
sends (None ∷ turns) = sends turns
sends (Some entry ∷ turns) = handed_at entry.0 entry.1 ++ sends turns

-- ---- the link

-- whether no link is made after one that is closed for this cause
abbrev pub is_final : LinkCause → Bool
is_final (causes.Refused code) = true
is_final causes.Left = true
is_final cause = false
