-- What the reader of a link did: by the turns that it took itself, by what the link gave, and by what its two sockets
-- were handed.
use Rattle.std.specs.Prelude.{◌≡◌, ◌≢◌, ℕ, ◌+◌, ◌-◌, ◌^◌, ◌<◌, ◌≤◌, ◌⊎◌, min, Bool, true, false, ◌||◌, is_some, if◌then◌else◌, List, [], ◌∷◌, ◌++◌, map, flat_map, All, Option, Some, None, option_map}
use Rattle.wire_core.specs.Counts.{one_more}
use Rattle.radius_packet.specs.declared.reasons.Via.TheVariants.{Auth, Acct}
use Rattle.diameter_message.specs.declared.fault.FrameFault.{FrameFault}
use Rattle.diameter_message.specs.declared.next.Next.{Next}
use Rattle.diameter_message.specs.Framing.{FramerParts, IsNext, StandsFor, given_with, next_of, without}
use Rattle.diameter_message.specs.Stream.{Stream}
use Rattle.agent_events.specs.declared.events.Input.{Input}
use Rattle.agent_events.specs.declared.events.Input.TheVariants.{Message, Broken, Down, Tick}
use Rattle.turnstile.specs.declared.view.Known.{Known}
use Rattle.turnstile.specs.Passes.{known}
use Rattle.wire_devices.specs.Links.{Inlet}
use Rattle.wire_devices.specs.Sockets.{Socket}
use Rattle.wire_devices.specs.Telling.{Adds}
use Rattle.server_workers.specs.declared.heard.Heard.{Heard}
use Rattle.server_workers.specs.declared.link_reader.Visitor.{Visitor}
use Rattle.server_workers.specs.Entries.{Less, RunTurn, blanks, downs, replies_by, ticks, turn_of}
use Rattle.server_workers.specs.Going.{Went}

-- ---- inputs

-- the inputs that a stream gives: its messages, and then its fault where it shows one
abbrev pub fault_inputs : Option FrameFault → List Input
fault_inputs None = []
fault_inputs (Some fault) = Broken fault ∷ []

abbrev pub stream_inputs : List (List ℕ) → Option FrameFault → List Input
stream_inputs messages fault = map (λ m. Message m) messages ++ fault_inputs fault

-- an input, where it is one that a stream gives
abbrev pub framed_in : Input → List Input
framed_in (Message octets) = Message octets ∷ []
framed_in (Broken fault) = Broken fault ∷ []
framed_in ask = []

abbrev pub is_framed : Input → Bool
is_framed (Message octets) = true
is_framed (Broken fault) = true
is_framed ask = false

abbrev pub is_message : Input → Bool
is_message (Message octets) = true
is_message ask = false

-- what the reader of a link asks
abbrev pub LinkMayAsk : Input → Type 0
LinkMayAsk (Message octets) = Unit {0}
LinkMayAsk (Broken fault) = Unit {0}
LinkMayAsk Tick = Unit {0}
LinkMayAsk Down = Unit {0}
LinkMayAsk ask = ⊥

-- ---- answers

-- after such an answer the reader stops
abbrev pub is_links_last : Heard → Bool
is_links_last heard = heard.finished || is_some heard.closed

abbrev pub is_last_of : Option Heard → Bool
is_last_of None = false
is_last_of (Some heard) = is_links_last heard

-- ---- turns

-- the Message and Broken entries, in order
abbrev pub entry_framed : RunTurn → List Input
entry_framed None = []
entry_framed (Some entry) = framed_in entry.0

abbrev pub framed : List RunTurn → List Input
framed turns = flat_map entry_framed turns

abbrev pub LinkMayTake : RunTurn → Type 0
LinkMayTake None = Unit {0}
LinkMayTake (Some entry) = LinkMayAsk entry.0

-- after this turn the reader goes on
abbrev pub KeepsReading : RunTurn → Type 0
KeepsReading None = Unit {0}
KeepsReading (Some entry) = is_links_last entry.1 ≡ false

-- the last turn is the first entry after whose answer the reader stops, and its ask has P
pub record EndsAt (P : Input → Type 0) (turns : List RunTurn) : Type 0 where
  pub front : List RunTurn
  pub goes : All KeepsReading front
  pub ask : Input
  pub heard : Heard
  pub whole : turns ≡ front ++ Some (ask, heard) ∷ []
  pub last : is_links_last heard ≡ true
  pub has : P ask

-- ---- a reader

-- What is counted now, where it still is, is so many more than before.
pub record AddsSome (before now : Option ℕ) (count : ℕ) : Type 0 where
  pub still : (n : ℕ) → now ≡ Some n → option_map (λ m. m + count) before ≡ Some n

-- a receive ended or failed
abbrev pub HasEnded : Inlet → Type 0
HasEnded link = 0 < link.ends + link.faults

-- A reader took these turns and received these octets. It heeded these inputs of their stream: each was entered, but for so
-- many that are lost, each with a blank turn. So many Ticks were asked because the framer found no memory, and each of
-- these took a turn.
pub record ReadsOctets (mine : List RunTurn) (got : List ℕ) (heeded : List Input) (before now : Inlet) (out retries : ℕ) : Type 0 where
  pub looks : ℕ
  pub received : Adds before.received now.received got
  pub idle : AddsSome before.idle now.idle looks
  pub entered : Less heeded (framed mine) out
  pub blank : out ≤ blanks mine
  pub retried : retries ≤ ticks mine + blanks mine
  pub few_ticks : ticks mine ≤ looks + retries
  pub down : 0 < downs mine → HasEnded now
  pub ended : HasEnded now → (0 < downs mine) ⊎ (0 < blanks mine)
  pub asks : All LinkMayTake mine
  pub number : now.number ≡ before.number

-- The turns of a whole run: the stream of what was received was heeded. A rest may be left out where the last turn is a
-- Message, or where the framer once found no memory.
pub record ServedLink (mine : List RunTurn) (before now : Inlet) (out retries : ℕ) : Type 0 where
  pub got : List ℕ
  pub messages : List (List ℕ)
  pub rest : List ℕ
  pub fault : Option FrameFault
  pub stream : Stream got messages rest fault
  pub heeded : List Input
  pub left_out : List Input
  pub whole : stream_inputs messages fault ≡ heeded ++ left_out
  pub reads : ReadsOctets mine got heeded before now out retries
  pub ends : EndsAt (λ ask. left_out ≢ [] → (is_message ask ≡ true) ⊎ (0 < retries)) mine

-- ---- with the pass, and what is counted

-- what a reader knows by its pass, and what its link and its two sockets tell
pub record Sight (T : Type 0) : Type 0 where
  pub known : Known T Input Heard
  pub link : Inlet
  pub auth : Socket
  pub acct : Socket

abbrev pub sight : {T : Type 0} → Known T Input Heard → Inlet → Socket → Socket → Sight T
sight seen link auth acct = record { known = seen; link = link; auth = auth; acct = acct }

-- both sockets are where they were
abbrev pub StayAt : Socket → Socket → Socket → Socket → Type 0
StayAt auth acct auth' acct' = (auth'.port ≡ auth.port) × (acct'.port ≡ acct.port)

-- A whole run of a reader. What is lost is counted up to 2^64 - 1, and so are the Ticks that were asked because the framer
-- found no memory. Each socket was handed its replies.
pub record ReadsLink {T : Type 0} (before now : Sight T) (lost again : ℕ) : Type 0 where
  pub mine : List RunTurn
  pub out : ℕ
  pub retries : ℕ
  pub went : Went mine before.known now.known
  pub served : ServedLink mine before.link now.link out retries
  pub lost_is : lost ≡ min out (2 ^ 64 - 1)
  pub again_is : again ≡ min retries (2 ^ 64 - 1)
  pub auth : Adds before.auth.handed now.auth.handed (replies_by Auth mine)
  pub acct : Adds before.acct.handed now.acct.handed (replies_by Acct mine)
  pub ports : StayAt before.auth before.acct now.auth now.acct

-- ---- on the way

-- whether an input of a stream is lost with a visit
abbrev pub missed : Input → Option Heard → Bool
missed ask None = is_framed ask
missed ask (Some heard) = false

-- these messages and this fault are all that the stream of these octets holds
abbrev pub HoldsOnly : List ℕ → List (List ℕ) → Option FrameFault → Type 0
HoldsOnly octets given shown = (messages : List (List ℕ)) (rest : List ℕ) (fault : Option FrameFault) → Stream octets messages rest fault
    → (messages ≡ given) × (fault ≡ shown)

module _ {T D : Type 0} (told : D → Socket) where
  -- a visit with this input: a turn was taken, and the sockets were handed what came of it; whether it is the last
  pub record Visits (ask : Input) (over : Bool) (old new : Visitor T D) : Type 0 where
    pub heard : Option Heard
    pub went : Went (turn_of ask heard ∷ []) (known old.pass) (known new.pass)
    pub auth : Adds (told old.auth_twin).handed (told new.auth_twin).handed (replies_by Auth (turn_of ask heard ∷ []))
    pub acct : Adds (told old.acct_twin).handed (told new.acct_twin).handed (replies_by Acct (turn_of ask heard ∷ []))
    pub ports : StayAt (told old.auth_twin) (told old.acct_twin) (told new.auth_twin) (told new.acct_twin)
    pub lost : new.lost ≡ (if missed ask heard then one_more old.lost else old.lost)
    pub again : new.again ≡ old.again
    pub last : over ≡ is_last_of heard

  abbrev pub sight_of : Visitor T D → Inlet → Sight T
  sight_of visitor link = sight (known visitor.pass) link (told visitor.auth_twin) (told visitor.acct_twin)

  -- what a reader did since it saw `start`: it took these turns, received these octets, and heeded these inputs
  pub record Did (mine : List RunTurn) (got : List ℕ) (heeded : List Input) (start : Sight T) (visitor : Visitor T D) (link : Inlet) : Type 0 where
    pub out : ℕ
    pub retries : ℕ
    pub went : Went mine start.known (known visitor.pass)
    pub reads : ReadsOctets mine got heeded start.link link out retries
    pub lost_is : visitor.lost ≡ min out (2 ^ 64 - 1)
    pub again_is : visitor.again ≡ min retries (2 ^ 64 - 1)
    pub auth : Adds start.auth.handed (told visitor.auth_twin).handed (replies_by Auth mine)
    pub acct : Adds start.acct.handed (told visitor.acct_twin).handed (replies_by Acct mine)
    pub ports : StayAt start.auth start.acct (told visitor.auth_twin) (told visitor.acct_twin)

  -- The framer was fed all that was received but this piece. What it gave was heeded.
  pub record SoFar (piece : List ℕ) (start : Sight T) (visitor : Visitor T D) (link : Inlet) (framer : FramerParts) : Type 0 where
    pub mine : List RunTurn
    pub goes : All KeepsReading mine
    pub got : List ℕ
    pub fed : List ℕ
    pub given : List (List ℕ)
    pub text : got ≡ fed ++ piece
    pub stands : StandsFor framer fed given
    pub did : Did mine got (stream_inputs given framer.shown) start visitor link

  -- the framer gave this next, and it isn't heeded yet
  pub record Gives (next : Next) (start : Sight T) (visitor : Visitor T D) (link : Inlet) (framer : FramerParts) : Type 0 where
    pub mine : List RunTurn
    pub goes : All KeepsReading mine
    pub got : List ℕ
    pub given : List (List ℕ)
    pub is : next ≡ next_of framer
    pub stands : StandsFor (without next framer) got (given_with next given)
    pub fits : (messages : List (List ℕ)) (rest : List ℕ) (fault : Option FrameFault) → Stream got messages rest fault → IsNext next given messages fault
    pub did : Did mine got (stream_inputs given framer.shown) start visitor link

  -- the whole stream of what was received was heeded
  pub record HeededAll (start : Sight T) (visitor : Visitor T D) (link : Inlet) (framer : FramerParts) : Type 0 where
    pub mine : List RunTurn
    pub goes : All KeepsReading mine
    pub got : List ℕ
    pub given : List (List ℕ)
    pub all : HoldsOnly got given framer.shown
    pub stands : StandsFor framer got given
    pub did : Did mine got (stream_inputs given framer.shown) start visitor link

  -- The reader stops. The whole stream of what was received was heeded, or the last turn is a Message, or the framer
  -- once found no memory.
  pub record Stops (start : Sight T) (visitor : Visitor T D) (link : Inlet) (framer : FramerParts) : Type 0 where
    pub mine : List RunTurn
    pub got : List ℕ
    pub fed : List ℕ
    pub piece : List ℕ
    pub given : List (List ℕ)
    pub text : got ≡ fed ++ piece
    pub stands : StandsFor framer fed given
    pub did : Did mine got (stream_inputs given framer.shown) start visitor link
    pub ends : EndsAt (λ ask. ¬ HoldsOnly got given framer.shown → (is_message ask ≡ true) ⊎ (0 < visitor.again)) mine
