-- When a desk stands for the turns of a run.
use Rattle.std.specs.Prelude.{◌≡◌, ℕ, ◌-◌, ◌^◌, Bool, max, min, nat_le, ◌||◌, false, true, ◌+◌, ◌≤◌, List, [], ◌∷◌, ◌++◌, length, map, Option, Some, None, if◌then◌else◌}
use Rattle.wire_core.specs.Counts.{one_more}
use Rattle.agent_events.specs.declared.events.Input.{Input}
use Rattle.agent_events.specs.declared.events.Output.{Output}
use Rattle.agent_core.specs.Places.{Event, now}
use Rattle.agent_events.specs.Kinds.{is_drain}
use Rattle.agent_core.specs.Standing.{StandsFor}
use Rattle.run_record.specs.declared.entry.Entry.{Entry}
use Rattle.run_record.specs.Recordings.{Sending}
use Rattle.agent_server.specs.declared.desk.AgentDesk.{AgentDesk}
use Rattle.server_workers.specs.declared.base.RunBase.{RunBase}
use Rattle.server_workers.specs.declared.heard.Heard.{Heard}
use Rattle.agent_server.specs.Runs.{IsRun, closed, closed_with, handed_over, has_left, history, others_in, places_of, entries_recorded, unsent, unsent_with}
use Rattle.agent_events.specs.Kinds.{is_leave}

-- Each turn took one reading of the clock, in order, and the moment of an entry is the greatest reading of the entries up
-- to it, of which this was the greatest before.
abbrev pub AreRead : ℕ → List (Option (Input × Heard)) → List ℕ → Type 0
AreRead greatest [] [] = Unit {0}
AreRead greatest [] (reading ∷ readings) = ⊥
AreRead greatest (turn ∷ turns) [] = ⊥
AreRead greatest (None ∷ turns) (reading ∷ readings) = AreRead greatest turns readings
AreRead greatest (Some entry ∷ turns) (reading ∷ readings) =
    (entry.1.moment ≡ max greatest reading) × AreRead entry.1.moment turns readings

-- where the clock tells its readings, they are those before the run and then one for each turn
abbrev pub HasRead : Option (List ℕ) → List ℕ → List (Option (Input × Heard)) → Type 0
HasRead told before turns = (all : List ℕ) → told ≡ Some all → (readings : List ℕ) × (all ≡ before ++ readings) × AreRead 0 turns readings

-- an entry of a record as an event
abbrev pub event : Entry → Event
event entry = record { moment = entry.moment; input = entry.input }

-- the sender of a record, as it was and as it is now, was given these events since; there may be none
abbrev pub HasSent : Option Sending → Option Sending → List Event → Type 0
HasSent None sender events = sender ≡ None
HasSent (Some before) sender events =
    (now : Sending) × (sender ≡ Some now) × (now.queue ≡ before.queue) × (map event now.told ≡ map event before.told ++ events)

module _ {C : Type 0} (readings : C → Option (List ℕ)) where
  pub record StandsBy (desk : AgentDesk C) (base : RunBase) (turns : List (Option (Input × Heard))) : Type 0 where
    pub config : desk.core.config ≡ base.config
    pub until : desk.until ≡ base.until
    pub run : IsRun base.config base.until turns
    pub core : StandsFor desk.core (history turns)
    pub moment : desk.moment ≡ now (places_of base.config turns)
    pub send_queue : desk.send_queue.items ≡ unsent (places_of base.config turns)
    pub closed : desk.closed ≡ closed (places_of base.config turns)
    pub left : desk.left ≡ has_left (places_of base.config turns)
    pub entries : desk.entries ≡ min (length (history turns)) (2 ^ 64 - 1)
    pub clock : HasRead (readings desk.clock) base.before turns
    pub sent : HasSent base.sender desk.sender (entries_recorded base.config turns)

-- what an entry makes of a desk: what the core gave for it, and whether it began a link
pub record Enters {C : Type 0} (old new : AgentDesk C) (time : ℕ) (ask : Input) (begun : Bool) (all : List Output) (answer : Heard) : Type 0 where
  pub core : new.core ≡ old.core
  pub clock : new.clock ≡ old.clock
  pub until : new.until ≡ old.until
  pub moment : new.moment ≡ time
  pub send_queue : new.send_queue.items ≡ unsent_with (is_drain ask) begun old.send_queue.items all
  pub closed : new.closed ≡ closed_with begun old.closed all
  pub left : new.left ≡ (old.left || is_leave ask)
  pub entries : new.entries ≡ one_more old.entries
  pub sender : new.sender ≡ old.sender
  pub heard : answer ≡ record {
    moment = time;
    outputs = others_in all;
    sends = handed_over (is_drain ask) old.send_queue.items;
    finished = (old.left || is_leave ask) || nat_le old.until time;
    closed = closed_with begun old.closed all;
  }

-- there is room for all of these outputs: behind those that are unsent, and besides
abbrev pub HasRoom : ℕ → ℕ → ℕ → List Output → Type 0
HasRoom unsent capacity beside all = (unsent + length all ≤ capacity) × (length all ≤ beside)

-- for a Drain nothing goes out, and it begins no link
abbrev pub IsCalm : Bool → Bool → List Output → Type 0
IsCalm false begun all = Unit {0}
IsCalm true begun all = (begun ≡ false) × (all ≡ [])

-- but for room nothing changed
pub record IsSame {C : Type 0} (old new : AgentDesk C) : Type 0 where
  pub core : new.core ≡ old.core
  pub clock : new.clock ≡ old.clock
  pub until : new.until ≡ old.until
  pub moment : new.moment ≡ old.moment
  pub send_queue : new.send_queue.items ≡ old.send_queue.items
  pub closed : new.closed ≡ old.closed
  pub left : new.left ≡ old.left
  pub entries : new.entries ≡ old.entries
  pub sender : new.sender ≡ old.sender

-- what was given to the sender with this entry
abbrev pub sent_with : Bool → Entry → List Entry
sent_with idle entry = if idle then [] else entry ∷ []

-- what is given to the record of this entry: nothing where it is idle; all else stays
pub record Tells {C : Type 0} (old new : AgentDesk C) (time : ℕ) (ask : Input) (idle : Bool) : Type 0 where
  pub core : new.core ≡ old.core
  pub clock : new.clock ≡ old.clock
  pub until : new.until ≡ old.until
  pub moment : new.moment ≡ old.moment
  pub send_queue : new.send_queue.items ≡ old.send_queue.items
  pub closed : new.closed ≡ old.closed
  pub left : new.left ≡ old.left
  pub entries : new.entries ≡ old.entries
  pub sent : (before : Option Sending) (events : List Event) → HasSent before old.sender events
      → HasSent before new.sender (events ++ map event (sent_with idle (record { moment = time; input = ask })))
