-- What the writer of a link does: the turns that it takes, and what it sends on the link.
use Rattle.std.specs.Prelude.{◌≡◌, ℕ, ◌+◌, ◌<◌, ◌≤◌, ◌⊎◌, Bool, true, false, not, ◌&&◌, List, [], ◌∷◌, ◌++◌, Option, Some, None, if◌then◌else◌}
use Rattle.wire_core.specs.Counts.{Rose}
use Rattle.wire_devices.specs.Links.{Outlet}
use Rattle.wire_devices.specs.Telling.{Adds}
use Rattle.peer_machine.specs.declared.LinkCause.{LinkCause}
use Rattle.agent_events.specs.declared.events.Input.{Input}
use Rattle.agent_events.specs.declared.events.Input.TheVariants.{Down, Drain, Leave}
use Rattle.agent_events.specs.declared.events.Output.{Output}
use Rattle.turnstile.specs.declared.view.Known.{Known}
use Rattle.turnstile.specs.Turns.{StartsWith}
use Rattle.server_workers.specs.declared.heard.Heard.{Heard}
use Rattle.server_workers.specs.declared.link_writer.WriterEnd.{WriterEnd}
use Rattle.server_workers.specs.declared.link_writer.WriterEnd.TheVariants.{Closed, Done, NoMemory}
use Rattle.server_workers.specs.Entries.{EachEntry, RunTurn, blanks, downs, is_final, octets_in, sends, turn_of}
use Rattle.server_workers.specs.Going.{Went}

-- ---- what is sent

-- These outputs went to the link one after another: all of them, or a beginning of their octets, after which a send failed.
pub record SentOn (whole : Bool) (outputs : List Output) (before now : Outlet) : Type 0 where
  pub sent : List ℕ
  pub handed : Adds before.handed now.handed sent
  pub all : whole ≡ true → (sent ≡ octets_in outputs) × (now.faults ≡ before.faults)
  pub part : whole ≡ false → StartsWith (octets_in outputs) sent × Rose before.faults now.faults

-- ---- the turns

abbrev pub IsWriterAsk : Input → Type 0
IsWriterAsk Drain = Unit {0}
IsWriterAsk Down = Unit {0}
IsWriterAsk Leave = Unit {0}
IsWriterAsk ask = ⊥

-- an entry after which a writer goes on: a Down, or a Drain by whose answer the link is open and the run isn't finished
abbrev pub KeepsWriting : Input → Heard → Type 0
KeepsWriting Drain heard = (heard.closed ≡ None) × (heard.finished ≡ false)
KeepsWriting Down heard = Unit {0}
KeepsWriting ask heard = ⊥

-- A round of the writer, by whether the link was sound before it and is now: a Drain, and where a send failed a Down. Each
-- of the two may be blank.
abbrev pub round : Bool → Bool → Option Heard → Option Heard → List RunTurn
round before now heard told = turn_of Drain heard ∷ (if before && not now then turn_of Down told ∷ [] else [])

-- ---- what came of them

-- no Down was said, and no send failed
abbrev pub IsQuiet : List RunTurn → Outlet → Outlet → Type 0
IsQuiet mine o o' = (downs mine ≡ 0) × (o'.faults ≡ o.faults)

-- a send failed, and a Down was said once, or a turn is blank
abbrev pub HasBroken : List RunTurn → Outlet → Outlet → Type 0
HasBroken mine o o' = (downs mine ≤ 1) × (0 < downs mine + blanks mine) × Rose o.faults o'.faults

-- A writer took these turns, and sent on the link while it was sound, which it was before and is now or isn't. All that was
-- handed over was sent where the link is sound still, and else a beginning of it.
pub record Wrote (mine : List RunTurn) (before now : Bool) (o o' : Outlet) : Type 0 where
  pub sent : List ℕ
  pub handed : Adds o.handed o'.handed sent
  pub all : now ≡ true → sent ≡ sends mine
  pub part : StartsWith (sends mine) sent
  pub none : before ≡ false → (sent ≡ []) × (now ≡ false)
  pub quiet : before ≡ now → IsQuiet mine o o'
  pub broke : before ≡ true → now ≡ false → HasBroken mine o o'

-- one round, with the answer to its Drain; where the Drain is blank the link stays as it was
pub record WroteRound {T : Type 0} (heard : Option Heard) (before now : Bool) (k k' : Known T Input Heard) (o o' : Outlet) : Type 0 where
  pub told : Option Heard
  pub went : Went (round before now heard told) k k'
  pub wrote : Wrote (round before now heard told) before now o o'
  pub blank : heard ≡ None → now ≡ before

-- ---- the end

-- A writer goes for this cause after this answer: the link is closed for it. Where the run is finished too, the cause is one
-- that ends it.
abbrev pub GoesFor : LinkCause → Heard → Type 0
GoesFor cause heard = (heard.closed ≡ Some cause) × (heard.finished ≡ true → is_final cause ≡ true)

-- a writer takes the agent's leave after this answer: the run is finished, and the link isn't closed for a cause that ends it
abbrev pub TakesLeave : Heard → Type 0
TakesLeave heard = (heard.finished ≡ true) × ((cause : LinkCause) → heard.closed ≡ Some cause → is_final cause ≡ false)

-- the turns by which the leave is taken: a Leave and a round, or as far as there is memory
abbrev pub LeaveTurns : WriterEnd → Bool → Bool → List RunTurn → Type 0
LeaveTurns (Closed cause) before now turns = ⊥
LeaveTurns Done before now turns =
    (left : Heard) × (last : Heard) × (told : Option Heard) × (turns ≡ Some (Leave, left) ∷ round before now (Some last) told)
LeaveTurns NoMemory before now turns =
    (now ≡ before) × ((turns ≡ None ∷ []) ⊎ ((left : Heard) × (turns ≡ Some (Leave, left) ∷ None ∷ [])))

-- what was done by them
pub record TookLeave {T : Type 0} (end : WriterEnd) (before now : Bool) (k k' : Known T Input Heard) (o o' : Outlet) : Type 0 where
  pub mine : List RunTurn
  pub went : Went mine k k'
  pub wrote : Wrote mine before now o o'
  pub turns : LeaveTurns end before now mine

-- the turns after the last round, which had this answer, by the way that the writer went
abbrev pub EndTurns : WriterEnd → Heard → Bool → Bool → List RunTurn → Type 0
EndTurns (Closed cause) heard before now turns = GoesFor cause heard × (now ≡ before) × (turns ≡ [])
EndTurns end heard before now turns = TakesLeave heard × LeaveTurns end before now turns

-- How a writer's turns end: the rounds after which it went on, the last round, by whose answer it didn't, and what came then.
-- The last round found the link sound or not, and left it so.
pub record LastTurns (end : WriterEnd) (now : Bool) (mine : List RunTurn) : Type 0 where
  pub rounds : List RunTurn
  pub heard : Heard
  pub told : Option Heard
  pub rest : List RunTurn
  pub before : Bool
  pub after : Bool
  pub mine_is : mine ≡ rounds ++ (round before after (Some heard) told ++ rest)
  pub went_on : EachEntry KeepsWriting rounds
  pub end_turns : EndTurns end heard after now rest

-- what a writer did on a link that was sound at first
pub record WroteLink {T : Type 0} (end : WriterEnd) (k k' : Known T Input Heard) (o o' : Outlet) : Type 0 where
  pub mine : List RunTurn
  pub sound : Bool
  pub went : Went mine k k'
  pub wrote : Wrote mine true sound o o'
  pub asks : EachEntry (λ ask heard. IsWriterAsk ask) mine
  pub last : LastTurns end sound mine
