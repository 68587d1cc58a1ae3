-- Internal: what a step does to what is kept.
use Rattle.std.specs.Prelude.{◌≡◌, ℕ, ◌+◌, ◌<◌, List, ◌∷◌, ◌++◌, [], length, find, Option, Some, None, option_map, Result, Ok, Err}
use Rattle.diameter_avp.specs.Avps.{readable_avps}
use Rattle.diameter_message.specs.declared.fault.MessageFault.{MessageFault}
use Rattle.diameter_message.specs.Finding.{has_size}
use Rattle.diameter_message.specs.Message.{MessageParts, read_message}
use Rattle.agent_core.specs.declared.ledger.Ledger.{Ledger as CoreState}
use Rattle.agent_events.specs.declared.events.Output.{Output}
use Rattle.session_book.specs.declared.ledger.Ledger.{Ledger}
use Rattle.session_book.specs.declared.ledger.Considered.{Considered}
use Rattle.session_book.specs.declared.ledger.Considered.TheVariants as considered
use Rattle.session_book.specs.declared.aborts.OpenAbort.{OpenAbort}
use Rattle.session_book.specs.Aborts.{Deed, Opens, after}
use Rattle.session_book.specs.Book.{Row, Change, Keep, changed, entry_of}
use Rattle.session_book.specs.History.{Own, says, control, on_ask, on_control, taken_session, taken_change, passed_deed, core_event, caught, passed_outputs}
use Rattle.peer_machine.specs.declared.Phase.{Phase}
use Rattle.agent_core.specs.Places as places
use Rattle.agent_core.specs.History as rule
use Rattle.agent_core.specs.Standing as core
use Rattle.agent_events.specs.declared.events.Input.{Input}
use Rattle.session_book.specs.declared.events.BookInput.{BookInput}
use Rattle.session_book.specs.declared.events.BookInput.TheVariants as book_inputs
use Rattle.session_book.specs.declared.events.BookOutput.{BookOutput}
use Rattle.agent_events.specs.declared.events.Output.TheVariants as outputs
use Rattle.session_book.specs.Reading.{AskParts}
use Rattle.session_book.specs.Holding.{Holds}
use Rattle.session_book.specs.Standing.{BookState}

abbrev pub state_of : Ledger → BookState
state_of l = record { core = l.core; rows = l.sessions.map.entries; aborts = l.aborts; opened = l.opened; moment = l.moment }

-- how many aborts are opened
abbrev pub opens : Deed → ℕ
opens (Opens a) = 1
opens deed = 0

-- what holds the rows of a book holds those of the changed one
abbrev pub Changes : ℕ → Change → List Row → List Row → Type 0
Changes capacity change old new = (rows : List Row) → Holds old rows → Holds new (changed capacity change rows)

-- the change and the deed are done at this moment
pub record Does (at : ℕ) (change : Change) (deed : Deed) (old new : BookState) : Type 0 where
  pub rows : Changes old.core.config.capacity change old.rows new.rows
  pub aborts : new.aborts ≡ after deed at old.aborts
  pub opened : new.opened ≡ old.opened + opens deed
  pub moment : new.moment ≡ at

-- the same, and the core stays as it is
pub record DoesOwn (at : ℕ) (o : Own) (old new : BookState) : Type 0 where
  pub done : Does at o.change o.deed old new
  pub core : new.core ≡ old.core

-- what an Abort-Session-Request leads to
abbrev pub own_by : Considered → Own
own_by (considered.Says output) = says output
own_by (considered.Opens abort) = record { change = Keep; deed = Opens abort; outputs = control abort ∷ [] }

-- there is room for what it opens
abbrev pub MayOpen : List OpenAbort → Considered → Type 0
MayOpen os (considered.Says output) = Unit {0}
MayOpen os (considered.Opens abort) = length os < 64

abbrev pub asked_of : BookState → AskParts → Own
asked_of S ask = on_ask S.core.config S.aborts S.opened (entry_of ask.session S.rows) ask

-- what a datagram of an access server leads to
abbrev pub own_on_control : BookState → ℕ → ℕ → List ℕ → Own
own_on_control S address port octets = on_control S.core.config S.aborts address port octets

-- ---- what goes to the core

abbrev pub short_session_of : Result MessageParts MessageFault → Option (List ℕ)
short_session_of (Ok m) = option_map (λ a. a.body) (find (has_size 263 0 1024) (readable_avps m.avps))
short_session_of (Err fault) = None

-- the first Session-Id of at most 1024 octets
abbrev pub short_session : List ℕ → Option (List ℕ)
short_session octets = short_session_of (read_message octets)

-- the session of the request that goes out first
abbrev pub sends_session : List Output → Option (List ℕ)
sends_session [] = None
sends_session (outputs.Send octets ∷ rest) = short_session octets
sends_session (output ∷ rest) = None

-- the core's place for an input after its history
abbrev pub place_after : CoreState → List places.Event → ℕ → Input → places.Place
place_after S H at input = rule.place S.config (rule.past S.config H) (core_event at input)

-- the core makes its step, and the book follows it
pub record Passes (H : List places.Event) (at : ℕ) (input : Input) (old new : BookState) : Type 0 where
  pub done : Does at (taken_change input (taken_session (place_after old.core H at input).taken)) (passed_deed input (place_after old.core H at input).outputs) old new
  pub core : core.StandsFor new.core (H ++ core_event at input ∷ [])
  pub config : new.core.config ≡ old.core.config

-- ---- together

-- where the link stands after the core's history
abbrev pub phase_after : CoreState → List places.Event → Phase
phase_after S H = (places.link (rule.past S.config H)).phase

abbrev pub OwnSteps : ℕ → Own → BookState → BookState → List BookOutput → Type 0
OwnSteps at o old new outs = (outs ≡ o.outputs) × DoesOwn at o old new

abbrev pub CoreSteps : List places.Event → ℕ → Input → Option AskParts → BookState → BookState → List BookOutput → Type 0
CoreSteps H at input (Some ask) old new outs = OwnSteps at (asked_of old ask) old new outs
CoreSteps H at input None old new outs =
    (outs ≡ passed_outputs old.core.config at input (place_after old.core H at input).outputs old.aborts) × Passes H at input old new

-- what a step does where the core stands for this history
abbrev pub Steps : List places.Event → ℕ → BookInput → BookState → BookState → List BookOutput → Type 0
Steps H at (book_inputs.Core input) old new outs = CoreSteps H at input (caught (phase_after old.core H) input) old new outs
Steps H at (book_inputs.Control address port octets) old new outs = OwnSteps at (own_on_control old address port octets) old new outs
