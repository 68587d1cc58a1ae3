-- One step of what is kept, at the greatest moment so far, and without the dead entries: it stands for the history with the input.
use Rattle.std.proofs.Common.{◌≡◌, ℕ, Bool, true, false, cond, List, [], ◌∷◌, max, filter, find, Option, Some, None, Result, Ok, Err, refl, sym, ◌∙◌, ap, subst}
use Rattle.radius_packet.specs.declared.reasons.Reason.TheVariants as reasons
use Rattle.diameter_message.specs.declared.fault.MessageFault.{MessageFault}
use Rattle.diameter_message.specs.Message.{MessageParts, read_message}
use Rattle.pending_table.specs.Table as table
use Rattle.peer_machine.specs.Reading.{said_in}
use Rattle.peer_machine.specs.Step.{is_pass}
use Rattle.peer_machine.specs.declared.words.Event.{Event as LinkEvent}
use Rattle.peer_machine.specs.declared.words.Event.TheVariants.{Opens, Serves, Says, Breaks, Ends, Ticks, Leaves}
use Rattle.agent_events.specs.declared.events.Input.{Input}
use Rattle.agent_events.specs.declared.events.Input.TheVariants.{Datagram, Up, Ready, Message, Broken, Down, Tick, Drain, Leave}
use Rattle.agent_events.specs.declared.events.Output.TheVariants.{Dropped}
use Rattle.agent_core.specs.declared.ledger.Ledger.{Ledger}
use Rattle.agent_core.specs.Verdict.{verdict}
use Rattle.agent_core.specs.Places.{Event, Place, now, waiting, begins}
use Rattle.agent_events.specs.Kinds.{is_drain}
use Rattle.agent_core.specs.History.{place, at_input, still, messaged, heard, answered, linked, link_act, matches, peer}
use Rattle.agent_core.specs.Machine.{Next, next, says, drained, begins_by, on_input, on_message, on_answer, on_link, passes, at_moment, purged}
use Rattle.agent_core.specs.Standing.{StandsAt}
use Rattle.agent_core.proofs.ListLemmas.Lists.{filter-within}
use Rattle.agent_core.proofs.StandingLemmas.Rows.{lives}
use Rattle.agent_core.proofs.StandingLemmas.Agreeing.{act-agrees}
use Rattle.agent_core.proofs.StandingLemmas.Simulation.{Follows, dropped-unsent}
use Rattle.agent_core.proofs.RequestLemmas.StillPlaces.{Stills, TakesUp, datagram-by}

-- ---- a message

-- what holds where the link passes an answer on
abbrev pub PassesOn : (Place → Next → Type 0) → List Place → ℕ → Ledger → Input → Result MessageParts MessageFault → Type 0
PassesOn P ps m S input r =
    (message : MessageParts)
    → r ≡ Ok message
    → is_pass (link_act S.config ps m input (Says (said_in message))) ≡ true
    → P
    (answered S.config ps m message (linked S.config ps m input (Says (said_in message)) (Some message)) (find (matches ps message.header) (waiting S.config ps m)))
    (on_answer S message)

-- what holds of each input that only the link hears
abbrev pub Links : (Place → Next → Type 0) → List Place → ℕ → Ledger → Input → Type 0
Links P ps m S input =
    (event : LinkEvent) (message : Option MessageParts)
    → begins_by (peer S.config ps).link event ≡ begins ps input
    → P (linked S.config ps m input event message) (on_link S event message)

heard-by : (P : Place → Next → Type 0) (ps : List Place) (m : ℕ) (S : Ledger) (message : MessageParts) (p : Place) (b : Bool) → (b ≡ true → P (answered S.config ps m message p (find (matches ps message.header) (waiting S.config ps m))) (on_answer S message)) → P p (on_link S (Says (said_in message)) (Some message)) → P (heard S.config ps m message p b) (cond b (on_answer S message) (on_link S (Says (said_in message)) (Some message)))
heard-by P ps m S message p true passed rest = passed refl
heard-by P ps m S message p false passed rest = rest

passes-agrees : (ps : List Place) (m : ℕ) (S : Ledger) → StandsAt ps m S → (input : Input) → begins ps input ≡ false → (message : MessageParts) → passes S message ≡ is_pass (link_act S.config ps m input (Says (said_in message)))
passes-agrees ps m S stands input quiet message = ap is_pass (act-agrees ps m S stands input (Says (said_in message)) (sym quiet))

-- a message is none, or the link alone hears it, or it is an answer that is passed on
pub messaged-by : (P : Place → Next → Type 0) (ps : List Place) (m : ℕ) (S : Ledger) → StandsAt ps m S → (input : Input) → begins ps input ≡ false → Stills P ps m S input → Links P ps m S input → (r : Result MessageParts MessageFault) → PassesOn P ps m S input r → P (messaged S.config ps m input r) (on_message S r)
messaged-by P ps m S stands input quiet stills links (Err fault) passed = stills (Dropped reasons.BadMessage ∷ []) (dropped-unsent reasons.BadMessage)
messaged-by P ps m S stands input quiet stills links (Ok message) passed =
    let p = linked S.config ps m input (Says (said_in message)) (Some message) in
    let b = is_pass (link_act S.config ps m input (Says (said_in message))) in
    subst (λ (c : Bool). P (heard S.config ps m message p b) (cond c (on_answer S message) (on_link S (Says (said_in message)) (Some message)))) (sym (passes-agrees ps m S stands input quiet message))
    (heard-by P ps m S message p b (passed message refl) (links (Says (said_in message)) (Some message) (sym quiet)))

-- ---- together

-- what holds of a request that is taken up, and of an answer that is passed on, by the input
abbrev pub Rest : (Place → Next → Type 0) → List Place → ℕ → Ledger → Input → Type 0
Rest P ps m S (Datagram via address port octets) = TakesUp P ps m S (Datagram via address port octets) (verdict S.config via address port octets)
Rest P ps m S (Message octets) = PassesOn P ps m S (Message octets) (read_message octets)
Rest P ps m S input = Unit {0}

-- what holds of each kind of place holds of each input
pub record Kinds (P : Place → Next → Type 0) (ps : List Place) (m : ℕ) (S : Ledger) (input : Input) : Type 0 where
  pub stills : begins ps input ≡ false → is_drain input ≡ false → Stills P ps m S input
  pub drains : P (still S.config ps m Drain []) (says (drained S) [])
  pub links : is_drain input ≡ false → Links P ps m S input
  pub rest : Rest P ps m S input

pub input-by : (P : Place → Next → Type 0) (ps : List Place) (m : ℕ) (S : Ledger) → StandsAt ps m S → (input : Input) → Kinds P ps m S input → P (at_input S.config ps m input) (on_input S input)
input-by P ps m S stands (Datagram via address port octets) kinds =
    datagram-by P ps m S stands (Datagram via address port octets) (kinds.stills refl refl) (verdict S.config via address port octets) kinds.rest
input-by P ps m S stands Up kinds = kinds.links refl Opens None refl
input-by P ps m S stands Ready kinds = kinds.links refl Serves None refl
input-by P ps m S stands (Message octets) kinds =
    messaged-by P ps m S stands (Message octets) refl (kinds.stills refl refl) (kinds.links refl) (read_message octets) kinds.rest
input-by P ps m S stands (Broken fault) kinds = kinds.links refl (Breaks fault) None refl
input-by P ps m S stands Down kinds = kinds.links refl Ends None refl
input-by P ps m S stands Tick kinds = kinds.links refl Ticks None refl
input-by P ps m S stands Drain kinds = kinds.drains
input-by P ps m S stands Leave kinds = kinds.links refl Leaves None refl

-- ---- the moment, and the dead entries

-- what is kept, at the moment of an event
abbrev pub at_event : List Place → Ledger → Event → Ledger
at_event ps S e = record S { moment = max (now ps) e.moment }

-- it doesn't matter when dead entries are dropped
pub purged-stands : (ps : List Place) (m : ℕ) (S : Ledger) → StandsAt ps m S → StandsAt ps m (purged S)
purged-stands ps m S stands = record {
  moment = stands.moment;
  peer = stands.peer;
  used = stands.used;
  outbox = stands.outbox;
  total = stands.total;
  serial = stands.serial;
  capacity = stands.capacity;
  patience = stands.patience;
  retention = stands.retention;
  entries =
      ap (λ n. filter (lives S m) (table.live S.table n)) stands.moment
      ∙ filter-within (lives S m) (lives S m) (λ r h. h) S.table.entries
      ∙ stands.entries;
}

-- one step: what goes out is the rule's, and what is kept then stands for the history with the input
pub record NextFollows (ps : List Place) (S : Ledger) (e : Event) : Type 0 where
  pub stands : StandsAt (place S.config ps e ∷ ps) (now (place S.config ps e ∷ ps)) (next S e.moment e.input).ledger
  pub outputs : (next S e.moment e.input).outputs ≡ (place S.config ps e).outputs
  pub config : (next S e.moment e.input).ledger.config ≡ S.config

pub next-by : (ps : List Place) (S T : Ledger) (e : Event) → T ≡ at_moment S e.moment → Follows ps (max (now ps) e.moment) T (place T.config ps e) (on_input T e.input) → NextFollows ps S e
next-by ps S T e is follows =
    let same : Follows ps (max (now ps) e.moment) (at_moment S e.moment) (place S.config ps e) (on_input (at_moment S e.moment) e.input) =
    subst (λ (U : Ledger). Follows ps (max (now ps) e.moment) U (place U.config ps e) (on_input U e.input)) is follows in
    record {
      stands =
          subst (λ m. StandsAt (place S.config ps e ∷ ps) m (next S e.moment e.input).ledger) (sym same.moment)
          (purged-stands (place S.config ps e ∷ ps) (max (now ps) e.moment) (on_input (at_moment S e.moment) e.input).ledger same.stands);
      outputs = same.outputs;
      config = same.config;
    }
