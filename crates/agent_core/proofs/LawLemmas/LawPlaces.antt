-- The kinds of places, and the induction over the places of a history.
use Rattle.std.proofs.Common.{◌≡◌, ℕ, Bool, true, false, List, [], ◌∷◌, ◌++◌, find, Option, Some, None, Result, Ok, Err, refl, sym, ◌∙◌, ap, subst}
use Rattle.radius_packet.specs.declared.reasons.Via.{Via}
use Rattle.radius_packet.specs.declared.reasons.Reason.{Reason}
use Rattle.radius_packet.specs.declared.reasons.Reason.TheVariants as reasons
use Rattle.diameter_message.specs.declared.fault.MessageFault.{MessageFault}
use Rattle.diameter_message.specs.Message.{MessageParts, read_message}
use Rattle.agent_settings.specs.declared.config.Config.{Config}
use Rattle.agent_settings.specs.Config.{InLimits}
use Rattle.agent_settings.proofs.Limits.{found_stands_at_place}
use Rattle.pending_table.specs.Table.{same_key}
use Rattle.peer_machine.specs.declared.words.Event.{Event as LinkEvent}
use Rattle.peer_machine.specs.declared.words.Event.TheVariants.{Opens, Serves, Says, Breaks, Ends, Ticks, Leaves}
use Rattle.peer_machine.specs.Step.{is_pass}
use Rattle.peer_machine.specs.Reading.{said_in}
use Rattle.agent_events.specs.declared.events.Input.{Input}
use Rattle.agent_events.specs.declared.events.Input.TheVariants.{Datagram, Up, Ready, Message, Broken, Down, Tick, Drain, Leave}
use Rattle.agent_events.specs.declared.events.Output.TheVariants.{Dropped}
use Rattle.agent_core.specs.Verdict.{Request, verdict}
use Rattle.agent_core.specs.Places.{Event, Place, Taking, begins, live, waiting, answer_to}
use Rattle.agent_core.specs.Rooms.{rooms, refusal}
use Rattle.agent_core.specs.History.{still, taking_of, taking_place, admitted, repeated, requested, datagram, peer, linked, link_act, answered, heard, messaged, matches, at_input, place, places, past}
use Rattle.agent_core.specs.Machine.{begins_by}
use Rattle.agent_core.specs.LawsOfRequests.{known_by, come_again}
use Rattle.agent_core.specs.LawsOfSends.{is_datagram}
use Rattle.agent_core.proofs.RoomLemmas.Limits.{limits}
use Rattle.agent_core.proofs.AnswerLemmas.HeardPlaces.{HandsOn}
use Rattle.agent_core.proofs.RoomLemmas.RoomySteps.{pass-act}
use Rattle.agent_core.proofs.StandingLemmas.Steps.{Lasts}
use Rattle.agent_core.proofs.StandingLemmas.Histories.{Standing, past-standing, places-append}

-- ---- kinds of places

-- what is known where a request is taken up
pub record TakesUp (config : Config) (ps : List Place) (m : ℕ) (input : Input) (request : Request) : Type 0 where
  pub via : Via
  pub address : ℕ
  pub port : ℕ
  pub octets : List ℕ
  pub is : input ≡ Datagram via address port octets
  pub judged : verdict config via address port octets ≡ Ok request
  pub fresh : find (λ t. same_key t.key request.key) (live config ps m) ≡ None
  pub admits : refusal config (rooms config ps m) ≡ None

-- what is known where an answer comes
pub record Comes (config : Config) (ps : List Place) (m : ℕ) (input : Input) (octets : List ℕ) (message : MessageParts) : Type 0 where
  pub is : input ≡ Message octets
  pub read : read_message octets ≡ Ok message
  pub hands : HandsOn config ps m octets message

-- what holds of each kind of place
pub record Cases (P : Place → Type 0) (config : Config) (ps : List Place) (m : ℕ) (input : Input) : Type 0 where
  pub drained : begins ps input ≡ false → P (still config ps m input [])
  pub dropped : begins ps input ≡ false → (reason : Reason) → P (still config ps m input (Dropped reason ∷ []))
  pub repeats : begins ps input ≡ false → (t : Taking) → come_again config ps m input ≡ Some t → P (still config ps m input (repeated t.key (answer_to t.place ps)))
  pub takes : begins ps input ≡ false → (request : Request) → TakesUp config ps m input request → P (taking_place config ps m input (taking_of config ps m request))
  pub links : is_datagram input ≡ false → (event : LinkEvent) (message : Option MessageParts) → begins_by (peer config ps).link event ≡ begins ps input → P (linked config ps m input event message)
  pub unmatched : (octets : List ℕ) (message : MessageParts) → Comes config ps m input octets message → P (answered config ps m message (linked config ps m (Message octets) (Says (said_in message)) (Some message)) None)
  pub matched : (octets : List ℕ) (message : MessageParts) → Comes config ps m input octets message → (t : Taking) → find (matches ps message.header) (waiting config ps m) ≡ Some t → P (answered config ps m message (linked config ps m (Message octets) (Says (said_in message)) (Some message)) (Some t))

admitted-by : (P : Place → Type 0) (config : Config) (ps : List Place) (m : ℕ) (input : Input) (request : Request) → Cases P config ps m input → begins ps input ≡ false → (o : Option Reason) → (o ≡ None → TakesUp config ps m input request) → P (admitted config ps m input request o)
admitted-by P config ps m input request cases quiet (Some reason) takes = cases.dropped quiet reason
admitted-by P config ps m input request cases quiet None takes = cases.takes quiet request (takes refl)

requested-by : (P : Place → Type 0) (config : Config) (ps : List Place) (m : ℕ) (via : Via) (address port : ℕ) (octets : List ℕ) (request : Request) → Cases P config ps m (Datagram via address port octets) → verdict config via address port octets ≡ Ok request → (o : Option Taking) → find (λ (t : Taking). same_key t.key request.key) (live config ps m) ≡ o → P (requested config ps m (Datagram via address port octets) request o)
requested-by P config ps m via address port octets request cases judged (Some t) found =
    cases.repeats refl t (ap (known_by config ps m) judged ∙ found)
requested-by P config ps m via address port octets request cases judged None found =
    admitted-by P config ps m (Datagram via address port octets) request cases refl (refusal config (rooms config ps m)) (λ admits. record {
      via = via;
      address = address;
      port = port;
      octets = octets;
      is = refl;
      judged = judged;
      fresh = found;
      admits = admits;
    })

datagram-by : (P : Place → Type 0) (config : Config) (ps : List Place) (m : ℕ) (via : Via) (address port : ℕ) (octets : List ℕ) → Cases P config ps m (Datagram via address port octets) → (r : Result Request Reason) → verdict config via address port octets ≡ r → P (datagram config ps m (Datagram via address port octets) r)
datagram-by P config ps m via address port octets cases (Err reason) judged = cases.dropped refl reason
datagram-by P config ps m via address port octets cases (Ok request) judged =
    requested-by P config ps m via address port octets request cases judged (find (λ (t : Taking). same_key t.key request.key) (live config ps m)) refl

answered-by : (P : Place → Type 0) (config : Config) (ps : List Place) (m : ℕ) (octets : List ℕ) (message : MessageParts) → Cases P config ps m (Message octets) → Comes config ps m (Message octets) octets message → (o : Option Taking) → find (matches ps message.header) (waiting config ps m) ≡ o → P (answered config ps m message (linked config ps m (Message octets) (Says (said_in message)) (Some message)) o)
answered-by P config ps m octets message cases comes None found = cases.unmatched octets message comes
answered-by P config ps m octets message cases comes (Some t) found = cases.matched octets message comes t found

heard-by : (P : Place → Type 0) (config : Config) (ps : List Place) (m : ℕ) (octets : List ℕ) (message : MessageParts) → Cases P config ps m (Message octets) → read_message octets ≡ Ok message → (b : Bool) → is_pass (link_act config ps m (Message octets) (Says (said_in message))) ≡ b → P (heard config ps m message (linked config ps m (Message octets) (Says (said_in message)) (Some message)) b)
heard-by P config ps m octets message cases read true passes =
    answered-by P config ps m octets message cases (record { is = refl; read = read; hands = pass-act (link_act config ps m (Message octets) (Says (said_in message))) passes })
    (find (matches ps message.header) (waiting config ps m)) refl
heard-by P config ps m octets message cases read false passes = cases.links refl (Says (said_in message)) (Some message) refl

messaged-by : (P : Place → Type 0) (config : Config) (ps : List Place) (m : ℕ) (octets : List ℕ) → Cases P config ps m (Message octets) → (r : Result MessageParts MessageFault) → read_message octets ≡ r → P (messaged config ps m (Message octets) r)
messaged-by P config ps m octets cases (Err fault) read = cases.dropped refl reasons.BadMessage
messaged-by P config ps m octets cases (Ok message) read =
    heard-by P config ps m octets message cases read (is_pass (link_act config ps m (Message octets) (Says (said_in message)))) refl

-- what holds of each kind of place holds of the place of each input
pub place-by : (P : Place → Type 0) (config : Config) (ps : List Place) (m : ℕ) (input : Input) → Cases P config ps m input → P (at_input config ps m input)
place-by P config ps m (Datagram via address port octets) cases =
    datagram-by P config ps m via address port octets cases (verdict config via address port octets) refl
place-by P config ps m Up cases = cases.links refl Opens None refl
place-by P config ps m Ready cases = cases.links refl Serves None refl
place-by P config ps m (Message octets) cases = messaged-by P config ps m octets cases (read_message octets) refl
place-by P config ps m (Broken fault) cases = cases.links refl (Breaks fault) None refl
place-by P config ps m Down cases = cases.links refl Ends None refl
place-by P config ps m Tick cases = cases.links refl Ticks None refl
place-by P config ps m Drain cases = cases.drained refl
place-by P config ps m Leave cases = cases.links refl Leaves None refl

-- ---- histories

history-on : (config : Config) (P : List Place → Type 0) → ((history : List Event) (e : Event) → P (past config history) → P (place config (past config history) e ∷ past config history)) → (history more : List Event) → P (past config history) → P (places config (past config history) more)
history-on config P step history [] so_far = so_far
history-on config P step history (e ∷ more) so_far =
    let same : past config (history ++ e ∷ []) ≡ place config (past config history) e ∷ past config history = places-append config [] history e in
    subst (λ (qs : List Place). P (places config qs more)) same
    (history-on config P step (history ++ e ∷ []) more (subst P (sym same) (step history e so_far)))

-- what each event keeps holds of each past
pub history-by : (config : Config) (P : List Place → Type 0) → P [] → ((history : List Event) (e : Event) → P (past config history) → P (place config (past config history) e ∷ past config history)) → (history : List Event) → P (past config history)
history-by config P first step history = history-on config P step [] history first

pub lasting : (config : Config) → InLimits config → Lasts config
lasting config within =
    let l = limits config within.settings in
    record { patience = l.patience; retention = l.retention; backlog = l.backlog }

-- each past is sound, and leaves room
pub known : (config : Config) → InLimits config → (history : List Event) → Standing config (past config history)
known config within history = past-standing found_stands_at_place config (lasting config within) history
