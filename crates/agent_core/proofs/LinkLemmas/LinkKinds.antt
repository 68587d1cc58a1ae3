-- The kinds of places, by what they do about the link.
use Rattle.std.proofs.Common.{◌≡◌, ℕ, Bool, true, false, cond, ◌&&◌, not, List, [], ◌∷◌, ◌++◌, find, Option, Some, None, Result, Ok, Err, refl, sym, ◌∙◌, ap}
use Rattle.std.specs.Prelude.{count_by}
use Rattle.std.specs.Result.{is_ok}
use Rattle.radius_packet.specs.declared.reasons.Reason.TheVariants as reasons
use Rattle.diameter_message.specs.declared.fault.MessageFault.{MessageFault}
use Rattle.diameter_message.specs.declared.header.Header.{Header}
use Rattle.diameter_message.specs.Message.{MessageParts, read_message}
use Rattle.agent_settings.specs.declared.config.Config.{Config}
use Rattle.pending_table.specs.declared.key.Key.{Key}
use Rattle.peer_machine.specs.declared.Phase.{Phase}
use Rattle.peer_machine.specs.declared.words.Event.{Event as LinkEvent}
use Rattle.peer_machine.specs.declared.words.Event.TheVariants.{Opens, Serves, Says, Breaks, Ends, Ticks, Leaves}
use Rattle.peer_machine.specs.declared.words.Act.{Act}
use Rattle.peer_machine.specs.declared.peer.PeerOutput.{PeerOutput}
use Rattle.peer_machine.specs.Step.{is_pass, link_at, sent, output_of}
use Rattle.peer_machine.specs.Rules.{after}
use Rattle.peer_machine.specs.Reading.{said_in}
use Rattle.agent_events.specs.declared.events.Input.{Input}
use Rattle.agent_events.specs.declared.events.Input.TheVariants.{Datagram, Up, Ready, Message, Broken, Down, Tick, Drain, Leave}
use Rattle.agent_events.specs.declared.events.Output.{Output}
use Rattle.agent_events.specs.declared.events.Output.TheVariants.{Reply, Send, Dropped, Closed}
use Rattle.agent_core.specs.Settings.{names, end_number}
use Rattle.agent_core.specs.Verdict.{Request}
use Rattle.agent_core.specs.Places.{Place, Taking, begins, link, opens, waiting, total, answer_to, is_sent}
use Rattle.agent_core.specs.History.{still, taking_of, taking_place, repeated, peer, linked, link_act, link_output, link_outputs, resends, answered, heard, messaged, matches, at_input}
use Rattle.agent_core.specs.Machine.{begins_by}
use Rattle.agent_core.specs.Links.{is_grant}
use Rattle.agent_core.specs.LawsOfLinks.{IfSent, is_granted_by, grants, is_closed, is_word, is_tick}
use Rattle.agent_core.proofs.ListLemmas.Lists.{AllByRecursion-weaken}
use Rattle.agent_core.proofs.LawLemmas.Counts.{and-true, and-false}
use Rattle.agent_core.proofs.RoomLemmas.RoomySteps.{pass-act}
use Rattle.agent_core.proofs.LawLemmas.LawOfImages.{append-nil}
use Rattle.agent_core.proofs.LawLemmas.LawPlaces.{Comes, TakesUp, place-by}
use Rattle.std.specs.List.{AllByRecursion}

-- ---- the event that an input is

abbrev pub grants_by : LinkEvent → Bool
grants_by (Says said) = is_grant said
grants_by event = false

-- whether the link hears something: a message while a link is there
abbrev pub hears_by : Phase → LinkEvent → Bool
hears_by phase (Says said) = not (is_closed phase)
hears_by phase event = false

abbrev pub ticks_by : LinkEvent → Bool
ticks_by Ticks = true
ticks_by event = false

abbrev pub Spoken : Input → LinkEvent → Option MessageParts → Type 0
Spoken (Message octets) event message =
    (m : MessageParts) × ((read_message octets ≡ Ok m) × ((event ≡ Says (said_in m)) × (message ≡ Some m)))
Spoken input event message = message ≡ None

pub record IsEventOf (config : Config) (ps : List Place) (input : Input) (event : LinkEvent) (message : Option MessageParts) : Type 0 where
  pub begun : begins_by (peer config ps).link event ≡ begins ps input
  pub granted : grants_by event ≡ grants input
  pub word : hears_by (link ps).phase event ≡ is_word ps input
  pub tick : ticks_by event ≡ is_tick input
  pub spoken : Spoken input event message

pub message-event : (config : Config) (ps : List Place) (octets : List ℕ) (m : MessageParts) → read_message octets ≡ Ok m → IsEventOf config ps (Message octets) (Says (said_in m)) (Some m)
message-event config ps octets m read = record {
  begun = refl;
  granted = sym (ap is_granted_by read);
  word =
      sym (and-true (not (is_closed (link ps).phase)))
      ∙ sym (ap (λ (r : Result MessageParts MessageFault). not (is_closed (link ps).phase) && is_ok r) read);
  tick = refl;
  spoken = (m, (read, (refl, refl)));
}

-- ---- the kinds

-- nothing is sent by these
abbrev pub IsSilent : List Output → Type 0
IsSilent outputs = ((test : Header → Bool) → count_by (is_sent test) outputs ≡ 0) × AllByRecursion (IfSent (λ octets. ⊥)) outputs

of-none : (P : List ℕ → Type 0) (o : Output) → IfSent (λ octets. ⊥) o → IfSent P o
of-none P (Reply via address port octets) none = tt
of-none P (Send octets) none = absurd none
of-none P (Dropped reason) none = tt
of-none P (Closed cause) none = tt

-- so anything holds of what they send
pub silent-each : (P : List ℕ → Type 0) (outputs : List Output) → IsSilent outputs → AllByRecursion (IfSent P) outputs
silent-each P outputs silent = AllByRecursion-weaken (IfSent (λ octets. ⊥)) (IfSent P) (of-none P) outputs silent.1

-- what holds of each kind of place
pub record Kinds (P : Place → Type 0) (config : Config) (ps : List Place) (m : ℕ) (input : Input) : Type 0 where
  pub stays : begins ps input ≡ false → is_word ps input ≡ false → (outputs : List Output) → IsSilent outputs → P (still config ps m input outputs)
  pub takes : begins ps input ≡ false → is_word ps input ≡ false → (request : Request) → TakesUp config ps m input request → P (taking_place config ps m input (taking_of config ps m request))
  pub links : (event : LinkEvent) (message : Option MessageParts) → IsEventOf config ps input event message → P (linked config ps m input event message)
  pub unmatched : (octets : List ℕ) (message : MessageParts) → Comes config ps m input octets message → P (answered config ps m message (linked config ps m (Message octets) (Says (said_in message)) (Some message)) None)
  pub matched : (octets : List ℕ) (message : MessageParts) → Comes config ps m input octets message → (t : Taking) → find (matches ps message.header) (waiting config ps m) ≡ Some t → P (answered config ps m message (linked config ps m (Message octets) (Says (said_in message)) (Some message)) (Some t))

pub repeated-silent : (key : Key) (o : Option (Option (List ℕ))) → IsSilent (repeated key o)
repeated-silent key None = ((λ test. refl), (tt, tt))
repeated-silent key (Some None) = ((λ test. refl), (tt, tt))
repeated-silent key (Some (Some octets)) = ((λ test. refl), (tt, tt))

answered-kinds : (P : Place → Type 0) (config : Config) (ps : List Place) (m : ℕ) (octets : List ℕ) (message : MessageParts) → Kinds P config ps m (Message octets) → Comes config ps m (Message octets) octets message → (o : Option Taking) → find (matches ps message.header) (waiting config ps m) ≡ o → P (answered config ps m message (linked config ps m (Message octets) (Says (said_in message)) (Some message)) o)
answered-kinds P config ps m octets message kinds comes None found = kinds.unmatched octets message comes
answered-kinds P config ps m octets message kinds comes (Some t) found = kinds.matched octets message comes t found

heard-kinds : (P : Place → Type 0) (config : Config) (ps : List Place) (m : ℕ) (octets : List ℕ) (message : MessageParts) → Kinds P config ps m (Message octets) → read_message octets ≡ Ok message → (b : Bool) → is_pass (link_act config ps m (Message octets) (Says (said_in message))) ≡ b → P (heard config ps m message (linked config ps m (Message octets) (Says (said_in message)) (Some message)) b)
heard-kinds P config ps m octets message kinds read true passes =
    answered-kinds P config ps m octets message kinds (record { is = refl; read = read; hands = pass-act (link_act config ps m (Message octets) (Says (said_in message))) passes })
    (find (matches ps message.header) (waiting config ps m)) refl
heard-kinds P config ps m octets message kinds read false passes = kinds.links (Says (said_in message)) (Some message) (message-event config ps octets message read)

messaged-kinds : (P : Place → Type 0) (config : Config) (ps : List Place) (m : ℕ) (octets : List ℕ) → Kinds P config ps m (Message octets) → (r : Result MessageParts MessageFault) → read_message octets ≡ r → P (messaged config ps m (Message octets) r)
messaged-kinds P config ps m octets kinds (Err fault) read =
    kinds.stays refl (ap (λ (r : Result MessageParts MessageFault). not (is_closed (link ps).phase) && is_ok r) read ∙ and-false (not (is_closed (link ps).phase)))
    (Dropped reasons.BadMessage ∷ []) ((λ test. refl), (tt, tt))
messaged-kinds P config ps m octets kinds (Ok message) read =
    heard-kinds P config ps m octets message kinds read (is_pass (link_act config ps m (Message octets) (Says (said_in message)))) refl

-- what holds of each kind of place holds of the place of each input
pub kind-by : (P : Place → Type 0) (config : Config) (ps : List Place) (m : ℕ) (input : Input) → Kinds P config ps m input → P (at_input config ps m input)
kind-by P config ps m (Datagram via address port octets) kinds = place-by P config ps m (Datagram via address port octets) (record {
  drained = λ quiet. kinds.stays refl refl [] ((λ test. refl), tt);
  dropped = λ quiet reason. kinds.stays refl refl (Dropped reason ∷ []) ((λ test. refl), (tt, tt));
  repeats = λ quiet t comes. kinds.stays refl refl (repeated t.key (answer_to t.place ps)) (repeated-silent t.key (answer_to t.place ps));
  takes = λ quiet request takes. kinds.takes refl refl request takes;
  links = λ apart event message begun. absurd (cc);
  unmatched = λ o message comes. let is = comes.is in absurd (cc);
  matched = λ o message comes t found. let is = comes.is in absurd (cc);
})
kind-by P config ps m Up kinds = kinds.links Opens None (record { begun = refl; granted = refl; word = refl; tick = refl; spoken = refl })
kind-by P config ps m Ready kinds = kinds.links Serves None (record { begun = refl; granted = refl; word = refl; tick = refl; spoken = refl })
kind-by P config ps m (Message octets) kinds = messaged-kinds P config ps m octets kinds (read_message octets) refl
kind-by P config ps m (Broken fault) kinds = kinds.links (Breaks fault) None (record { begun = refl; granted = refl; word = refl; tick = refl; spoken = refl })
kind-by P config ps m Down kinds = kinds.links Ends None (record { begun = refl; granted = refl; word = refl; tick = refl; spoken = refl })
kind-by P config ps m Tick kinds = kinds.links Ticks None (record { begun = refl; granted = refl; word = refl; tick = refl; spoken = refl })
kind-by P config ps m Drain kinds = kinds.stays refl refl [] ((λ test. refl), tt)
kind-by P config ps m Leave kinds = kinds.links Leaves None (record { begun = refl; granted = refl; word = refl; tick = refl; spoken = refl })

-- ---- what the link says

-- what goes out for the link itself, by what is done
abbrev pub said_by : Config → List Place → ℕ → LinkEvent → Option MessageParts → Act → PeerOutput
said_by config ps m event message act =
    output_of (sent (names config) (link_at (peer config ps) m event) (end_number config (total ps)) message act) act

-- where the link doesn't open nothing else goes out
pub shut-says : (config : Config) (ps : List Place) (m : ℕ) (input : Input) (event : LinkEvent) (message : Option MessageParts) (act : Act) → link_act config ps m input event ≡ act → opens (link ps).phase (after (link_at (peer config ps) m event) m act).phase ≡ false → (linked config ps m input event message).outputs ≡ link_outputs (said_by config ps m event message act)
shut-says config ps m input event message act is shut =
    let none : (linked config ps m input event message).resent ≡ [] =
    ap (λ a. cond (opens (link ps).phase (after (link_at (peer config ps) m event) m a).phase) (waiting config ps m) []) is
    ∙ ap (λ b. cond b (waiting config ps m) []) shut
    in
    ap (λ (ts : List Taking). link_outputs (link_output config ps m input event message) ++ resends ts) none
    ∙ append-nil (link_outputs (link_output config ps m input event message))
    ∙ ap (λ a. link_outputs (said_by config ps m event message a)) is
