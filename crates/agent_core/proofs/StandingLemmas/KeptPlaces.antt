-- Each request that a history of octets takes up is kept so that it can be answered and sent again.
use Rattle.std.proofs.Common.{◌≡◌, ℕ, ◌<◌, ◌^◌, Bool, true, false, List, [], ◌∷◌, max, find, Option, Some, None, Result, Ok, Err, refl, sym, ◌∙◌, subst, arith}
use Rattle.std.specs.List.{AllByRecursion}
use Rattle.radius_packet.specs.declared.reasons.Reason.{Reason}
use Rattle.radius_packet.specs.declared.reasons.Via.{Via}
use Rattle.diameter_message.specs.Message.{MessageParts, read_message}
use Rattle.diameter_message.specs.declared.fault.MessageFault.{MessageFault}
use Rattle.agent_settings.specs.declared.config.Config.{Config}
use Rattle.pending_table.specs.Table.{same_key}
use Rattle.peer_machine.specs.Reading.{said_in}
use Rattle.peer_machine.specs.Step.{is_pass}
use Rattle.peer_machine.specs.declared.words.Event.TheVariants.{Says}
use Rattle.agent_events.specs.declared.events.Input.{Input}
use Rattle.agent_events.specs.declared.events.Input.TheVariants.{Datagram, Up, Ready, Message, Broken, Down, Tick, Drain, Leave}
use Rattle.agent_core.specs.Verdict.{Request, verdict}
use Rattle.agent_core.specs.Rooms.{rooms, refusal}
use Rattle.agent_core.specs.Places.{Event, Place, Taking, now, takings, with_taking, serial, live, waiting}
use Rattle.agent_core.specs.History.{at_input, place, places, past, datagram, requested, admitted, messaged, heard, answered, linked, link_act, matches, taking_of, next_numbers}
use Rattle.agent_core.specs.Standing.{start}
use Rattle.agent_core.specs.Promise.{IsReal, AreBytes}
use Rattle.agent_core.proofs.ImageLemmas.Headers.{AreNumbers}
use Rattle.agent_core.proofs.ListLemmas.Lists.{AllByRecursion-push}
use Rattle.agent_core.proofs.RequestLemmas.VerdictFacts.{verdict-fits}
use Rattle.agent_core.proofs.LawLemmas.Sound.{IsSound-nil}
use Rattle.agent_core.proofs.StandingLemmas.Steps.{Lasts}
use Rattle.agent_core.proofs.StandingLemmas.Histories.{Standing, standing-step, start-stands, start-roomy}
use Rattle.agent_core.proofs.StandingLemmas.Kept.{Laws, CoreSettings, IsKept, request-kept}

abbrev pub Keeps : Config → Taking → Type 0
Keeps config t = IsKept config t.kept t.sent

-- what a past says of the next request
record NextFits (config : Config) (ps : List Place) : Type 0 where
  pub numbers : AreNumbers (next_numbers config ps)
  pub few : serial ps < 2 ^ 64

-- ---- a datagram

admitted-keeps : Laws → (config : Config) → CoreSettings config → (ps : List Place) (m : ℕ) → NextFits config ps → (via : Via) (address port : ℕ) (octets : List ℕ) → AreBytes octets → (request : Request) → verdict config via address port octets ≡ Ok request → (o : Option Reason) (t : Taking) → (admitted config ps m (Datagram via address port octets) request o).taken ≡ Some t → Keeps config t
admitted-keeps laws config settings ps m next via address port octets bytes request is (Some reason) t taken = absurd (cc)
admitted-keeps laws config settings ps m next via address port octets bytes request is None t taken =
    let same : taking_of config ps m request ≡ t = cc in
    subst (Keeps config) same (request-kept laws config settings via address octets request (next_numbers config ps) (serial ps) bytes (verdict-fits laws.found config via address port octets request is) next.numbers next.few)

requested-keeps : Laws → (config : Config) → CoreSettings config → (ps : List Place) (m : ℕ) → NextFits config ps → (via : Via) (address port : ℕ) (octets : List ℕ) → AreBytes octets → (request : Request) → verdict config via address port octets ≡ Ok request → (o : Option Taking) (t : Taking) → (requested config ps m (Datagram via address port octets) request o).taken ≡ Some t → Keeps config t
requested-keeps laws config settings ps m next via address port octets bytes request is (Some u) t taken = absurd (cc)
requested-keeps laws config settings ps m next via address port octets bytes request is None t taken =
    admitted-keeps laws config settings ps m next via address port octets bytes request is (refusal config (rooms config ps m)) t taken

datagram-keeps : Laws → (config : Config) → CoreSettings config → (ps : List Place) (m : ℕ) → NextFits config ps → (via : Via) (address port : ℕ) (octets : List ℕ) → AreBytes octets → (r : Result Request Reason) → verdict config via address port octets ≡ r → (t : Taking) → (datagram config ps m (Datagram via address port octets) r).taken ≡ Some t → Keeps config t
datagram-keeps laws config settings ps m next via address port octets bytes (Err reason) is t taken = absurd (cc)
datagram-keeps laws config settings ps m next via address port octets bytes (Ok request) is t taken =
    requested-keeps laws config settings ps m next via address port octets bytes request is (find (λ (u : Taking). same_key u.key request.key) (live config ps m)) t taken

-- ---- a message takes nothing up

answered-untaken : (config : Config) (ps : List Place) (m : ℕ) (message : MessageParts) (p : Place) (o : Option Taking) → p.taken ≡ None → (answered config ps m message p o).taken ≡ None
answered-untaken config ps m message p None is = is
answered-untaken config ps m message p (Some t) is = is

heard-untaken : (config : Config) (ps : List Place) (m : ℕ) (message : MessageParts) (p : Place) (b : Bool) → p.taken ≡ None → (heard config ps m message p b).taken ≡ None
heard-untaken config ps m message p true is = answered-untaken config ps m message p (find (matches ps message.header) (waiting config ps m)) is
heard-untaken config ps m message p false is = is

messaged-untaken : (config : Config) (ps : List Place) (m : ℕ) (input : Input) (r : Result MessageParts MessageFault) → (messaged config ps m input r).taken ≡ None
messaged-untaken config ps m input (Err fault) = refl
messaged-untaken config ps m input (Ok message) =
    heard-untaken config ps m message (linked config ps m input (Says (said_in message)) (Some message)) (is_pass (link_act config ps m input (Says (said_in message)))) refl

none-not : (o : Option Taking) (t : Taking) → o ≡ None → o ≡ Some t → ⊥
none-not o t none some = let no : ◌≡◌ {A = Option Taking} None (Some t) = sym none ∙ some in absurd (cc)

-- ---- each input

input-keeps : Laws → (config : Config) → CoreSettings config → (ps : List Place) (m : ℕ) → NextFits config ps → (input : Input) → IsReal input → (t : Taking) → (at_input config ps m input).taken ≡ Some t → Keeps config t
input-keeps laws config settings ps m next (Datagram via address port octets) real t taken =
    datagram-keeps laws config settings ps m next via address port octets real (verdict config via address port octets) refl t taken
input-keeps laws config settings ps m next (Message octets) real t taken =
    absurd (none-not _ t (messaged-untaken config ps m (Message octets) (read_message octets)) taken)
input-keeps laws config settings ps m next Up real t taken = absurd (none-not None t refl taken)
input-keeps laws config settings ps m next Ready real t taken = absurd (none-not None t refl taken)
input-keeps laws config settings ps m next (Broken fault) real t taken = absurd (none-not None t refl taken)
input-keeps laws config settings ps m next Down real t taken = absurd (none-not None t refl taken)
input-keeps laws config settings ps m next Tick real t taken = absurd (none-not None t refl taken)
input-keeps laws config settings ps m next Drain real t taken = absurd (none-not None t refl taken)
input-keeps laws config settings ps m next Leave real t taken = absurd (none-not None t refl taken)

-- ---- histories

with-kept : (config : Config) (o : Option Taking) (ts : List Taking) → ((t : Taking) → o ≡ Some t → Keeps config t) → AllByRecursion (Keeps config) ts → AllByRecursion (Keeps config) (with_taking o ts)
with-kept config None ts fits kept = kept
with-kept config (Some t) ts fits kept = AllByRecursion-push (Keeps config) ts t kept (fits t refl)

next-fits : (config : Config) (ps : List Place) → Standing config ps → NextFits config ps
next-fits config ps s =
    let same = s.stands.used in
    let few = s.roomy.rooms.used in
    let counted = s.sound.counted in
    record { numbers = record { hop = omega arith; end = omega arith }; few = omega arith }

kept-on : Laws → (config : Config) → CoreSettings config → Lasts config → (ps : List Place) (es : List Event) → Standing config ps → AllByRecursion (λ e. IsReal e.input) es → AllByRecursion (Keeps config) (takings ps) → AllByRecursion (Keeps config) (takings (places config ps es))
kept-on laws config settings lasts ps [] s real kept = kept
kept-on laws config settings lasts ps (e ∷ es) s real kept =
    let m = max (now ps) e.moment in
    kept-on laws config settings lasts (place config ps e ∷ ps) es (standing-step laws.found config lasts ps e s) real.1
    (with-kept config (place config ps e).taken (takings ps) (input-keeps laws config settings ps m (next-fits config ps s) e.input real.0) kept)

pub past-kept : Laws → (config : Config) → CoreSettings config → Lasts config → (history : List Event) → AllByRecursion (λ e. IsReal e.input) history → AllByRecursion (Keeps config) (takings (past config history))
past-kept laws config settings lasts history real =
    kept-on laws config settings lasts [] history (record { ledger = start config; same = refl; stands = start-stands config; sound = IsSound-nil config; roomy = start-roomy config }) real tt
