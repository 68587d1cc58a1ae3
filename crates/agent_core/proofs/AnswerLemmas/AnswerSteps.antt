-- An answer that the link hands on: the step is the place.
use Rattle.std.proofs.Common.{◌≡◌, ℕ, ◌+◌, ◌%◌, inl, Bool, true, false, cond, List, [], ◌∷◌, length, find, option_map, Option, Some, None, refl, sym, ◌∙◌, ap, subst, arith}
use Rattle.std.specs.Prelude.{◌==◌, is_some, slice_get}
use Rattle.radius_packet.specs.declared.reasons.Reason.TheVariants as reasons
use Rattle.diameter_message.specs.Message.{MessageParts}
use Rattle.session_carrier.specs.declared.kept.Numbers.{Numbers}
use Rattle.session_carrier.specs.declared.kept.Outcome.{Outcome}
use Rattle.pending_table.specs.declared.key.Key.{Key}
use Rattle.pending_table.specs.Table as table
use Rattle.pending_table.specs.Table.{Row}
use Rattle.peer_machine.specs.declared.words.Event.TheVariants.{Says}
use Rattle.peer_machine.specs.Reading.{said_in}
use Rattle.agent_events.specs.declared.events.Input.TheVariants.{Message}
use Rattle.agent_events.specs.declared.events.Output.{Output}
use Rattle.agent_events.specs.declared.events.Output.TheVariants.{Dropped}
use Rattle.agent_core.specs.declared.ledger.Ledger.{Ledger}
use Rattle.agent_core.specs.Places.{Place, Taking, waiting, is_application_request, is_base_request, is_first_request}
use Rattle.agent_core.specs.History.{linked, answered, matches, command_of, outcome, outcome_outputs, next_numbers}
use Rattle.agent_core.specs.Machine.{says, count_of, on_answer, on_found, on_client, on_outcome, on_unmatched, unmatched_outputs, settled_ledger}
use Rattle.agent_core.specs.Standing.{StandsAt, row_of, entry_of}
use Rattle.agent_core.proofs.ListLemmas.Lists.{find-All}
use Rattle.agent_core.proofs.ImageLemmas.Headers.{EndsSession, termination_header-counts}
use Rattle.agent_core.proofs.AnswerLemmas.FollowHeaders.{follow_ends_session}
use Rattle.agent_core.proofs.StandingLemmas.Agreeing.{numbers-agree}
use Rattle.agent_core.proofs.StandingLemmas.Places.{rows-past}
use Rattle.agent_core.proofs.LawLemmas.Soundness.{TakingFits, Goes}
use Rattle.agent_core.proofs.LawLemmas.Sound.{IsSound-on, not-ahead}
use Rattle.agent_core.proofs.LawLemmas.Orders.{Ascending}
use Rattle.agent_core.proofs.StandingLemmas.Numbers.{numbered, waiting-fits, number-agrees, waiting-alone, kept_if, find-alone}
use Rattle.agent_core.proofs.AnswerLemmas.HeardPlaces.{heard_place, heard-resent, heard-number, heard-stands, HandsOn, Follow}
use Rattle.agent_core.proofs.AnswerLemmas.Answered.{reply-first, answered-entries, outcome-by, place-agrees}
use Rattle.agent_core.proofs.StandingLemmas.Steps.{Before, Reaches, numbers-fit}
use Rattle.agent_core.proofs.LawLemmas.Counts.{and-true, and-false}

-- ---- what follows an answer

outcome-follows : (numbers : Numbers) (key : Key) (o : Outcome) → ((octets : List ℕ) → o.follow ≡ Some octets → EndsSession numbers octets) → Follow (outcome_outputs key o) (count_of (is_some o.follow))
outcome-follows numbers key o ends = record {
  application =
      outcome-by is_application_request key true o.reply o.follow
      (λ octets is. let e = ends octets is in ap is_application_request e.1 ∙ (termination_header-counts e.0 numbers).application)
      ∙ ap count_of (and-true (is_some o.follow));
  base =
      outcome-by is_base_request key false o.reply o.follow
      (λ octets is. let e = ends octets is in ap is_base_request e.1 ∙ (termination_header-counts e.0 numbers).base)
      ∙ ap count_of (and-false (is_some o.follow));
  first =
      outcome-by is_first_request key true o.reply o.follow
      (λ octets is. let e = ends octets is in ap is_first_request e.1 ∙ (termination_header-counts e.0 numbers).first_is)
      ∙ ap count_of (and-true (is_some o.follow));
  any = outcome-by (λ h. true) key true o.reply o.follow (λ octets is. refl) ∙ ap count_of (and-true (is_some o.follow));
}

unmatched-follows : (b : Bool) → Follow (cond b [] (Dropped reasons.Unmatched ∷ [])) 0
unmatched-follows true = record { application = refl; base = refl; first = refl; any = refl }
unmatched-follows false = record { application = refl; base = refl; first = refl; any = refl }

-- ---- the places

heard-goes : (ps : List Place) (m : ℕ) (S : Ledger) → Before ps m S → (octets : List ℕ) (message : MessageParts) → HandsOn S.config ps m octets message → (matched : Option Taking) (outputs : List Output) → Goes ps (heard_place S.config ps m octets message matched outputs)
heard-goes ps m S b octets message hands matched outputs =
    let none = heard-resent S.config ps m octets message hands in
    record {
      later = b.later;
      number = heard-number S.config ps m octets message hands;
      resent = let h = ap length none in omega arith;
      order = subst Ascending (sym none) tt;
      unused = inl none;
    }

unmatched-reaches : (ps : List Place) (m : ℕ) (S : Ledger) → Before ps m S → (octets : List ℕ) (message : MessageParts) → HandsOn S.config ps m octets message → Reaches ps m S (answered S.config ps m message (linked S.config ps m (Message octets) (Says (said_in message)) (Some message)) None) (on_unmatched S message)
unmatched-reaches ps m S b octets message hands =
    let outputs = unmatched_outputs message.header in
    let p = heard_place S.config ps m octets message None outputs in
    let entries = b.stands.entries ∙ sym (rows-past S.config p ps m (record { taken = refl; matched = refl; resent = heard-resent S.config ps m octets message hands })) in
    let used : S.used ≡ S.used + 0 = omega arith in
    let outbox : S.outbox ≡ S.outbox + 0 = omega arith in
    let total : S.total ≡ (S.total + 0) % 4294967296 = (let h = b.stands.total in omega arith) in
    record {
      follows = record {
        stands = heard-stands ps m S b.stands octets message hands None outputs 0 (unmatched-follows (message.header.command == 275)) S.used S.outbox S.total S.table.entries used outbox total entries;
        outputs = refl;
        config = refl;
        moment = refl;
      };
      sound = IsSound-on S.config ps p (heard-goes ps m S b octets message hands None outputs) refl (λ n ahead. refl) b.sound;
    }

-- what the machine does about the request that is found
found-is : (ps : List Place) (m : ℕ) (S : Ledger) → StandsAt ps m S → (message : MessageParts) (t : Taking) → slice_get S.config.clients t.kept.client ≡ Some t.settings → (o : Outcome) → o ≡ outcome t.kept.kind t.settings t.kept message (next_numbers S.config ps) → on_client S message (entry_of ps t) (slice_get S.config.clients t.kept.client) ≡ says (settled_ledger S message o.reply (is_some o.follow)) (outcome_outputs t.key o)
found-is ps m S stands message t settings o is =
    let e = entry_of ps t in
    ap (on_client S message e) settings
    ∙ ap (λ numbers. on_outcome S message e (outcome t.kept.kind t.settings t.kept message numbers)) (numbers-agree ps m S stands)
    ∙ ap (on_outcome S message e) (sym is)
    ∙ ap (says (settled_ledger S message o.reply (is_some o.follow))) (place-agrees ps t o)

settled-reaches : (ps : List Place) (m : ℕ) (S : Ledger) → Before ps m S → (octets : List ℕ) (message : MessageParts) → HandsOn S.config ps m octets message → (t : Taking) → TakingFits S.config ps t → find (numbered ps message.header.hop) (waiting S.config ps m) ≡ Some t → Reaches ps m S (answered S.config ps m message (linked S.config ps m (Message octets) (Says (said_in message)) (Some message)) (Some t)) (on_client S message (entry_of ps t) (slice_get S.config.clients t.kept.client))
settled-reaches ps m S b octets message hands t fits found =
    let o : Outcome = outcome t.kept.kind t.settings t.kept message (next_numbers S.config ps) in
    let outputs = outcome_outputs t.key o in
    let p = heard_place S.config ps m octets message (Some t) outputs in
    let n = count_of (is_some o.follow) in
    let numbers = numbers-fit ps m S b in
    let follow = outcome-follows (next_numbers S.config ps) t.key o (λ more is. follow_ends_session t.kept.kind t.settings t.kept message (next_numbers S.config ps) more numbers is) in
    let entries = answered-entries ps m S b.stands b.sound b.lasts.retention octets message hands t outputs o.reply (reply-first t.key o.reply o.follow) found in
    let rows = table.settled S.table S.peer.link.number message.header.hop S.moment o.reply in
    subst (Reaches ps m S p) (sym (found-is ps m S b.stands message t fits.settings o refl)) (record {
      follows = record {
        stands = heard-stands ps m S b.stands octets message hands (Some t) outputs n follow (S.used + n) (S.outbox + n) ((S.total + n) % 4294967296) rows refl refl refl entries;
        outputs = refl;
        config = refl;
        moment = refl;
      };
      sound = IsSound-on S.config ps p (heard-goes ps m S b octets message hands (Some t) outputs) refl (λ n ahead. not-ahead ps t n fits.placed ahead) b.sound;
    })

-- ---- by what is found

abbrev is_answer_to : MessageParts → Taking → Bool
is_answer_to message t = message.header.command == command_of t.kept.kind

found-reaches : (ps : List Place) (m : ℕ) (S : Ledger) → Before ps m S → (octets : List ℕ) (message : MessageParts) → HandsOn S.config ps m octets message → (o : Option Taking) → find (numbered ps message.header.hop) (waiting S.config ps m) ≡ o → Reaches ps m S (answered S.config ps m message (linked S.config ps m (Message octets) (Says (said_in message)) (Some message)) (kept_if (is_answer_to message) o)) (on_found S message (option_map (row_of ps) o))
found-reaches ps m S b octets message hands None found = unmatched-reaches ps m S b octets message hands
found-reaches ps m S b octets message hands (Some t) found =
    let fits = find-All (TakingFits S.config ps) (numbered ps message.header.hop) (waiting S.config ps m) (waiting-fits S.config ps m b.sound) t found in
    elim (is_answer_to message t) as (λ (c : Bool). Reaches ps m S (answered S.config ps m message (linked S.config ps m (Message octets) (Says (said_in message)) (Some message)) (cond c (Some t) None)) (cond c (on_client S message (entry_of ps t) (slice_get S.config.clients t.kept.client)) (on_unmatched S message))) [
      | true ↦ settled-reaches ps m S b octets message hands t fits found
      | false ↦ unmatched-reaches ps m S b octets message hands
    ]

pub answer-reaches : (ps : List Place) (m : ℕ) (S : Ledger) → Before ps m S → (octets : List ℕ) (message : MessageParts) → HandsOn S.config ps m octets message → Reaches ps m S (answered S.config ps m message (linked S.config ps m (Message octets) (Says (said_in message)) (Some message)) (find (matches ps message.header) (waiting S.config ps m))) (on_answer S message)
answer-reaches ps m S b octets message hands =
    let ts = waiting S.config ps m in
    let hop = message.header.hop in
    let p = linked S.config ps m (Message octets) (Says (said_in message)) (Some message) in
    let same : find (matches ps message.header) ts ≡ kept_if (is_answer_to message) (find (numbered ps hop) ts) = find-alone (numbered ps hop) (is_answer_to message) ts (waiting-alone S.config ps m hop b.sound) in
    subst (λ (o : Option Taking). Reaches ps m S (answered S.config ps m message p o) (on_answer S message)) (sym same) (
    subst (λ (o : Option Row). Reaches ps m S (answered S.config ps m message p (kept_if (is_answer_to message) (find (numbered ps hop) ts))) (on_found S message o)) (sym (number-agrees ps m S hop b.stands b.sound))
    (found-reaches ps m S b octets message hands (find (numbered ps hop) ts) refl)
    )
