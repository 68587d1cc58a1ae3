-- A Reply of code 2 goes out only for an answer that accepts the request.
use Rattle.std.proofs.Common.{◌≡◌, ℕ, inl, inr, Bool, true, false, cond, List, [], ◌∷◌, ◌++◌, Option, Some, None, option_map, Result, Ok, Err, refl, sym, ◌∙◌, arith}
use Rattle.std.specs.Prelude.{◌==◌, not, bit_and, slice_index, option_to_list, max}
use Rattle.std.specs.List.{AllByRecursion}
use Rattle.std.proofs.lemmas.Bool.{eqb-true}
use Rattle.radius_packet.specs.declared.reasons.Reason.TheVariants as reasons
use Rattle.radius_packet.specs.Packet.{packet_text}
use Rattle.radius_packet.specs.Seals.{reply_text}
use Rattle.diameter_avp.specs.Avps.{AvpParts, read_avps}
use Rattle.diameter_avp.specs.declared.fault.AvpFault.{AvpFault}
use Rattle.diameter_message.specs.declared.header.Header.{Header}
use Rattle.diameter_message.specs.Message.{MessageParts}
use Rattle.diameter_message.specs.Results.{is_success, result_code}
use Rattle.session_carrier.specs.declared.kept.Kept.{Kept}
use Rattle.session_carrier.specs.declared.kept.Kind2.{Kind2}
use Rattle.session_carrier.specs.declared.kept.Kind2.TheVariants.{Access, Eap, Start, Interim, Stop}
use Rattle.session_carrier.specs.declared.kept.Numbers.{Numbers}
use Rattle.agent_settings.specs.declared.config.Config.{Config}
use Rattle.agent_settings.specs.declared.client.Client.{Client}
use Rattle.translation.specs.Acceptance.{is_accepted}
use Rattle.translation.specs.Answers as access
use Rattle.translation.specs.Answers.{class_of, class_by_avps, class_that_fits, class_of_kind, is_error, is_of_other_session, has_refused_key, is_stateless, outcome_in}
use Rattle.translation.specs.Reading.{has_own_session, has_unknown, has_fault, has_bad_payload, result_class}
use Rattle.translation.specs.Replies.{access_reply, bare_reply, reply_code, reply_attributes, fits_packet}
use Rattle.translation.specs.declared.service.Service.{Service}
use Rattle.translation.specs.declared.service.Service.TheVariants as services
use Rattle.accounting_map.specs.Answers as accounting
use Rattle.accounting_map.specs.Answers.{reply_if}
use Rattle.peer_machine.specs.declared.words.Event.TheVariants.{Says}
use Rattle.peer_machine.specs.Reading.{said_in}
use Rattle.agent_events.specs.declared.events.Input.{Input}
use Rattle.agent_events.specs.declared.events.Input.TheVariants.{Message}
use Rattle.agent_events.specs.declared.events.Output.TheVariants.{Send, Dropped}
use Rattle.agent_core.specs.Places.{Place, Taking, now, answer_to}
use Rattle.agent_core.specs.History.{at_input, past, still, repeated, linked, link_output, answered, outcome, reply_outputs, next_numbers}
use Rattle.agent_core.specs.LawsOfRequests.{AcceptancesAreGuarded, IsGuarded, IsAccepted, Accepts, asks_for_access, come_again}
use Rattle.agent_core.proofs.LawLemmas.LawOfReplies.{links-each}
use Rattle.agent_core.proofs.LawLemmas.LawPlaces.{place-by}

-- ---- what an outcome's reply says

-- the code of a reply, and 0 where there is none
abbrev code_in : Option (List ℕ) → ℕ
code_in None = 0
code_in (Some octets) = slice_index octets 0

reply-code : (service : Service) (client : Client) (kept : Kept) (header : Header) (avps : List AvpParts) (numbers : Numbers) → code_in (outcome_in service client kept header (Ok avps) numbers).reply ≡ reply_code (class_of service client kept header avps)
unfolding access_reply reply_text packet_text
reply-code service client kept header avps numbers = refl

rotten-code : (service : Service) (client : Client) (kept : Kept) (header : Header) (fault : AvpFault) (numbers : Numbers) → code_in (outcome_in service client kept header (Err fault) numbers).reply ≡ 3
unfolding access_reply reply_text packet_text
rotten-code service client kept header fault numbers = refl

-- past the length of the reply, the error flag and the six cases that make an answer bad
fit-code : (service : Service) (client : Client) (kept : Kept) (header : Header) (avps : List AvpParts) → reply_code (class_of service client kept header avps) ≡ 2 → reply_code (class_by_avps service client kept header avps) ≡ 2
unfolding class_of
fit-code service client kept header avps =
    elim (fits_packet (reply_attributes service (class_by_avps service client kept header avps) kept avps)) as (λ b. fits_packet (reply_attributes service (class_by_avps service client kept header avps) kept avps) ≡ b → reply_code (class_that_fits service (class_by_avps service client kept header avps) kept avps) ≡ 2 → reply_code (class_by_avps service client kept header avps) ≡ 2) [
      | true ↦ (λ h. rw h (λ e. e))
      | false ↦ (λ h. rw h (λ e. absurd (omega arith)))
    ] refl

-- what isn't the first of two, which has another code, is the second
second : {K : Type 0} (code : K → ℕ) (b : Bool) (x y : K) → code (cond b x y) ≡ 2 → code x ≡ 3 → code y ≡ 2
second code true x y e other = absurd (omega arith)
second code false x y e other = e

kind-code : (service : Service) (client : Client) (kept : Kept) (avps : List AvpParts) → reply_code (class_of_kind (result_class (result_code avps)) service client kept avps) ≡ 2 → reply_code (result_class (result_code avps)) ≡ 2
kind-code service client kept avps e =
    let a = second reply_code (is_of_other_session kept avps) _ _ e refl in
    let b = second reply_code (has_unknown avps) _ _ a refl in
    let c = second reply_code (has_refused_key client avps) _ _ b refl in
    let d = second reply_code (has_fault (result_class (result_code avps)) avps) _ _ c refl in
    let f = second reply_code (has_bad_payload service (result_class (result_code avps)) avps) _ _ d refl in
    second reply_code (is_stateless (result_class (result_code avps)) kept avps) _ _ f refl

by-avps : (service : Service) (client : Client) (kept : Kept) (header : Header) (avps : List AvpParts) → reply_code (class_by_avps service client kept header avps) ≡ 2 → reply_code (result_class (result_code avps)) ≡ 2
by-avps service client kept header avps =
    elim (is_error header) as (λ b. is_error header ≡ b → reply_code (class_by_avps service client kept header avps) ≡ 2 → reply_code (result_class (result_code avps)) ≡ 2) [
      | true ↦ (λ h. rw h (λ e. absurd (omega arith)))
      | false ↦ (λ h. rw h (kind-code service client kept avps))
    ] refl

kind-success : (n : ℕ) → reply_code (result_class n) ≡ 2 → is_success n ≡ true
kind-success n two = grind (arith, two)

-- a reply of code 2 is that of a success
success-of : (service : Service) (client : Client) (kept : Kept) (header : Header) (avps : List AvpParts) → reply_code (class_of service client kept header avps) ≡ 2 → is_success (result_code avps) ≡ true
success-of service client kept header avps two =
    kind-success (result_code avps) (by-avps service client kept header avps (fit-code service client kept header avps two))

-- and of an answer without flag E
clear-by : (service : Service) (client : Client) (kept : Kept) (header : Header) (avps : List AvpParts) → reply_code (class_by_avps service client kept header avps) ≡ 2 → is_error header ≡ false
clear-by service client kept header avps =
    elim (is_error header) as (λ b. is_error header ≡ b → reply_code (class_by_avps service client kept header avps) ≡ 2 → b ≡ false) [
      | true ↦ (λ h. rw h (λ e. absurd (omega arith)))
      | false ↦ (λ h e. refl)
    ] refl

clear-flag : (flag : Bool) → not flag ≡ false → flag ≡ true
clear-flag true e = refl
clear-flag false e = absurd (cc)

clear-of : (service : Service) (client : Client) (kept : Kept) (header : Header) (avps : List AvpParts) → reply_code (class_of service client kept header avps) ≡ 2 → bit_and header.flags 32 ≡ 0
clear-of service client kept header avps two =
    eqb-true _ _ (clear-flag (bit_and header.flags 32 == 0) (clear-by service client kept header avps (fit-code service client kept header avps two)))

session-of : (service : Service) (client : Client) (kept : Kept) (header : Header) (avps : List AvpParts) → reply_code (class_of service client kept header avps) ≡ 2 → has_own_session kept.session avps ≡ true
unfolding class_of
session-of service client kept header avps two = grind (arith, two)

list-accepts : (service : Service) (client : Client) (kept : Kept) (message : MessageParts) (numbers : Numbers) (list : Result (List AvpParts) AvpFault) → read_avps message.avps ≡ list → code_in (outcome_in service client kept message.header list numbers).reply ≡ 2 → Accepts message kept.session
list-accepts service client kept message numbers (Ok avps) read two =
    let is : reply_code (class_of service client kept message.header avps) ≡ 2 = sym (reply-code service client kept message.header avps numbers) ∙ two in
    record {
      sound = clear-of service client kept message.header avps is;
      avps = avps;
      read = read;
      success = success-of service client kept message.header avps is;
      own = session-of service client kept message.header avps is;
    }
list-accepts service client kept message numbers (Err fault) read two =
    let is : ◌≡◌ {A = ℕ} 3 2 = sym (rotten-code service client kept message.header fault numbers) ∙ two in
    absurd (omega arith)

access-accepts : (service : Service) (client : Client) (kept : Kept) (message : MessageParts) (numbers : Numbers) → code_in (access.outcome service client kept message numbers).reply ≡ 2 → Accepts message kept.session
unfolding access.outcome
access-accepts service client kept message numbers two = list-accepts service client kept message numbers (read_avps message.avps) refl two

if-code : (b : Bool) (client : Client) (kept : Kept) → code_in (reply_if b client kept) ≡ 2 → ⊥
unfolding bare_reply reply_text packet_text
if-code true client kept two = absurd (omega arith)
if-code false client kept two = absurd (omega arith)

record-unaccepted : (client : Client) (kept : Kept) (message : MessageParts) (numbers : Numbers) → code_in (accounting.outcome client kept message numbers).reply ≡ 2 → ⊥
unfolding accounting.outcome
record-unaccepted client kept message numbers two = if-code (is_accepted kept message) client kept two

-- a reply of code 2 accepts the request, which is one for access
outcome-accepts : (kind : Kind2) (client : Client) (kept : Kept) (message : MessageParts) (numbers : Numbers) → code_in (outcome kind client kept message numbers).reply ≡ 2 → (asks_for_access kind ≡ true) × Accepts message kept.session
outcome-accepts Access client kept message numbers two = (refl, access-accepts services.Nasreq client kept message numbers two)
outcome-accepts Eap client kept message numbers two = (refl, access-accepts services.Eap client kept message numbers two)
outcome-accepts Start client kept message numbers two = absurd (record-unaccepted client kept message numbers two)
outcome-accepts Interim client kept message numbers two = absurd (record-unaccepted client kept message numbers two)
outcome-accepts Stop client kept message numbers two = absurd (record-unaccepted client kept message numbers two)

-- ---- the places

abbrev GuardedAt : Config → List Place → Place → Type 0
GuardedAt config ps p = AllByRecursion (IsGuarded config ps p) p.outputs

repeated-guarded : (config : Config) (ps : List Place) (p : Place) (t : Taking) (o : Option (Option (List ℕ))) → come_again config ps p.moment p.input ≡ Some t → answer_to t.place ps ≡ o → AllByRecursion (IsGuarded config ps p) (repeated t.key o)
repeated-guarded config ps p t None comes got = (tt, tt)
repeated-guarded config ps p t (Some None) comes got = (tt, tt)
repeated-guarded config ps p t (Some (Some octets)) comes got = ((λ two. inr (t, (comes, got))), tt)

outcome-guarded : (config : Config) (ps : List Place) (p : Place) (t : Taking) (reply follow : Option (List ℕ)) → p.matched ≡ Some t → (code_in reply ≡ 2 → IsAccepted p.input t) → AllByRecursion (IsGuarded config ps p) (reply_outputs t.key reply ++ option_to_list (option_map Send follow))
outcome-guarded config ps p t None None matched accepts = tt
outcome-guarded config ps p t None (Some more) matched accepts = (tt, tt)
outcome-guarded config ps p t (Some octets) None matched accepts = ((λ two. inl (t, (matched, accepts two))), tt)
outcome-guarded config ps p t (Some octets) (Some more) matched accepts = ((λ two. inl (t, (matched, accepts two))), (tt, tt))

unmatched-guarded : (config : Config) (ps : List Place) (p : Place) (b : Bool) → AllByRecursion (IsGuarded config ps p) (cond b [] (Dropped reasons.Unmatched ∷ []))
unmatched-guarded config ps p true = tt
unmatched-guarded config ps p false = (tt, tt)

guarded-at : (config : Config) (ps : List Place) (m : ℕ) (input : Input) → GuardedAt config ps (at_input config ps m input)
guarded-at config ps m input = place-by (GuardedAt config ps) config ps m input (record {
  drained = λ quiet. tt;
  dropped = λ quiet reason. (tt, tt);
  repeats = λ quiet t comes. repeated-guarded config ps (still config ps m input (repeated t.key (answer_to t.place ps))) t (answer_to t.place ps) comes refl;
  takes = λ quiet request takes. (tt, tt);
  links = λ apart event message begun.
      let p = linked config ps m input event message in
      links-each (IsGuarded config ps p) (λ octets. tt) (λ cause. tt) (λ reason. tt) (link_output config ps m input event message) p.resent;
  unmatched = λ octets message comes.
      unmatched-guarded config ps (answered config ps m message (linked config ps m (Message octets) (Says (said_in message)) (Some message)) None) (message.header.command == 275);
  matched = λ octets message comes t found.
      let o = outcome t.kept.kind t.settings t.kept message (next_numbers config ps) in
      outcome-guarded config ps (answered config ps m message (linked config ps m (Message octets) (Says (said_in message)) (Some message)) (Some t)) t o.reply o.follow refl
      (λ two.
      let both = outcome-accepts t.kept.kind t.settings t.kept message (next_numbers config ps) two in
      (both.0, (message, (comes.read, both.1))));
})

pub guarded : AcceptancesAreGuarded
guarded config history e = guarded-at config (past config history) (max (now (past config history)) e.moment) e.input
