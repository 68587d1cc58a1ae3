-- An answer has a cause exactly where it is bad.
use Rattle.std.proofs.Common.{◌≡◌, ℕ, Bool, true, false, cond, not, ◌&&◌, ◌||◌, List, [], ◌∷◌, Option, Some, None, option_map, refl, sym, ap, ◌∙◌}
use Rattle.std.specs.Option.{is_some, option_or}
use Rattle.std.specs.List.{find, list_any}
use Rattle.diameter_avp.specs.Avps.{AvpParts, is_mandatory}
use Rattle.diameter_message.specs.declared.header.Header.{Header}
use Rattle.diameter_message.specs.Results.{is_success, result_code}
use Rattle.session_carrier.specs.declared.kept.Kept.{Kept}
use Rattle.agent_settings.specs.declared.client.Client.{Client}
use Rattle.translation.specs.declared.service.Service.{Service}
use Rattle.translation.specs.declared.class.Class.{Class}
use Rattle.translation.specs.declared.class.Class.TheVariants.{Bad, Refusal, Challenge, Success}
use Rattle.translation.specs.Acceptance.{is_acceptance}
use Rattle.translation.specs.Answers.{class_of, has_refused_key, is_error, is_of_other_session, is_stateless}
use Rattle.translation.specs.Pushing.{fault_from, next_number}
use Rattle.translation.specs.Reading.{has_bad_payload, has_fault, has_key, has_unknown, holds_key, is_faulty, is_unknown, result_class}
use Rattle.translation.specs.Replies.{fits_packet, reply_attributes}
use Rattle.translation.proofs.ReplyImages.{fault_by_place}
use Rattle.answer_causes.specs.declared.cause.Cause.{Cause}
use Rattle.answer_causes.specs.declared.cause.Cause.TheVariants.{EapPayload, Error, KeyRefused, NoState, OtherSession, Refused, TooLong}
use Rattle.answer_causes.specs.CauseLaws.{is_bad}
use Rattle.answer_causes.specs.Causes.{access_cause, accounting_cause, bad_value, first_faulty, refused_key, unknown, when}

-- ---- single cases

found-any : {A : Type 0} (f : A → Cause) (test : A → Bool) (xs : List A) → is_some (option_map f (find test xs)) ≡ list_any test xs
found-any f test [] = refl
found-any f test (x ∷ xs) = elim (test x) as (λ b. is_some (option_map f (cond b (Some x) (find test xs))) ≡ (b || list_any test xs)) [
  | true ↦ refl
  | false ↦ found-any f test xs
]

pub unknown-is : (avps : List AvpParts) → is_some (unknown avps) ≡ has_unknown avps
unknown-is avps = found-any _ is_unknown avps

key-cases : (success omit : Bool) (key : Option Cause) → is_some (cond (success && not omit) key None) ≡ (success && is_some key && not omit)
key-cases true true None = refl
key-cases true true (Some c) = refl
key-cases true false None = refl
key-cases true false (Some c) = refl
key-cases false omit key = refl

key-is : (client : Client) (avps : List AvpParts) → is_some (refused_key client avps) ≡ has_refused_key client avps
key-is client avps =
    key-cases (is_success (result_code avps)) client.omit_keys (option_map (λ a. KeyRefused a.code) (find holds_key avps))
    ∙ ap (λ b. is_success (result_code avps) && b && not client.omit_keys) (found-any (λ a. KeyRefused a.code) holds_key avps)

faulty-from : (f : AvpParts → Cause) (class : Class) (number : ℕ) (avps : List AvpParts) → is_some (option_map f (first_faulty class number avps)) ≡ fault_from class number avps
faulty-from f class number [] = refl
faulty-from f class number (a ∷ avps) =
    elim (is_mandatory a && is_faulty class number a) as
    (λ b. is_some (option_map f (cond b (Some a) (first_faulty class (next_number number a) avps))) ≡ (b || fault_from class (next_number number a) avps)) [
      | true ↦ refl
      | false ↦ faulty-from f class (next_number number a) avps
    ]

value-is : (class : Class) (avps : List AvpParts) → is_some (bad_value class avps) ≡ has_fault class avps
value-is class avps = faulty-from _ class 1 avps ∙ fault_by_place class [] avps

-- ---- access

bad-anyway : (b : Bool) → is_bad (cond b Bad Bad) ≡ true
bad-anyway true = refl
bad-anyway false = refl

fits-or : (kind : Class) (b : Bool) → is_bad kind ≡ false → is_some (when (not b) TooLong) ≡ is_bad (cond b kind Bad)
fits-or kind true good = sym good
fits-or kind false good = refl

never-bad : (challenge success : Bool) → is_bad (cond challenge Challenge (cond success Success Refusal)) ≡ false
never-bad true success = refl
never-bad false true = refl
never-bad false false = refl

abbrev fitting : (Class → Bool) → Class → Class
fitting fits class = cond (fits class) class Bad

access-cases : (fits : Class → Bool) (kind : Class) (other : Bool) (unknown key value : Option Cause) (payload state : Bool) → is_bad kind ≡ false
    → is_some (option_or (when other OtherSession) (option_or (option_or unknown (option_or key value)) (option_or (when payload EapPayload) (option_or (when state NoState) (when (not (fits kind)) TooLong)))))
    ≡ is_bad (fitting fits (cond other Bad (cond (is_some unknown) Bad (cond (is_some key) Bad (cond (is_some value) Bad (cond payload Bad (cond state Bad kind)))))))
access-cases fits kind true unknown key value payload state good = sym (bad-anyway (fits Bad))
access-cases fits kind false (Some c) key value payload state good = sym (bad-anyway (fits Bad))
access-cases fits kind false None (Some c) value payload state good = sym (bad-anyway (fits Bad))
access-cases fits kind false None None (Some c) payload state good = sym (bad-anyway (fits Bad))
access-cases fits kind false None None None true state good = sym (bad-anyway (fits Bad))
access-cases fits kind false None None None false true good = sym (bad-anyway (fits Bad))
access-cases fits kind false None None None false false good = fits-or kind (fits kind) good

by-error : (error : Bool) (fits : Class → Bool) (kind : Class) (cause : Option Cause) → is_some cause ≡ is_bad (fitting fits kind)
    → is_some (cond error (when (not (fits Refusal)) TooLong) cause) ≡ is_bad (fitting fits (cond error Refusal kind))
by-error true fits kind cause is = fits-or Refusal (fits Refusal) refl
by-error false fits kind cause is = is

pub access-is : (service : Service) (client : Client) (kept : Kept) (header : Header) (avps : List AvpParts)
    → is_some (access_cause service client kept header avps) ≡ is_bad (class_of service client kept header avps)
unfolding class_of
access-is service client kept header avps =
    let fits = λ (class : Class). fits_packet (reply_attributes service class kept avps) in
    let kind = result_class (result_code avps) in
    by-error (is_error header) fits _ _
    (rw (sym (unknown-is avps), sym (key-is client avps), sym (value-is kind avps))
    (access-cases fits kind (is_of_other_session kept avps) (unknown avps) (refused_key client avps) (bad_value kind avps) (has_bad_payload service kind avps) (is_stateless kind kept avps)
    (never-bad _ _)))

-- ---- accounting

accounting-cases : (error other : Bool) (unknown : Option Cause) (success : Bool) (result : ℕ)
    → is_some (option_or (when error (Error result)) (option_or (when other OtherSession) (option_or unknown (when (not success) (Refused result)))))
    ≡ not (not error && not other && not (is_some unknown) && success)
accounting-cases true other unknown success result = refl
accounting-cases false true unknown success result = refl
accounting-cases false false (Some c) success result = refl
accounting-cases false false None true result = refl
accounting-cases false false None false result = refl

pub accounting-is : (kept : Kept) (header : Header) (avps : List AvpParts) → is_some (accounting_cause kept header avps) ≡ not (is_acceptance kept header avps)
accounting-is kept header avps =
    accounting-cases (is_error header) (is_of_other_session kept avps) (unknown avps) (is_success (result_code avps)) (result_code avps)
    ∙ ap (λ b. not (not (is_error header) && not (is_of_other_session kept avps) && not b && is_success (result_code avps))) (unknown-is avps)
