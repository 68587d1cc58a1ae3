-- Why an answer of the home server doesn't give what it says: an Access-Reject in its place, or no Accounting-Response. The
-- cases stand in the order in which they are tried (profile).
use Rattle.std.specs.Prelude.{ℕ, Bool, not, ◌&&◌, List, [], ◌∷◌, find, Option, Some, None, option_map, Result, Ok, Err, if◌then◌else◌}
use Rattle.std.specs.Option.{option_or}
use Rattle.diameter_avp.specs.Avps.{AvpParts, is_mandatory, read_avps}
use Rattle.diameter_avp.specs.declared.fault.AvpFault.{AvpFault}
use Rattle.diameter_message.specs.declared.header.Header.{Header}
use Rattle.diameter_message.specs.Message.{MessageParts}
use Rattle.diameter_message.specs.Results.{is_success, result_code}
use Rattle.session_carrier.specs.declared.kept.Kept.{Kept}
use Rattle.session_carrier.specs.declared.kept.Kind2.{Kind2}
use Rattle.session_carrier.specs.declared.kept.Kind2.TheVariants.{Access, Eap, Start, Interim, Stop}
use Rattle.agent_settings.specs.declared.client.Client.{Client}
use Rattle.translation.specs.declared.service.Service.{Service}
use Rattle.translation.specs.declared.service.Service.TheVariants as services
use Rattle.translation.specs.declared.class.Class.{Class}
use Rattle.translation.specs.declared.class.Class.TheVariants.{Refusal}
use Rattle.translation.specs.Answers.{is_error, is_of_other_session, is_stateless}
use Rattle.translation.specs.Pushing.{next_number}
use Rattle.translation.specs.Reading.{has_bad_payload, holds_key, is_faulty, is_unknown, result_class}
use Rattle.translation.specs.Replies.{fits_packet, reply_attributes}
use Rattle.answer_causes.specs.declared.cause.Cause.{Cause}
use Rattle.answer_causes.specs.declared.cause.Cause.TheVariants.{RottenAvps, Error, OtherSession, UnknownAvp, KeyRefused, BadValue, EapPayload, NoState, TooLong, Refused}

abbrev pub when : Bool → Cause → Option Cause
when stands cause = if stands then Some cause else None

-- the first AVP that must be understood and isn't
abbrev pub unknown : List AvpParts → Option Cause
unknown avps = option_map (λ a. UnknownAvp a.code a.vendor) (find is_unknown avps)

-- ---- access

-- the first key, or group with a key, of a success for a client that is refused then
abbrev pub refused_key : Client → List AvpParts → Option Cause
refused_key client avps =
    if is_success (result_code avps) && not client.omit_keys then option_map (λ a. KeyRefused a.code) (find holds_key avps) else None

-- the first AVP that must become attributes and can't, where the next group has this number
abbrev pub first_faulty : Class → ℕ → List AvpParts → Option AvpParts
first_faulty class number [] = None
first_faulty class number (a ∷ avps) =
    if is_mandatory a && is_faulty class number a then Some a else first_faulty class (next_number number a) avps

abbrev pub bad_value : Class → List AvpParts → Option Cause
bad_value class avps = option_map (λ a. BadValue a.code) (first_faulty class 1 avps)

abbrev pub too_long : Service → Class → Kept → List AvpParts → Option Cause
too_long service class kept avps = when (not (fits_packet (reply_attributes service class kept avps))) TooLong

-- of an answer without flag E, of this kind by its Result-Code: by its AVPs
abbrev pub avp_cause : Class → Client → List AvpParts → Option Cause
avp_cause kind client avps = option_or (unknown avps) (option_or (refused_key client avps) (bad_value kind avps))

-- and by the reply that it would give
abbrev pub kind_cause : Class → Service → Client → Kept → List AvpParts → Option Cause
kind_cause kind service client kept avps =
    option_or (when (is_of_other_session kept avps) OtherSession)
    (option_or (avp_cause kind client avps)
    (option_or (when (has_bad_payload service kind avps) EapPayload)
    (option_or (when (is_stateless kind kept avps) NoState)
    (too_long service kind kept avps))))

abbrev pub access_cause : Service → Client → Kept → Header → List AvpParts → Option Cause
access_cause service client kept header avps =
    if is_error header then too_long service Refusal kept avps else kind_cause (result_class (result_code avps)) service client kept avps

-- ---- accounting

abbrev pub accounting_cause : Kept → Header → List AvpParts → Option Cause
accounting_cause kept header avps =
    option_or (when (is_error header) (Error (result_code avps)))
    (option_or (when (is_of_other_session kept avps) OtherSession)
    (option_or (unknown avps)
    (when (not (is_success (result_code avps))) (Refused (result_code avps)))))

-- ---- together

-- a session of a request for access has room in a Class
abbrev pub longest_session : Kind2 → ℕ
longest_session Access = 244
longest_session Eap = 244
longest_session Start = 1024
longest_session Interim = 1024
longest_session Stop = 1024

abbrev pub cause_by_kind : Kind2 → Client → Kept → Header → List AvpParts → Option Cause
cause_by_kind Access client kept header avps = access_cause services.Nasreq client kept header avps
cause_by_kind Eap client kept header avps = access_cause services.Eap client kept header avps
cause_by_kind Start client kept header avps = accounting_cause kept header avps
cause_by_kind Interim client kept header avps = accounting_cause kept header avps
cause_by_kind Stop client kept header avps = accounting_cause kept header avps

-- where the AVPs can't be read, that is the cause
abbrev pub cause_in : Client → Kept → Header → Result (List AvpParts) AvpFault → Option Cause
cause_in client kept header (Ok avps) = cause_by_kind kept.kind client kept header avps
cause_in client kept header (Err fault) = Some RottenAvps

unfoldable pub cause : Client → Kept → MessageParts → Option Cause
cause client kept message = cause_in client kept message.header (read_avps message.avps)
