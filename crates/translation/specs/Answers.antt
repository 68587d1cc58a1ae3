-- What an answer to a request for access causes (RFC 4005, sections 3.2 and 9; RFC 4072, section 3.2). The cases stand
-- in the order in which they are tried (profile).
use Rattle.std.specs.Prelude.{ℕ, Bool, ◌==◌, not, ◌&&◌, List, [], Option, Some, None, is_none, bit_and, Result, Ok, Err, if◌then◌else◌}
use Rattle.diameter_avp.specs.Avps.{AvpParts, read_avps}
use Rattle.diameter_avp.specs.declared.fault.AvpFault.{AvpFault}
use Rattle.diameter_message.specs.declared.header.Header.{Header}
use Rattle.diameter_message.specs.Message.{MessageParts}
use Rattle.diameter_message.specs.Results.{is_success, result_code}
use Rattle.session_carrier.specs.declared.kept.Kept.{Kept}
use Rattle.session_carrier.specs.declared.kept.Numbers.{Numbers}
use Rattle.session_carrier.specs.declared.kept.Outcome.{Outcome}
use Rattle.agent_settings.specs.declared.client.Client.{Client}
use Rattle.translation.specs.declared.service.Service.{Service}
use Rattle.translation.specs.declared.service.Service.TheVariants.{Nasreq, Eap}
use Rattle.translation.specs.declared.class.Class.{Class}
use Rattle.translation.specs.declared.class.Class.TheVariants.{Bad, Refusal, Challenge, Success}
use Rattle.translation.specs.Reading.{has_own_session, has_unknown, has_key, has_fault, has_bad_payload, is_challenge, result_class, first_identity}
use Rattle.translation.specs.Replies.{carrier_value, reply_attributes, fits_packet, access_reply}
use Rattle.translation.specs.Termination.{termination_text}

-- ---- the cases

-- flag E is set (RFC 6733, section 3)
abbrev pub is_error : Header → Bool
is_error header = not (bit_and header.flags 32 == 0)

-- there is not exactly one Session-Id, or it is not the request's
abbrev pub is_of_other_session : Kept → List AvpParts → Bool
is_of_other_session kept avps = not (has_own_session kept.session avps)

-- a success with a key, unless the client leaves keys out
abbrev pub has_refused_key : Client → List AvpParts → Bool
has_refused_key client avps = is_success (result_code avps) && has_key avps && not client.omit_keys

-- a challenge whose State can't be made
abbrev pub is_stateless : Class → Kept → List AvpParts → Bool
is_stateless kind kept avps = is_challenge kind && is_none (carrier_value kind kept.session avps)

-- an answer without flag E, of this kind by its Result-Code
abbrev pub class_of_kind : Class → Service → Client → Kept → List AvpParts → Class
class_of_kind kind service client kept avps =
    if is_of_other_session kept avps then Bad
    else if has_unknown avps then Bad
    else if has_refused_key client avps then Bad
    else if has_fault kind avps then Bad
    else if has_bad_payload service kind avps then Bad
    else if is_stateless kind kept avps then Bad
    else kind

-- the class before the length of the reply is looked at
abbrev pub class_by_avps : Service → Client → Kept → Header → List AvpParts → Class
class_by_avps service client kept header avps =
    if is_error header then Refusal else class_of_kind (result_class (result_code avps)) service client kept avps

-- a reply that would pass 4096 octets makes the answer bad
abbrev pub class_that_fits : Service → Class → Kept → List AvpParts → Class
class_that_fits service class kept avps = if fits_packet (reply_attributes service class kept avps) then class else Bad

-- the class of an answer whose AVPs can be read
unfoldable pub class_of : Service → Client → Kept → Header → List AvpParts → Class
class_of service client kept header avps = class_that_fits service (class_by_avps service client kept header avps) kept avps

-- ---- what follows

-- (RFC 4005, section 1.1; RFC 4072, section 2.1)
abbrev pub application_of : Service → ℕ
application_of Nasreq = 1
application_of Eap = 5

-- a session that the server granted and the client is refused is ended: DIAMETER_BAD_ANSWER (RFC 6733, section 8.15)
abbrev pub bad_follow : Service → Client → Kept → List AvpParts → Numbers → Option (List ℕ)
bad_follow service client kept avps numbers =
    if is_success (result_code avps)
    then Some (termination_text client kept (application_of service) 3 (first_identity 264 avps) numbers)
    else None

abbrev pub follow_of : Class → Service → Client → Kept → List AvpParts → Numbers → Option (List ℕ)
follow_of Bad service client kept avps numbers = bad_follow service client kept avps numbers
follow_of _ service client kept avps numbers = None

-- ---- the outcome

abbrev pub outcome_of : Class → Service → Client → Kept → List AvpParts → Numbers → Outcome
outcome_of class service client kept avps numbers = record {
  reply = Some (access_reply service class client kept avps);
  follow = follow_of class service client kept avps numbers;
}

-- where the AVPs can't be read the answer is bad, and nothing of it is known
abbrev pub outcome_in : Service → Client → Kept → Header → Result (List AvpParts) AvpFault → Numbers → Outcome
outcome_in service client kept header (Ok avps) numbers =
    outcome_of (class_of service client kept header avps) service client kept avps numbers
outcome_in service client kept header (Err fault) numbers = outcome_of Bad service client kept [] numbers

-- the reply, and the request that follows
unfoldable pub outcome : Service → Client → Kept → MessageParts → Numbers → Outcome
outcome service client kept message numbers =
    outcome_in service client kept message.header (read_avps message.avps) numbers
