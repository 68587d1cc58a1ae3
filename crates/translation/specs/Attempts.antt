-- Internal: the class of an answer as the code comes to it.
use Rattle.std.specs.Prelude.{ℕ, Bool, not, ◌&&◌, List, Option, Some, None, if◌then◌else◌}
use Rattle.diameter_avp.specs.Avps.{AvpParts}
use Rattle.diameter_message.specs.declared.header.Header.{Header}
use Rattle.diameter_message.specs.Results.{result_code}
use Rattle.session_carrier.specs.declared.kept.Kept.{Kept}
use Rattle.agent_settings.specs.declared.client.Client.{Client}
use Rattle.translation.specs.declared.service.Service.{Service}
use Rattle.translation.specs.declared.class.Class.{Class}
use Rattle.translation.specs.declared.class.Class.TheVariants.{Bad, Refusal, Challenge, Success}
use Rattle.translation.specs.Reading.{has_fault, has_unknown, has_bad_payload, result_class}
use Rattle.translation.specs.Replies.{reply_attributes, fits_packet, access_reply}
use Rattle.translation.specs.Answers.{is_error, is_of_other_session, has_refused_key, is_stateless}

-- the reply of a class, where it can be made
abbrev pub reply_in : Service → Class → Client → Kept → List AvpParts → Bool → Option (List ℕ)
reply_in service class client kept avps strict =
    if is_stateless class kept avps then None
    else if not (strict && has_fault class avps) && fits_packet (reply_attributes service class kept avps)
    then Some (access_reply service class client kept avps) else None

-- the class before values, State and length are looked at
abbrev pub first_kind : Class → Service → Client → Kept → List AvpParts → Class
first_kind kind service client kept avps =
    if is_of_other_session kept avps then Bad
    else if has_unknown avps then Bad
    else if has_refused_key client avps then Bad
    else if has_bad_payload service kind avps then Bad
    else kind

abbrev pub first_class : Service → Client → Kept → Header → List AvpParts → Class
first_class service client kept header avps =
    if is_error header then Refusal else first_kind (result_class (result_code avps)) service client kept avps

-- the text, unless the class is bad
abbrev pub unless_bad : Class → List ℕ → Option (List ℕ)
unless_bad Bad text = None
unless_bad _ text = Some text
