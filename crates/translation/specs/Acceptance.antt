-- Whether the home server took a record (RFC 6733, section 9.4).
use Rattle.std.specs.Prelude.{Bool, false, not, ◌&&◌, List, Result, Ok, Err}
use Rattle.diameter_avp.specs.Avps.{AvpParts, read_avps}
use Rattle.diameter_avp.specs.declared.fault.AvpFault.{AvpFault}
use Rattle.diameter_message.specs.declared.header.Header.{Header}
use Rattle.diameter_message.specs.Message.{MessageParts}
use Rattle.diameter_message.specs.Results.{is_success, result_code}
use Rattle.session_carrier.specs.declared.kept.Kept.{Kept}
use Rattle.translation.specs.Reading.{has_unknown}
use Rattle.translation.specs.Answers.{is_error, is_of_other_session}

-- none of the first cases of an answer stands, and the Result-Code is one of success
abbrev pub is_acceptance : Kept → Header → List AvpParts → Bool
is_acceptance kept header avps =
    not (is_error header) && not (is_of_other_session kept avps) && not (has_unknown avps)
    && is_success (result_code avps)

-- the first case: the AVPs can't be read
abbrev pub is_acceptance_in : Kept → Header → Result (List AvpParts) AvpFault → Bool
is_acceptance_in kept header (Err fault) = false
is_acceptance_in kept header (Ok avps) = is_acceptance kept header avps

unfoldable pub is_accepted : Kept → MessageParts → Bool
is_accepted kept message = is_acceptance_in kept message.header (read_avps message.avps)
