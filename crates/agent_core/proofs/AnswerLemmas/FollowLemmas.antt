-- The request that follows an answer.
use Rattle.std.proofs.Common.{◌≡◌, ℕ, Bool, true, false, cond, List, [], Option, Some, None, Result, Ok, Err, arith}
use Rattle.diameter_avp.specs.Avps.{AvpParts, read_avps}
use Rattle.diameter_avp.specs.declared.fault.AvpFault.{AvpFault}
use Rattle.diameter_message.specs.declared.header.Header.{Header}
use Rattle.diameter_message.specs.Message.{MessageParts}
use Rattle.diameter_message.specs.Results.{is_success, result_code}
use Rattle.session_carrier.specs.declared.kept.Kept.{Kept}
use Rattle.session_carrier.specs.declared.kept.Numbers.{Numbers}
use Rattle.agent_settings.specs.declared.client.Client.{Client}
use Rattle.translation.specs.Answers.{application_of, bad_follow, class_of, follow_of, outcome, outcome_in}
use Rattle.translation.specs.Reading.{first_identity}
use Rattle.translation.specs.Termination.{termination_text}
use Rattle.translation.specs.declared.service.Service.{Service}

-- it ends the session, for some home server
pub record IsTermination (service : Service) (client : Client) (kept : Kept) (numbers : Numbers) (octets : List ℕ) : Type 0 where
  pub host : Option (List ℕ)
  pub text : octets ≡ termination_text client kept (application_of service) 3 host numbers

of_success : (success : Bool) (text octets : List ℕ) → cond success (Some text) None ≡ Some octets → octets ≡ text
of_success true text octets is = cc
of_success false text octets is = absurd (cc)

of_bad : (service : Service) (client : Client) (kept : Kept) (avps : List AvpParts) (numbers : Numbers) (octets : List ℕ)
    → bad_follow service client kept avps numbers ≡ Some octets → IsTermination service client kept numbers octets
of_bad service client kept avps numbers octets is =
    record { host = first_identity 264 avps; text = of_success (is_success (result_code avps)) _ octets is }

-- only a bad answer is followed
followed : (header : Header) (service : Service) (client : Client) (kept : Kept) (avps : List AvpParts) (numbers : Numbers) (octets : List ℕ)
    → follow_of (class_of service client kept header avps) service client kept avps numbers ≡ Some octets
    → bad_follow service client kept avps numbers ≡ Some octets
followed header service client kept avps numbers octets is = grind (arith, is)

of_list : (list : Result (List AvpParts) AvpFault) (service : Service) (client : Client) (kept : Kept) (header : Header) (numbers : Numbers)
    (octets : List ℕ) → (outcome_in service client kept header list numbers).follow ≡ Some octets
    → IsTermination service client kept numbers octets
of_list (Ok avps) service client kept header numbers octets is =
    of_bad service client kept avps numbers octets (followed header service client kept avps numbers octets is)
of_list (Err fault) service client kept header numbers octets is = of_bad service client kept [] numbers octets is

pub follow_is_termination : (service : Service) (client : Client) (kept : Kept) (message : MessageParts) (numbers : Numbers) (octets : List ℕ)
    → (outcome service client kept message numbers).follow ≡ Some octets → IsTermination service client kept numbers octets
unfolding outcome
follow_is_termination service client kept message numbers octets is =
    of_list (read_avps message.avps) service client kept message.header numbers octets is
