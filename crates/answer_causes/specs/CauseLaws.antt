-- What holds of causes.
use Rattle.std.specs.Prelude.{◌≡◌, Bool, true, false, not, List, is_some}
use Rattle.diameter_avp.specs.Avps.{AvpParts}
use Rattle.diameter_message.specs.declared.header.Header.{Header}
use Rattle.session_carrier.specs.declared.kept.Kept.{Kept}
use Rattle.agent_settings.specs.declared.client.Client.{Client}
use Rattle.translation.specs.declared.service.Service.{Service}
use Rattle.translation.specs.declared.class.Class.{Class}
use Rattle.translation.specs.declared.class.Class.TheVariants.{Bad, Refusal, Challenge, Success}
use Rattle.translation.specs.Acceptance.{is_acceptance}
use Rattle.translation.specs.Answers.{class_of}
use Rattle.answer_causes.specs.Causes.{access_cause, accounting_cause}

abbrev pub is_bad : Class → Bool
is_bad Bad = true
is_bad Refusal = false
is_bad Challenge = false
is_bad Success = false

-- an answer has a cause exactly where it is bad, and one of accounting where it isn't accepted
pub record CausesAreRight : Type 0 where
  pub access : (service : Service) (client : Client) (kept : Kept) (header : Header) (avps : List AvpParts)
      → is_some (access_cause service client kept header avps) ≡ is_bad (class_of service client kept header avps)
  pub accounting : (kept : Kept) (header : Header) (avps : List AvpParts)
      → is_some (accounting_cause kept header avps) ≡ not (is_acceptance kept header avps)
