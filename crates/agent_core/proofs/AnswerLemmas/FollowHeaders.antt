-- The header of what follows an answer.
use Rattle.std.proofs.Common.{◌≡◌, ℕ, ◌<◌, ◌^◌, List, Option, Some, None, refl, sym, ◌∙◌, ap, subst, arith}
use Rattle.diameter_message.specs.Message.{MessageParts}
use Rattle.session_carrier.specs.declared.kept.Kept.{Kept}
use Rattle.session_carrier.specs.declared.kept.Kind2.{Kind2}
use Rattle.session_carrier.specs.declared.kept.Kind2.TheVariants.{Access, Eap, Start, Interim, Stop}
use Rattle.session_carrier.specs.declared.kept.Numbers.{Numbers}
use Rattle.agent_settings.specs.declared.client.Client.{Client}
use Rattle.translation.specs.Answers.{application_of}
use Rattle.translation.specs.Answers as access
use Rattle.translation.specs.declared.service.Service.{Service}
use Rattle.translation.specs.declared.service.Service.TheVariants as services
use Rattle.translation.specs.Termination.{termination_text}
use Rattle.accounting_map.specs.Answers as accounting
use Rattle.agent_core.specs.Places.{Taking}
use Rattle.agent_core.specs.LawsOfSends.{EndsSessionOf, end_application, end_cause}
use Rattle.agent_core.proofs.AnswerLemmas.FollowLemmas as follows
use Rattle.agent_core.specs.History.{outcome}
use Rattle.agent_core.proofs.ImageLemmas.Headers.{header_of-termination, record_follow, some_is, AreNumbers, EndsSession}

application_fits : (service : Service) → application_of service < 2 ^ 32
application_fits services.Nasreq = omega arith
application_fits services.Eap = omega arith

service_follow : (service : Service) (client : Client) (kept : Kept) (message : MessageParts) (numbers : Numbers) (octets : List ℕ)
    → AreNumbers numbers → (access.outcome service client kept message numbers).follow ≡ Some octets → EndsSession numbers octets
service_follow service client kept message numbers octets are is =
    let ends = follows.follow_is_termination service client kept message numbers octets is in
    subst (EndsSession numbers) (sym ends.text)
    (header_of-termination client kept (application_of service) 3 ends.host numbers are (application_fits service))

-- what follows an answer ends the session
pub follow_ends_session : (kind : Kind2) (client : Client) (kept : Kept) (message : MessageParts) (numbers : Numbers) (octets : List ℕ)
    → AreNumbers numbers → (outcome kind client kept message numbers).follow ≡ Some octets → EndsSession numbers octets
follow_ends_session Access client kept message numbers octets are is = service_follow services.Nasreq client kept message numbers octets are is
follow_ends_session Eap client kept message numbers octets are is = service_follow services.Eap client kept message numbers octets are is
follow_ends_session Start client kept message numbers octets are is = record_follow client kept message numbers octets are is
follow_ends_session Interim client kept message numbers octets are is = record_follow client kept message numbers octets are is
follow_ends_session Stop client kept message numbers octets are is = record_follow client kept message numbers octets are is

-- and is the termination of this very request

abbrev Ends : Kind2 → Taking → Numbers → List ℕ → Type 0
Ends kind t numbers octets =
    (host : Option (List ℕ)) × (octets ≡ termination_text t.settings t.kept (end_application kind) (end_cause kind t.kept) host numbers)

record-ends : (t : Taking) (message : MessageParts) (numbers : Numbers) (octets : List ℕ) (kind : Kind2) → t.kept.kind ≡ kind
    → (accounting.outcome t.settings t.kept message numbers).follow ≡ Some octets → accounting.follow_of kind t.settings t.kept numbers ≡ Some octets
unfolding accounting.outcome
record-ends t message numbers octets kind is follows_it =
    sym (ap (λ (k : Kind2). accounting.follow_of k t.settings t.kept numbers) is) ∙ follows_it

ends-by : (kind : Kind2) (t : Taking) (message : MessageParts) (numbers : Numbers) (octets : List ℕ) → t.kept.kind ≡ kind
    → (outcome kind t.settings t.kept message numbers).follow ≡ Some octets → Ends kind t numbers octets
ends-by Access t message numbers octets kind is =
    let e = follows.follow_is_termination services.Nasreq t.settings t.kept message numbers octets is in (e.host, e.text)
ends-by Eap t message numbers octets kind is =
    let e = follows.follow_is_termination services.Eap t.settings t.kept message numbers octets is in (e.host, e.text)
ends-by Start t message numbers octets kind is =
    absurd (let no = record-ends t message numbers octets Start kind is in cc)
ends-by Interim t message numbers octets kind is =
    absurd (let no = record-ends t message numbers octets Interim kind is in cc)
ends-by Stop t message numbers octets kind is =
    (None, some_is _ _ (sym (record-ends t message numbers octets Stop kind is)))

pub follow-ends : (t : Taking) (message : MessageParts) (numbers : Numbers) (octets : List ℕ)
    → (outcome t.kept.kind t.settings t.kept message numbers).follow ≡ Some octets → EndsSessionOf t numbers octets
follow-ends t message numbers octets is =
    let e = ends-by t.kept.kind t message numbers octets refl is in record { host = e.0; text = e.1 }
