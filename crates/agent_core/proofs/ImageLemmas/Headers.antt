-- The headers of the requests that are sent.
use Rattle.std.proofs.Common.{◌≡◌, ℕ, ◌<◌, ◌^◌, Bool, true, false, List, Option, Some, None, refl, ap, subst, ◌∙◌, arith}
use Rattle.radius_packet.specs.Packet.{PacketParts}
use Rattle.wire_core.specs.Numbers.{number, u24, u32}
use Rattle.wire_core.proofs.NumberLemmas.{number-u24, number-u32}
use Rattle.diameter_message.specs.declared.header.Header.{Header}
use Rattle.diameter_message.specs.Message.{header_text, message_text, IsHeader, IsMessage, MessageParts}
use Rattle.diameter_message.specs.Retransmission.{retransmission_header}
use Rattle.session_carrier.specs.Route.{RouteParts}
use Rattle.session_carrier.specs.declared.kept.Kept.{Kept}
use Rattle.session_carrier.specs.declared.kept.Kind2.{Kind2}
use Rattle.session_carrier.specs.declared.kept.Kind2.TheVariants.{Access, Eap, Start, Interim, Stop}
use Rattle.session_carrier.specs.declared.kept.Numbers.{Numbers}
use Rattle.agent_settings.specs.declared.client.Client.{Client}
use Rattle.translation.specs.Termination.{termination_header, termination_text}
use Rattle.access_map.specs.Requests.{access_image}
use Rattle.eap_map.specs.Requests.{eap_image}
use Rattle.accounting_map.specs.Answers.{follow_of, outcome}
use Rattle.accounting_map.specs.Requests.{accounting_image}
use Rattle.agent_core.specs.Fits.{header_by}
use Rattle.agent_core.specs.Places.{header_of, is_application_request, is_base_request, is_first_request}
use Rattle.agent_core.specs.Requests.{image}

abbrev header : ℕ → ℕ → ℕ → ℕ → ℕ → Header
header flags command application hop end =
    record { flags = flags; command = command; application = application; hop = hop; end = end }

-- what was written is read
pub header_of-text : (h : Header) (avps : List ℕ) → IsHeader h → header_of (message_text h avps) ≡ h
unfolding message_text header_text u24 u32
header_of-text h avps is =
    ap (λ (x : ℕ). header h.flags x (number (u32 h.application)) (number (u32 h.hop)) (number (u32 h.end))) (number-u24 h.command is.command)
    ∙ ap (λ (x : ℕ). header h.flags h.command x (number (u32 h.hop)) (number (u32 h.end))) (number-u32 h.application is.application)
    ∙ ap (λ (x : ℕ). header h.flags h.command h.application x (number (u32 h.end))) (number-u32 h.hop is.hop)
    ∙ ap (λ (x : ℕ). header h.flags h.command h.application h.hop x) (number-u32 h.end is.end)

pub header_of-message : (octets : List ℕ) (h : Header) (avps : List ℕ) → IsMessage octets h avps → header_of octets ≡ h
header_of-message octets h avps is = ap header_of is.text ∙ header_of-text h avps is.header

-- each fits its field
pub record AreNumbers (numbers : Numbers) : Type 0 where
  pub hop : numbers.hop < 2 ^ 32
  pub end : numbers.end < 2 ^ 32

request_fits : (command application : ℕ) (numbers : Numbers) → AreNumbers numbers → command < 2 ^ 24 → application < 2 ^ 32
    → IsHeader (header 192 command application numbers.hop numbers.end)
request_fits command application numbers are command_fits application_fits =
    record { flags = omega arith; command = command_fits; application = application_fits; hop = are.hop; end = are.end }

-- ---- what counts

-- an application request, and the first with its end or not
pub record Counts (first : Bool) (h : Header) : Type 0 where
  pub application : is_application_request h ≡ true
  pub base : is_base_request h ≡ false
  pub first_is : is_first_request h ≡ first

pub header_by-counts : (kind : Kind2) (numbers : Numbers) → Counts true (header_by kind numbers)
header_by-counts Access numbers = record { application = refl; base = refl; first_is = refl }
header_by-counts Eap numbers = record { application = refl; base = refl; first_is = refl }
header_by-counts Start numbers = record { application = refl; base = refl; first_is = refl }
header_by-counts Interim numbers = record { application = refl; base = refl; first_is = refl }
header_by-counts Stop numbers = record { application = refl; base = refl; first_is = refl }

pub sent_again-counts : (kind : Kind2) (numbers : Numbers) (hop : ℕ) → Counts false (retransmission_header (header_by kind numbers) hop)
sent_again-counts Access numbers hop = record { application = refl; base = refl; first_is = refl }
sent_again-counts Eap numbers hop = record { application = refl; base = refl; first_is = refl }
sent_again-counts Start numbers hop = record { application = refl; base = refl; first_is = refl }
sent_again-counts Interim numbers hop = record { application = refl; base = refl; first_is = refl }
sent_again-counts Stop numbers hop = record { application = refl; base = refl; first_is = refl }

pub termination_header-counts : (application : ℕ) (numbers : Numbers) → Counts true (termination_header application numbers)
termination_header-counts application numbers = record { application = refl; base = refl; first_is = refl }

-- ---- a request that is taken up

pub header_of-image : (kind : Kind2) (client : Client) (packet : PacketParts) (route : RouteParts) (numbers : Numbers) → AreNumbers numbers
    → header_of (image kind client packet route numbers) ≡ header_by kind numbers
unfolding access_image eap_image accounting_image
header_of-image Access client packet route numbers are = header_of-text _ _ (request_fits 265 1 numbers are (omega arith) (omega arith))
header_of-image Eap client packet route numbers are = header_of-text _ _ (request_fits 268 5 numbers are (omega arith) (omega arith))
header_of-image Start client packet route numbers are = header_of-text _ _ (request_fits 271 3 numbers are (omega arith) (omega arith))
header_of-image Interim client packet route numbers are = header_of-text _ _ (request_fits 271 3 numbers are (omega arith) (omega arith))
header_of-image Stop client packet route numbers are = header_of-text _ _ (request_fits 271 3 numbers are (omega arith) (omega arith))

-- ---- a further request

-- the request that ends a session, for some application
abbrev pub EndsSession : Numbers → List ℕ → Type 0
EndsSession numbers octets = (application : ℕ) × (header_of octets ≡ termination_header application numbers)

pub header_of-termination : (client : Client) (kept : Kept) (application cause : ℕ) (host : Option (List ℕ)) (numbers : Numbers) → AreNumbers numbers
    → application < 2 ^ 32 → EndsSession numbers (termination_text client kept application cause host numbers)
unfolding termination_text
header_of-termination client kept application cause host numbers are fits =
    (application, header_of-text _ _ (request_fits 275 application numbers are (omega arith) fits))

pub some_is : (x y : List ℕ) → Some x ≡ Some y → x ≡ y
some_is x y is = cc

accounting_follow : (kind : Kind2) (client : Client) (kept : Kept) (numbers : Numbers) (octets : List ℕ) → AreNumbers numbers
    → follow_of kind client kept numbers ≡ Some octets → EndsSession numbers octets
accounting_follow Stop client kept numbers octets are is =
    subst (EndsSession numbers) (some_is _ _ is) (header_of-termination client kept 1 kept.cause None numbers are (omega arith))
accounting_follow Start client kept numbers octets are is = absurd (cc)
accounting_follow Interim client kept numbers octets are is = absurd (cc)
accounting_follow Access client kept numbers octets are is = absurd (cc)
accounting_follow Eap client kept numbers octets are is = absurd (cc)

pub record_follow : (client : Client) (kept : Kept) (message : MessageParts) (numbers : Numbers) (octets : List ℕ) → AreNumbers numbers
    → (outcome client kept message numbers).follow ≡ Some octets → EndsSession numbers octets
unfolding outcome
record_follow client kept message numbers octets are is = accounting_follow kept.kind client kept numbers octets are is
