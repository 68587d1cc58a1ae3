-- What the maps give is the image and the message of a kind.
use Rattle.std.proofs.Common.{◌≡◌, ℕ, List, ◌⊎◌, inl, inr, Result, sym, ap, subst}
use Rattle.std.specs.Prelude.{IfOk}
use Rattle.std.proofs.lemmas.Result.{IfOk-weaker}
use Rattle.radius_packet.specs.Packet.{PacketParts}
use Rattle.diameter_message.specs.Message.{IsMessage}
use Rattle.session_carrier.specs.Route.{RouteParts}
use Rattle.session_carrier.specs.declared.kept.Kind2.{Kind2}
use Rattle.session_carrier.specs.declared.kept.Kind2.TheVariants.{Start, Interim, Stop}
use Rattle.session_carrier.specs.declared.kept.Numbers.{Numbers}
use Rattle.agent_settings.specs.declared.client.Client.{Client}
use Rattle.accounting_map.specs.Requests as accounting
use Rattle.agent_core.specs.Fits.{header_by}
use Rattle.agent_core.specs.Requests.{image}

-- a message of a kind's header, whatever its AVPs are
abbrev pub IsMessageOf : Kind2 → Numbers → List ℕ → Type 0
IsMessageOf kind numbers octets = (avps : List ℕ) × IsMessage octets (header_by kind numbers) avps

pub has_message : {E : Type 0} (r : Result (List ℕ) E) (kind named : Kind2) (numbers : Numbers) (avps : List ℕ) → kind ≡ named
    → IfOk r (λ o. IsMessage o (header_by named numbers) avps) → IfOk r (IsMessageOf kind numbers)
has_message r kind named numbers avps is given =
    IfOk-weaker r _ _ (λ o (m : IsMessage o (header_by named numbers) avps). subst (λ (k : Kind2). IsMessageOf k numbers o) (sym is) (avps, m)) given

abbrev IsRecordKind : Kind2 → Type 0
IsRecordKind kind = (kind ≡ Start) ⊎ ((kind ≡ Interim) ⊎ (kind ≡ Stop))

pub has_record_message : {E : Type 0} (r : Result (List ℕ) E) (kind : Kind2) (numbers : Numbers) (avps : List ℕ) → IsRecordKind kind
    → IfOk r (λ o. IsMessage o (accounting.request_header numbers) avps) → IfOk r (IsMessageOf kind numbers)
has_record_message r kind numbers avps (inl is) given = has_message r kind Start numbers avps is given
has_record_message r kind numbers avps (inr (inl is)) given = has_message r kind Interim numbers avps is given
has_record_message r kind numbers avps (inr (inr is)) given = has_message r kind Stop numbers avps is given

record_image : (kind : Kind2) (client : Client) (packet : PacketParts) (route : RouteParts) (numbers : Numbers) → IsRecordKind kind
    → accounting.accounting_image client packet route numbers ≡ image kind client packet route numbers
record_image kind client packet route numbers (inl is) = ap (λ (k : Kind2). image k client packet route numbers) (sym is)
record_image kind client packet route numbers (inr (inl is)) = ap (λ (k : Kind2). image k client packet route numbers) (sym is)
record_image kind client packet route numbers (inr (inr is)) = ap (λ (k : Kind2). image k client packet route numbers) (sym is)

pub is_record_image : {E : Type 0} (r : Result (List ℕ) E) (kind : Kind2) (client : Client) (packet : PacketParts) (route : RouteParts)
    (numbers : Numbers) → IsRecordKind kind → IfOk r (λ o. o ≡ accounting.accounting_image client packet route numbers)
    → IfOk r (λ o. o ≡ image kind client packet route numbers)
is_record_image r kind client packet route numbers is given =
    subst (λ (xs : List ℕ). IfOk r (λ o. o ≡ xs)) (record_image kind client packet route numbers is) given
