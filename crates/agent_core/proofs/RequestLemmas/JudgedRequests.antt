-- What is known of a datagram that was judged.
use Rattle.std.proofs.Common.{◌≡◌, ℕ, ◌≤◌, length, Bool, true, false, cond, eqb, Result, Ok, Err, refl, sym, ap, subst}
use Rattle.std.specs.Prelude.{IfOk, Some, slice_get, ◌||◌}
use Rattle.std.specs.List.{AllByRecursion, list_any}
use Rattle.radius_packet.specs.Packet.{PacketParts, attributes_text}
use Rattle.radius_packet.specs.declared.reasons.Via.{Via}
use Rattle.radius_packet.specs.declared.reasons.Via.TheVariants.{Auth, Acct}
use Rattle.radius_packet.specs.declared.reasons.Reason.{Reason}
use Rattle.radius_packet.specs.declared.reasons.Reason.TheVariants.{OnOff, NoStatus}
use Rattle.session_carrier.specs.declared.kept.Kind2.{Kind2}
use Rattle.session_carrier.specs.declared.kept.Kind2.TheVariants.{Access, Eap, Start, Interim, Stop}
use Rattle.agent_settings.specs.Config.{ClientInLimits}
use Rattle.agent_settings.specs.declared.client.Client.{Client}
use Rattle.agent_settings.specs.declared.config.Config.{Config}
use Rattle.translation.specs.Heads.{is_eap}
use Rattle.translation.specs.Judging.{proxy_states}
use Rattle.access_map.specs.Verdict as access
use Rattle.access_map.proofs.VerdictLemmas as access_lemmas
use Rattle.accounting_map.specs.Verdict as accounting
use Rattle.accounting_map.proofs.VerdictLemmas as accounting_lemmas
use Rattle.agent_core.specs.declared.verdict.Request.{Request as Borrowed}
use Rattle.agent_core.specs.Requests.{is_accounting}
use Rattle.agent_core.specs.Verdict.{kind_at}
use Rattle.agent_core.specs.Verdicts.{via_of, IsJudged, IsRequest, IsShort}

-- ---- the kinds of each port

access_kinds : (eap : Bool) (kind : Kind2) → kind ≡ cond eap Eap Access → is_accounting kind ≡ false
access_kinds true kind is = ap is_accounting is
access_kinds false kind is = ap is_accounting is

of_access : (client : Client) (packet : PacketParts) (kind : Kind2) → access.IsJudged client packet kind
    → is_accounting kind ≡ false → IsJudged kind client packet × (Auth ≡ via_of kind)
of_access client packet Access judged not = (judged, refl)
of_access client packet Eap judged not = (judged, refl)
of_access client packet Start judged not = absurd (cc)
of_access client packet Interim judged not = absurd (cc)
of_access client packet Stop judged not = absurd (cc)

record_kind : (kind got : Kind2) → ◌≡◌ {A = Result Kind2 Reason} (Ok kind) (Ok got) → is_accounting kind ≡ is_accounting got
record_kind kind got is = let same : kind ≡ got = cc in ap is_accounting same

record_kinds : (start stop interim switch : Bool) (kind : Kind2)
    → ◌≡◌ {A = Result Kind2 Reason} (cond start (Ok Start) (cond stop (Ok Stop) (cond interim (Ok Interim) (cond switch (Err OnOff) (Err NoStatus))))) (Ok kind)
    → true ≡ is_accounting kind
record_kinds true stop interim switch kind is = record_kind Start kind is
record_kinds false true interim switch kind is = record_kind Stop kind is
record_kinds false false true switch kind is = record_kind Interim kind is
record_kinds false false false true kind is = absurd (cc)
record_kinds false false false false kind is = absurd (cc)

of_accounting : (client : Client) (packet : PacketParts) (kind : Kind2) → accounting.IsJudged client packet kind
    → true ≡ is_accounting kind → IsJudged kind client packet × (Acct ≡ via_of kind)
of_accounting client packet Access judged is = absurd (cc)
of_accounting client packet Eap judged is = absurd (cc)
of_accounting client packet Start judged is = (judged, refl)
of_accounting client packet Interim judged is = (judged, refl)
of_accounting client packet Stop judged is = (judged, refl)

accounting_kinds : (client : Client) (packet : PacketParts) (kind : Kind2) → accounting.IsJudged client packet kind → true ≡ is_accounting kind
accounting_kinds client packet kind judged =
    let status = accounting.status packet.attributes in
    record_kinds (eqb status 1) (eqb status 2) (eqb status 3) (eqb status 7 || eqb status 8) kind
    (accounting_lemmas.judged-kind client packet kind judged)

-- it is of a kind of its port, which this kind's map took it for
pub judged_at : (via : Via) (client : Client) (address : ℕ) (packet : PacketParts) (kind : Kind2)
    → kind_at via client address packet ≡ Ok kind → IsJudged kind client packet × (via ≡ via_of kind)
judged_at Auth client address packet kind is =
    of_access client packet kind (address, is)
    (access_kinds (list_any is_eap packet.attributes) kind (access_lemmas.judged-kind client packet kind (address, is)))
judged_at Acct client address packet kind is =
    of_accounting client packet kind (address, is) (accounting_kinds client packet kind (address, is))

-- ---- together

pub port_is : (r : Result Borrowed Reason) (via : Via) (client : Client) (address : ℕ)
    → IfOk r (λ q. kind_at via client address q.packet ≡ Ok q.kind) → IfOk r (λ q. via ≡ via_of q.kind)
port_is (Err reason) via client address judged = tt
port_is (Ok q) via client address judged = (judged_at via client address q.packet q.kind judged).1

-- what stands at a client's place, with that client
pub is_request : (r : Result Borrowed Reason) (config : Config) (via : Via) (place : ℕ) (client : Client) (address : ℕ)
    → slice_get config.clients place ≡ Some client → ClientInLimits client
    → IfOk r (λ q. (q.client ≡ place) × (q.settings.now ≡ client))
    → IfOk r (λ q. kind_at via client address q.packet ≡ Ok q.kind)
    → IfOk r (λ q. AllByRecursion IsShort q.packet.attributes)
    → IfOk r (IsRequest config)
is_request (Err reason) config via place client address stands within same judged values = tt
is_request (Ok q) config via place client address stands within same judged values = record {
  client = rw (same.0, same.1) stands;
  limits = subst ClientInLimits (sym same.1) within;
  judged = subst (λ (c : Client). IsJudged q.kind c q.packet) (sym same.1) (judged_at via client address q.packet q.kind judged).0;
  values = values;
}

-- the Proxy-States have 2048 octets at most
pub proxies_are_short : (kind : Kind2) (client : Client) (packet : PacketParts) → IsJudged kind client packet
    → length (attributes_text (proxy_states packet.attributes)) ≤ 2048
proxies_are_short Access client packet judged = access_lemmas.judged-proxies client packet Access judged
proxies_are_short Eap client packet judged = access_lemmas.judged-proxies client packet Eap judged
proxies_are_short Start client packet judged = accounting_lemmas.judged-proxies client packet Start judged
proxies_are_short Interim client packet judged = accounting_lemmas.judged-proxies client packet Interim judged
proxies_are_short Stop client packet judged = accounting_lemmas.judged-proxies client packet Stop judged
