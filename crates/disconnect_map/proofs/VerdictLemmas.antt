-- What a datagram says, stated and found.
use Rattle.std.proofs.Common.{◌≡◌, ℕ, ◌==◌, nat_eq, Bool, true, false, List, Option, Some, Result, Ok, Err, refl, sym, ap, ◌∙◌, subst, arith, inl, inr}
use Rattle.std.specs.Prelude.{◌↔◌, slice_index, IfOk}
use Rattle.std.specs.Bool.{then_some}
use Rattle.std.specs.Result.{result_ok}
use Rattle.std.specs.Cmp.Lexicographic.{pointwise}
use Rattle.std.proofs.lemmas.Bool.{and_parts, and_from, eqb-true, eq-eqb}
use Rattle.std.proofs.lemmas.Bool.Decides.{Decides-eqb, eqb_tells}
use Rattle.std.proofs.lemmas.Slice.Eq.{slice_eq-Decides}
use Rattle.wire_core.specs.Numbers.{octets_at}
use Rattle.radius_packet.specs.Packet.{PacketParts, IsPacket, packet_text, whole}
use Rattle.radius_packet.specs.declared.fault.PacketFault.{PacketFault}
use Rattle.radius_packet.specs.Seals.{response_authenticator}
use Rattle.radius_packet.proofs.Packets.{one_reading}
use Rattle.disconnect_map.specs.Verdicts.{Answers, code_verdict, is_authentic_answer}

-- a packet that is found to answer the request does
pub answers : (secret request octets : List ℕ) (number : ℕ) (p : PacketParts) → IsPacket (whole octets) p → p.code ≡ number → is_authentic_answer secret request p ≡ true
    → Answers secret request octets number
answers secret request octets number p packet code found =
    let right : List ℕ = response_authenticator secret (octets_at request 4 16) (packet_text p) in
    let t = and_parts (p.id == slice_index request 1) (pointwise nat_eq p.authenticator right) found in
    let same : p.authenticator ≡ right = (slice_eq-Decides Decides-eqb p.authenticator right _ refl).0 t.1 in
    record {
      parts = p;
      packet = packet;
      code_is = code;
      id = eqb-true p.id (slice_index request 1) t.0;
      authenticator = same ∙ ap (response_authenticator secret (octets_at request 4 16)) (sym packet.text);
    }

-- an answer to the request is found to be one
pub is_answer-answers : (secret request octets : List ℕ) (number : ℕ) (p : PacketParts) → IsPacket (whole octets) p → Answers secret request octets number
    → (p.code ≡ number) × (is_authentic_answer secret request p ≡ true)
is_answer-answers secret request octets number p packet a =
    let right : List ℕ = response_authenticator secret (octets_at request 4 16) (packet_text p) in
    let same : a.parts ≡ p = one_reading (whole octets) a.parts p a.packet packet in
    let id : p.id ≡ slice_index request 1 = ap (λ (q : PacketParts). q.id) (sym same) ∙ a.id in
    let authenticator : p.authenticator ≡ right =
    ap (λ (q : PacketParts). q.authenticator) (sym same) ∙ a.authenticator ∙ ap (response_authenticator secret (octets_at request 4 16)) packet.text in (
      ap (λ (q : PacketParts). q.code) (sym same) ∙ a.code_is,
      and_from (p.id == slice_index request 1) (pointwise nat_eq p.authenticator right) (eq-eqb p.id (slice_index request 1) id)
          ((slice_eq-Decides Decides-eqb p.authenticator right _ refl).1 authenticator),
    )

-- ---- what was found, as it is stated

-- this code alone has this verdict
abbrev pub IsCodeOf : Bool → ℕ → Type 0
IsCodeOf ended number = (code : ℕ) → code_verdict code ≡ Some ended ↔ code ≡ number

pub acknowledges : IsCodeOf true 41
acknowledges code = elim (eqb_tells code 41) [
  | inl is ↦ (λ _. is.1, λ _. rw is.0 refl)
  | inr other ↦ elim (eqb_tells code 42) [
    | inl is ↦ (rw (other.0, is.0) (λ e. absurd cc), λ e. absurd (other.1 e))
    | inr neither ↦ (rw (other.0, neither.0) (λ e. absurd cc), λ e. absurd (other.1 e))
  ]
]

pub refuses : IsCodeOf false 42
refuses code = elim (eqb_tells code 41) [
  | inl is ↦ (rw is.0 (λ e. absurd cc), λ e. absurd (omega (arith, is.1, e)))
  | inr other ↦ elim (eqb_tells code 42) [
    | inl is ↦ (λ _. is.1, λ _. rw (other.0, is.0) refl)
    | inr neither ↦ (rw (other.0, neither.0) (λ e. absurd cc), λ e. absurd (neither.1 e))
  ]
]

then_some_is : (b x y : Bool) → then_some b x ≡ Some y → (b ≡ true) × (x ≡ y)
then_some_is true x y e = (refl, cc)
then_some_is false x y e = absurd cc

pub tells : (secret request octets : List ℕ) (p : PacketParts) (answer ended told : Bool) (number : ℕ) (verdict : Option Bool) → IsPacket (whole octets) p → IsCodeOf told number
    → answer ≡ is_authentic_answer secret request p → Some ended ≡ code_verdict p.code → verdict ≡ then_some answer ended → (verdict ≡ Some told ↔ Answers secret request octets number)
tells secret request octets p answer ended told number verdict packet means found code value = (
  λ e.
      let parts = then_some_is answer ended told (sym value ∙ e) in
      let is : p.code ≡ number = (means p.code).0 (sym code ∙ ap Some parts.1) in
      answers secret request octets number p packet is (sym found ∙ parts.0),
  λ a.
      let parts = is_answer-answers secret request octets number p packet a in
      value ∙ ap (λ (b : Bool). then_some b ended) (found ∙ parts.1) ∙ code ∙ (means p.code).1 parts.0,
)

pub found_packet : (octets : List ℕ) (r : Result PacketParts PacketFault) (p : PacketParts) → Some p ≡ result_ok r → IfOk r (λ q. IsPacket (whole octets) q) → IsPacket (whole octets) p
found_packet octets (Ok q) p e packet = let same : q ≡ p = cc in subst (λ (x : PacketParts). IsPacket (whole octets) x) same packet
found_packet octets (Err fault) p e packet = absurd cc
