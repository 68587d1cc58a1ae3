-- What the attributes of an Access-Request give in one pass: the pieces by place, and how long they are.
use Rattle.std.proofs.Common.{◌≡◌, ℕ, ◌+◌, ◌*◌, ◌≤◌, Bool, true, false, cond, eqb, inl, inr, List, [], ◌∷◌, ◌++◌, length, take, None, refl, ap, ◌∙◌, arith}
use Rattle.std.specs.List.{list_any, list_all}
use Rattle.std.proofs.lemmas.Bool.{cases_Bool, eqb-true}
use Rattle.std.proofs.lemmas.List.{length-append}
use Rattle.radius_packet.specs.Packet.{PacketParts, AttributeParts, attribute_text, attributes_text}
use Rattle.diameter_message.specs.PlainAvps.{plain_avp}
use Rattle.tunnel_map.specs.Tagged.{reading}
use Rattle.translation.specs.declared.direction.Direction.TheVariants.{Access}
use Rattle.translation.specs.Heads.{is_eap}
use Rattle.translation.proofs.PlaceLemmas.{any-here, any-before, take-before, first-alone, pieces_after-places}
use Rattle.translation.proofs.SeenLemmas.{Saw, Saw-nothing, Saw-next, Saw-passed, Saw-same}
use Rattle.translation.proofs.SizeLemmas.{size, size-nil, size-plain, pieces-size, HasTags, owed_after, common-pays, common-keeps, nothing-keeps, owed_after-most}
use Rattle.eap_map.specs.declared.seen.EapSeen.{EapSeen}
use Rattle.eap_map.specs.Requests.{eap_packet, piece, pieces}
use Rattle.eap_map.specs.Passing.{payload_after, piece_after, nothing, noted, pieces_after}

-- ---- by place

-- what stood before is what was seen
record EapSaw (seen : EapSeen) (before : List AttributeParts) : Type 0 where
  common : Saw Access seen.common before
  eap : seen.eap ≡ list_any is_eap before

next : (seen : EapSeen) (before : List AttributeParts) (a : AttributeParts) → EapSaw seen before → EapSaw (noted seen a) (before ++ a ∷ [])
unfolding noted
next seen before a saw =
    elim (cases_Bool (is_eap a)) [
      | inl eap ↦ (let code = eqb-true a.code 79 eap in
          let plain : eqb a.code 24 ≡ false = rw code refl in
          let untagged : ◌≡◌ (reading a.code a.value) None = rw code refl in
          rw eap (record {
            common = Saw-passed Access seen.common before a plain untagged saw.common;
            eap = any-here is_eap before a eap;
          }))
      | inr other ↦ rw other (record {
        common = Saw-next Access seen.common before a saw.common;
        eap = any-before is_eap before a seen.eap saw.eap other;
      })
    ]

same : (packet : PacketParts) (seen : EapSeen) (before rest : List AttributeParts) (a : AttributeParts) → EapSaw seen before → before ++ a ∷ rest ≡ packet.attributes
    → piece_after packet seen a ≡ piece packet (length before) a
unfolding piece_after piece
same packet seen before rest a saw e =
    let stood : before ≡ take (length before) packet.attributes = take-before packet.attributes before rest a e in
    elim (cases_Bool (is_eap a)) [
      | inl eap ↦ rw eap (first-alone seen.eap _ (plain_avp 462 (eap_packet packet.attributes) ∷ []) (saw.eap ∙ ap (list_any is_eap) stood))
      | inr other ↦ rw other (Saw-same Access packet.attributes seen.common before rest a saw.common e)
    ]

-- the pass gives the pieces
pub pieces-are : (packet : PacketParts) → pieces_after packet nothing packet.attributes ≡ pieces packet
pieces-are packet =
    pieces_after-places (piece_after packet) noted (piece packet) EapSaw packet.attributes [] packet.attributes nothing
    (record { next = next; same = same packet }) (record { common = Saw-nothing Access; eap = refl }) refl

-- ---- how long the pieces are

-- the EAP packet is owed until its place
abbrev owed : PacketParts → EapSeen → ℕ
owed packet seen = owed_after packet.attributes seen.common + cond seen.eap 0 (length (eap_packet packet.attributes))

payload-size : (packet : PacketParts) (before : Bool) → size (payload_after packet.attributes before) ≤ cond before 0 (length (eap_packet packet.attributes)) + 11
payload-size packet true = omega (arith, size-nil)
payload-size packet false = size-plain 462 (eap_packet packet.attributes)

pays : (packet : PacketParts) (seen : EapSeen) (a : AttributeParts) → HasTags seen.common → true ≡ true
    → size (piece_after packet seen a) + owed packet (noted seen a) ≤ owed packet seen + 8 * length (attribute_text a)
unfolding piece_after noted
pays packet seen a kept fits =
    elim (cases_Bool (is_eap a)) [
      | inl eap ↦ rw eap (omega (arith, payload-size packet seen.eap))
      | inr other ↦ rw other (omega (arith, common-pays Access packet.attributes seen.common a kept))
    ]

keeps : (seen : EapSeen) (a : AttributeParts) → HasTags seen.common → HasTags (noted seen a).common
unfolding noted
keeps seen a kept =
    elim (cases_Bool (is_eap a)) [
      | inl eap ↦ rw eap kept
      | inr other ↦ rw other (common-keeps Access seen.common a kept)
    ]

all_fit : (attributes : List AttributeParts) → list_all (λ a. true) attributes ≡ true
all_fit [] = refl
all_fit (a ∷ rest) = all_fit rest

eap_packet-size : (attributes : List AttributeParts) → length (eap_packet attributes) ≤ length (attributes_text attributes)
eap_packet-size [] = omega arith
eap_packet-size (a ∷ rest) =
    elim (cases_Bool (is_eap a)) [
      | inl eap ↦ rw eap (omega (arith, length-append a.value (eap_packet rest), length-append (attribute_text a) (attributes_text rest), eap_packet-size rest))
      | inr other ↦ rw other (omega (arith, length-append (attribute_text a) (attributes_text rest), eap_packet-size rest))
    ]

-- all pieces of a packet have at most fifteen octets for each of its attributes'
pub pieces_after-size : (packet : PacketParts) → size (pieces_after packet nothing packet.attributes) ≤ 15 * length (attributes_text packet.attributes)
pieces_after-size packet =
    omega (
      arith,
      pieces-size (piece_after packet) noted (λ a. true) (λ seen. HasTags seen.common) (owed packet) 8
          (record { keeps = keeps; pays = pays packet }) nothing packet.attributes nothing-keeps (all_fit packet.attributes),
      owed_after-most packet.attributes nothing.common,
      eap_packet-size packet.attributes,
    )
