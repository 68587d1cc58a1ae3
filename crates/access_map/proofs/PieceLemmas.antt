-- What the attributes of an Access-Request give in one pass: the pieces by place, and how long they are.
use Rattle.std.proofs.Common.{◌≡◌, ℕ, zero, suc, ◌+◌, ◌*◌, ◌/◌, ◌≤◌, true, false, cond, eqb, not, ◌&&◌, inl, inr, List, [], ◌∷◌, ◌++◌, length, take, drop, None, refl, ap, arith}
use Rattle.std.specs.List.{list_any, list_all}
use Rattle.std.proofs.lemmas.Bool.{cases_Bool, eqb-true}
use Rattle.std.proofs.lemmas.List.{length-append, length-take, length-drop}
use Rattle.wire_core.specs.Numbers.{u32}
use Rattle.password_hiding.specs.Hiding.{block, mask, xor_each, is_nil, trimmed, plain_blocks, plain_form}
use Rattle.radius_packet.specs.Packet.{PacketParts, AttributeParts, attribute_text, attributes_text}
use Rattle.diameter_avp.proofs.CallerLemmas.{length-avp_text}
use Rattle.diameter_message.specs.PlainAvps.{plain_avp}
use Rattle.tunnel_map.specs.Tagged.{reading}
use Rattle.agent_settings.specs.declared.client.Client.{Client}
use Rattle.translation.specs.declared.direction.Direction.TheVariants.{Access}
use Rattle.translation.specs.declared.seen.Seen.{Seen}
use Rattle.translation.specs.Passing.{nothing}
use Rattle.translation.proofs.PlaceLemmas.{Places, pieces_after-places}
use Rattle.translation.proofs.SeenLemmas.{Saw, Saw-nothing, Saw-next, Saw-passed, Saw-same}
use Rattle.translation.proofs.SizeLemmas.{size, size-cons, size-nil, size-plain, pieces-size, HasTags, owed_after, common-pays, common-keeps, nothing-keeps, owed_after-most}
use Rattle.access_map.specs.Requests.{password_avp, chap_members, chap_avp, has_challenge, challenge_avps, piece, pieces}
use Rattle.access_map.specs.Passing.{piece_after, noted, pieces_after}
use Rattle.access_map.specs.Verdict.{is_bad_password}

-- ---- by place

next : (seen : Seen) (before : List AttributeParts) (a : AttributeParts) → Saw Access seen before → Saw Access (noted seen a) (before ++ a ∷ [])
unfolding noted
next seen before a saw =
    elim (cases_Bool (eqb a.code 2)) [
      | inl password ↦ (let code = eqb-true a.code 2 password in
          let plain : eqb a.code 24 ≡ false = rw code refl in
          let untagged : ◌≡◌ (reading a.code a.value) None = rw code refl in
          rw password (Saw-passed Access seen before a plain untagged saw))
      | inr other ↦
          elim (cases_Bool (eqb a.code 3)) [
            | inl chap ↦ (let code = eqb-true a.code 3 chap in
                let plain : eqb a.code 24 ≡ false = rw code refl in
                let untagged : ◌≡◌ (reading a.code a.value) None = rw code refl in
                rw (other, chap) (Saw-passed Access seen before a plain untagged saw))
            | inr common ↦ rw (other, common) (Saw-next Access seen before a saw)
          ]
    ]

same : (client : Client) (packet : PacketParts) (seen : Seen) (before rest : List AttributeParts) (a : AttributeParts) → Saw Access seen before → before ++ a ∷ rest ≡ packet.attributes
    → piece_after client packet seen a ≡ piece client packet (length before) a
unfolding piece_after piece
same client packet seen before rest a saw e =
    ap (λ avps. cond (eqb a.code 2) (password_avp client.secret packet.authenticator a.value ∷ []) (cond (eqb a.code 3) (chap_avp a.value ∷ challenge_avps packet) avps))
    (Saw-same Access packet.attributes seen before rest a saw e)

places : (client : Client) (packet : PacketParts) → Places (piece_after client packet) noted (piece client packet) (Saw Access) packet.attributes
places client packet = record { next = next; same = same client packet }

-- the pass gives the pieces
pub pieces-are : (client : Client) (packet : PacketParts) → pieces_after client packet nothing packet.attributes ≡ pieces client packet
pieces-are client packet =
    pieces_after-places (piece_after client packet) noted (piece client packet) (Saw Access) packet.attributes [] packet.attributes nothing (places client packet) (Saw-nothing Access) refl

-- ---- how long a password is

xor_each-length : (xs ys : List ℕ) → length (xor_each xs ys) ≤ length xs
xor_each-length [] ys = omega arith
xor_each-length (x ∷ xs) [] = omega arith
xor_each-length (x ∷ xs) (y ∷ ys) = omega (arith, xor_each-length xs ys)

plain_blocks-length : (secret authenticator hidden : List ℕ) (n : ℕ) → length (plain_blocks secret authenticator hidden n) ≤ 16 * n
unfolding plain_blocks
plain_blocks-length secret authenticator hidden zero = omega arith
plain_blocks-length secret authenticator hidden (suc n) =
    omega (
      arith,
      length-append (plain_blocks secret authenticator hidden n) (xor_each (block hidden n) (mask secret authenticator hidden n)),
      plain_blocks-length secret authenticator hidden n,
      xor_each-length (block hidden n) (mask secret authenticator hidden n),
      length-take 16 (drop (16 * n) hidden),
    )

pub trimmed-length : (xs : List ℕ) → length (trimmed xs) ≤ length xs
trimmed-length [] = omega arith
trimmed-length (x ∷ xs) =
    elim (cases_Bool (eqb x 0 && is_nil (trimmed xs))) [
      | inl zeros ↦ rw zeros (omega arith)
      | inr other ↦ rw other (omega (arith, trimmed-length xs))
    ]

plain_form-length : (secret authenticator hidden : List ℕ) → length (plain_form secret authenticator hidden) ≤ length hidden
plain_form-length secret authenticator hidden =
    omega (
      arith,
      trimmed-length (plain_blocks secret authenticator hidden (length hidden / 16)),
      plain_blocks-length secret authenticator hidden (length hidden / 16),
    )

-- ---- how long the pieces are

password-size : (secret authenticator value : List ℕ) → size (password_avp secret authenticator value ∷ []) ≤ length value + 11
password-size secret authenticator value =
    omega (arith, size-plain 2 (plain_form secret authenticator value), plain_form-length secret authenticator value)

four : length (u32 5) ≡ 4
unfolding u32
four = refl

pub chap-size : (value : List ℕ) → size (chap_members value) ≤ length value + 40
chap-size value =
    omega (
      arith,
      size-cons (plain_avp 403 (u32 5)) (plain_avp 404 (take 1 value) ∷ plain_avp 405 (drop 1 value) ∷ []),
      size-cons (plain_avp 404 (take 1 value)) (plain_avp 405 (drop 1 value) ∷ []),
      length-avp_text (plain_avp 403 (u32 5)),
      length-avp_text (plain_avp 404 (take 1 value)),
      four,
      length-take 1 value,
      length-drop 1 value,
      size-plain 405 (drop 1 value),
    )

challenge-size : (packet : PacketParts) → length packet.authenticator ≡ 16 → size (challenge_avps packet) ≤ 27
challenge-size packet long =
    elim (cases_Bool (has_challenge packet)) [
      | inl there ↦ rw there (omega (arith, size-nil))
      | inr none ↦ rw none (omega (arith, size-plain 60 packet.authenticator))
    ]

chap_pieces-size : (packet : PacketParts) (value : List ℕ) → length packet.authenticator ≡ 16 → size (chap_avp value ∷ challenge_avps packet) ≤ length value + 78
chap_pieces-size packet value long =
    omega (arith, size-cons (chap_avp value) (challenge_avps packet), length-avp_text (chap_avp value), chap-size value, challenge-size packet long)

chap-fits : (a : AttributeParts) → a.code ≡ 3 → not (is_bad_password a) ≡ true → length a.value ≡ 17
chap-fits a code fits =
    elim (cases_Bool (eqb (length a.value) 17)) [
      | inl long ↦ eqb-true (length a.value) 17 long
      | inr short ↦ absurd (let h = rw (code, short) at fits in cc)
    ]

pays : (client : Client) (packet : PacketParts) → length packet.authenticator ≡ 16 → (seen : Seen) (a : AttributeParts) → HasTags seen → not (is_bad_password a) ≡ true
    → size (piece_after client packet seen a) + owed_after packet.attributes (noted seen a) ≤ owed_after packet.attributes seen + 8 * length (attribute_text a)
unfolding piece_after noted
pays client packet long seen a kept fits =
    elim (cases_Bool (eqb a.code 2)) [
      | inl password ↦ rw password (omega (arith, password-size client.secret packet.authenticator a.value))
      | inr other ↦
          elim (cases_Bool (eqb a.code 3)) [
            | inl chap ↦ (let good : length a.value ≡ 17 = chap-fits a (eqb-true a.code 3 chap) fits in
                rw (other, chap) (omega (arith, chap_pieces-size packet a.value long)))
            | inr common ↦ rw (other, common) (common-pays Access packet.attributes seen a kept)
          ]
    ]

keeps : (seen : Seen) (a : AttributeParts) → HasTags seen → HasTags (noted seen a)
unfolding noted
keeps seen a kept =
    elim (cases_Bool (eqb a.code 2)) [
      | inl password ↦ rw password kept
      | inr other ↦
          elim (cases_Bool (eqb a.code 3)) [
            | inl chap ↦ rw (other, chap) kept
            | inr common ↦ rw (other, common) (common-keeps Access seen a kept)
          ]
    ]

all_good : (attributes : List AttributeParts) → list_any is_bad_password attributes ≡ false → list_all (λ a. not (is_bad_password a)) attributes ≡ true
all_good [] e = refl
all_good (a ∷ rest) e =
    elim (cases_Bool (is_bad_password a)) [
      | inl bad ↦ absurd (let h = rw bad at e in cc)
      | inr good ↦ rw good (all_good rest (rw good at e))
    ]

-- all pieces of a packet have at most fourteen octets for each of its attributes'
pub pieces_after-size : (client : Client) (packet : PacketParts) → length packet.authenticator ≡ 16 → list_any is_bad_password packet.attributes ≡ false
    → size (pieces_after client packet nothing packet.attributes) ≤ 14 * length (attributes_text packet.attributes)
pieces_after-size client packet long good =
    omega (
      arith,
      pieces-size (piece_after client packet) noted (λ a. not (is_bad_password a)) HasTags (owed_after packet.attributes) 8
          (record { keeps = keeps; pays = pays client packet long }) nothing packet.attributes nothing-keeps (all_good packet.attributes good),
      owed_after-most packet.attributes nothing,
    )
