-- What is read of a packet's octets is its parts, and of no other octets.
use Rattle.std.proofs.Common.{◌≡◌, ℕ, ◌+◌, ◌*◌, ◌-◌, ◌<◌, ◌≤◌, ◌^◌, List, [], ◌∷◌, length, get_or, take, drop, Some, None, Result, Ok, Err, refl, sym, ap, ◌∙◌, arith, inl, inr, Bool, true, false, cond, ltb, take_all}
use Rattle.std.specs.Prelude.{◌||◌}
use Rattle.std.specs.Result.{result_err, result_unwrap_or}
use Rattle.std.proofs.lemmas.Bool.{le-ltb, lt-ltb, cases_lt}
use Rattle.std.proofs.lemmas.List.{take_at, drop_at, take-append-drop, take-take, drop-take, length-append, length-take, length-take-le, length-drop, get_or-drop, get_or-take, get_or_past}
use Rattle.wire_core.specs.Numbers.{u16, number, octets_at}
use Rattle.wire_core.proofs.NumberLemmas.{number-u16, u16-number}
use Rattle.radius_packet.specs.declared.fault.PacketFault.{PacketFault}
use Rattle.radius_packet.specs.declared.fault.PacketFault.TheVariants.{Short, BadLength, BadAttribute}
use Rattle.radius_packet.specs.Packet.{AttributeParts, PacketParts, attributes_text, packet_text, IsPacket, length_field, whole, parts, with_header, read_attributes, read_packet, attributes_in, packet_in, BreaksAt}
use Rattle.radius_packet.proofs.Reading.{reads_again, reads_text, values_fit, breaks_at}

-- ---- the text of a packet, part by part

pub length-packet_text : (p : PacketParts) → length p.authenticator ≡ 16 → length (packet_text p) ≡ 20 + length (attributes_text p.attributes)
unfolding packet_text u16
length-packet_text p e = omega (arith, length-append p.authenticator (attributes_text p.attributes))

pub take-packet_text : (p : PacketParts) → take 4 (packet_text p) ≡ p.code ∷ p.id ∷ u16 (20 + length (attributes_text p.attributes))
unfolding packet_text u16
take-packet_text p = refl

pub authenticator-packet_text : (p : PacketParts) → length p.authenticator ≡ 16 → octets_at (packet_text p) 4 16 ≡ p.authenticator
unfolding packet_text u16
authenticator-packet_text p e = take_at p.authenticator (attributes_text p.attributes) 16 e

pub drop-packet_text : (p : PacketParts) → length p.authenticator ≡ 16 → drop 20 (packet_text p) ≡ attributes_text p.attributes
unfolding packet_text u16
drop-packet_text p e = drop_at p.authenticator (attributes_text p.attributes) 16 e

pub field-packet_text : (p : PacketParts) → 20 + length (attributes_text p.attributes) < 2 ^ 16 → length_field (packet_text p) ≡ 20 + length (attributes_text p.attributes)
unfolding packet_text u16
field-packet_text p fits = number-u16 (20 + length (attributes_text p.attributes)) fits

pub parts-packet_text : (p : PacketParts) → length p.authenticator ≡ 16 → parts (packet_text p) p.attributes ≡ p
unfolding packet_text u16
parts-packet_text p e = rw (take_at p.authenticator (attributes_text p.attributes) 16 e) refl

-- the attributes of a packet are spelled so
pub tail_text : (octets : List ℕ) → IsPacket octets (packet_in octets) → drop 20 octets ≡ attributes_text (attributes_in (drop 20 octets))
tail_text octets packet = ap (λ xs. drop 20 xs) packet.text ∙ drop-packet_text (packet_in octets) packet.authenticator

-- ---- the prefix that Length counts

octets_at-take : (xs : List ℕ) (n k m : ℕ) → k + m ≤ n → octets_at (take n xs) k m ≡ octets_at xs k m
octets_at-take xs n k m le =
    let split : n ≡ k + (n - k) = omega arith in
    ap (λ (j : ℕ). take m (drop k (take j xs))) split ∙ ap (take m) (drop-take k (n - k) xs) ∙ take-take m (n - k) (drop k xs) (omega arith)

pub length_field-take : (xs : List ℕ) (n : ℕ) → 4 ≤ n → length_field (take n xs) ≡ length_field xs
length_field-take xs n le = ap number (octets_at-take xs n 2 2 le)

-- ---- the tests, one after the other

pub reads_short : (octets : List ℕ) → length octets < 20 → read_packet octets ≡ Err Short
unfolding read_packet
reads_short octets short = rw (lt-ltb (length octets) 20 short) refl

pub reads_low : (octets : List ℕ) → 20 ≤ length octets → length_field octets < 20 → read_packet octets ≡ Err BadLength
unfolding read_packet
reads_low octets long low = rw (le-ltb (length octets) 20 long, lt-ltb (length_field octets) 20 low) refl

pub reads_high : (octets : List ℕ) → 20 ≤ length octets → 20 ≤ length_field octets → 4096 < length_field octets → read_packet octets ≡ Err BadLength
unfolding read_packet
reads_high octets long low high = rw (le-ltb (length octets) 20 long, le-ltb (length_field octets) 20 low, lt-ltb 4096 (length_field octets) high) refl

pub reads_cut : (octets : List ℕ) → 20 ≤ length octets → 20 ≤ length_field octets → length_field octets ≤ 4096 → length octets < length_field octets → read_packet octets ≡ Err Short
unfolding read_packet
reads_cut octets long low high cut =
    rw (le-ltb (length octets) 20 long, le-ltb (length_field octets) 20 low, le-ltb 4096 (length_field octets) high, lt-ltb (length octets) (length_field octets) cut) refl

pub reads_whole : (octets : List ℕ) → 20 ≤ length octets → 20 ≤ length_field octets → length_field octets ≤ 4096 → length_field octets ≤ length octets
    → read_packet octets ≡ with_header (whole octets) (read_attributes (drop 20 (whole octets)) 0 20)
unfolding read_packet
reads_whole octets long low high there =
    rw (le-ltb (length octets) 20 long, le-ltb (length_field octets) 20 low, le-ltb 4096 (length_field octets) high, le-ltb (length octets) (length_field octets) there) refl

-- ---- octets that are a packet

-- the octets' own header and attributes
text_of : (octets : List ℕ) (list : List AttributeParts) → ((i : ℕ) → get_or octets i 0 < 256) → 20 ≤ length octets → length_field octets ≡ length octets
    → drop 20 octets ≡ attributes_text list → octets ≡ packet_text (parts octets list)
unfolding packet_text
text_of [] list bytes long field tail = absurd (omega arith)
text_of (a ∷ []) list bytes long field tail = absurd (omega arith)
text_of (a ∷ b ∷ []) list bytes long field tail = absurd (omega arith)
text_of (a ∷ b ∷ c ∷ []) list bytes long field tail = absurd (omega arith)
text_of (a ∷ b ∷ c ∷ d ∷ rest) list bytes long field tail =
    let all : 20 + length (attributes_text list) ≡ number (c ∷ d ∷ []) = omega (arith, ap length tail, length-drop 16 rest, field) in
    let len : u16 (20 + length (attributes_text list)) ≡ c ∷ d ∷ [] = ap u16 all ∙ u16-number c d (bytes 2) (bytes 3) in
    rw (len, ← tail) (ap (λ (ys : List ℕ). a ∷ b ∷ c ∷ d ∷ ys) (sym (take-append-drop 16 rest)))

is_packet : (octets : List ℕ) (list : List AttributeParts) → ((i : ℕ) → get_or octets i 0 < 256) → 20 ≤ length octets → length octets ≤ 4096 → length_field octets ≡ length octets
    → drop 20 octets ≡ attributes_text list → IsPacket octets (parts octets list)
is_packet octets list bytes long short field tail = record {
  text = text_of octets list bytes long field tail;
  authenticator = omega (arith, length-take 16 (drop 4 octets), length-drop 4 octets);
  values = values_fit list (λ i. omega (arith, ap (λ xs. get_or xs i 0) tail, get_or-drop 20 octets i 0, bytes (20 + i)));
  most = short;
}

-- octets whose attributes show no fault
pub record Checked (octets : List ℕ) : Type 0 where
  pub packet : IsPacket octets (packet_in octets)
  pub read : with_header octets (read_attributes (drop 20 octets) 0 20) ≡ Ok (packet_in octets)

ok_from_no_fault : (r : Result (List AttributeParts) PacketFault) → None ≡ result_err r → r ≡ Ok (result_unwrap_or r [])
ok_from_no_fault (Ok list) e = refl
ok_from_no_fault (Err fault) e = absurd cc

pub checked : (octets : List ℕ) → ((i : ℕ) → get_or octets i 0 < 256) → 20 ≤ length octets → length octets ≤ 4096 → length_field octets ≡ length octets
    → None ≡ result_err (read_attributes (drop 20 octets) 0 20) → Checked octets
checked octets bytes long short field sound =
    let read : read_attributes (drop 20 octets) 0 20 ≡ Ok (attributes_in (drop 20 octets)) = ok_from_no_fault _ sound in
    record {
      packet = is_packet octets (attributes_in (drop 20 octets)) bytes long short field (reads_text (drop 20 octets) 0 20 (attributes_in (drop 20 octets)) read);
      read = ap (with_header octets) read;
    }

pub fault_found : (octets : List ℕ) (r : Result (List AttributeParts) PacketFault) (fault : PacketFault) → Some fault ≡ result_err r → with_header octets r ≡ Err fault
fault_found octets (Ok list) fault e = absurd cc
fault_found octets (Err other) fault e = cc

-- what is read of a packet's octets, whatever follows
pub reads_packet : (octets : List ℕ) (p : PacketParts) → IsPacket (whole octets) p → read_packet octets ≡ Ok p
reads_packet octets p packet =
    let len : length (whole octets) ≡ 20 + length (attributes_text p.attributes) = ap length packet.text ∙ length-packet_text p packet.authenticator in
    let min_len = length-take (length_field octets) octets in
    let most = packet.most in
    let field : length_field octets ≡ 20 + length (attributes_text p.attributes) =
    sym (length_field-take octets (length_field octets) (omega arith)) ∙ ap length_field packet.text ∙ field-packet_text p (omega arith) in
    reads_whole octets (omega arith) (omega arith) (omega arith) (omega arith)
    ∙ ap (λ xs. with_header xs (read_attributes (drop 20 xs) 0 20)) packet.text
    ∙ rw (drop-packet_text p packet.authenticator, reads_again p.attributes 20) (ap Ok (parts-packet_text p packet.authenticator))

-- ---- the first n octets, where n is in range

bytes_of_front : (n : ℕ) (octets : List ℕ) → ((i : ℕ) → get_or octets i 0 < 256) → (i : ℕ) → get_or (take n octets) i 0 < 256
bytes_of_front n octets bytes i =
    elim (cases_lt i n) [
      | inl under ↦ rw (get_or-take n octets i 0 under) (bytes i)
      | inr over ↦ rw (get_or_past (take n octets) i 0 (omega (arith, length-take n octets))) (omega arith)
    ]

pub record Accepted (octets : List ℕ) (n : ℕ) : Type 0 where
  pub packet : IsPacket (take n octets) (packet_in (take n octets))
  pub found : IsPacket (whole octets) (packet_in (take n octets))
  pub read : read_packet octets ≡ Ok (packet_in (take n octets))

pub accepted : (octets : List ℕ) (n : ℕ) → ((i : ℕ) → get_or octets i 0 < 256) → n ≡ length_field octets → 20 ≤ n → n ≤ 4096 → n ≤ length octets
    → None ≡ result_err (read_attributes (drop 20 (take n octets)) 0 20) → Accepted octets n
accepted octets n bytes e low high there sound =
    let len : length (take n octets) ≡ n = length-take-le n octets there in
    let field : length_field (take n octets) ≡ length (take n octets) = length_field-take octets n (omega arith) ∙ sym e ∙ sym len in
    let c = checked (take n octets) (bytes_of_front n octets bytes) (omega arith) (omega arith) field sound in
    let same : whole octets ≡ take n octets = ap (λ (k : ℕ). take k octets) (sym e) in
    record {
      packet = c.packet;
      found = rw same c.packet;
      read = reads_whole octets (omega arith) (omega arith) (omega arith) (omega arith) ∙ rw same c.read;
    }

pub refused : (octets : List ℕ) (n : ℕ) (fault : PacketFault) → n ≡ length_field octets → 20 ≤ n → n ≤ 4096 → n ≤ length octets
    → Some fault ≡ result_err (read_attributes (drop 20 (take n octets)) 0 20) → read_packet octets ≡ Err fault
refused octets n fault e low high there found =
    let same : whole octets ≡ take n octets = ap (λ (k : ℕ). take k octets) (sym e) in
    reads_whole octets (omega arith) (omega arith) (omega arith) (omega arith) ∙ rw same (fault_found (take n octets) _ fault found)

-- ---- where a fault is

past : {A : Type 0} (b : Bool) (x y z : A) → (x ≡ z → ⊥) → cond b x y ≡ z → y ≡ z
past true x y z differs e = absurd (differs e)
past false x y z differs e = e

pub header_fails : (octets : List ℕ) (r : Result (List AttributeParts) PacketFault) (fault : PacketFault) → with_header octets r ≡ Err fault → r ≡ Err fault
header_fails octets (Ok list) fault e = absurd cc
header_fails octets (Err other) fault e = cc

pub reads_broken : (octets : List ℕ) (place : ℕ) → read_packet octets ≡ Err (BadAttribute place) → BreaksAt (whole octets) place
unfolding read_packet
reads_broken octets place e =
    let whole_read : Result PacketParts PacketFault = with_header (whole octets) (read_attributes (drop 20 (whole octets)) 0 20) in
    let third : Result PacketParts PacketFault = cond (ltb (length octets) (length_field octets)) (Err Short) whole_read in
    let second : Result PacketParts PacketFault = cond (ltb (length_field octets) 20 || ltb 4096 (length_field octets)) (Err BadLength) third in
    let a = past (ltb (length octets) 20) (Err Short) second (Err (BadAttribute place)) (λ h. absurd cc) e in
    let b = past (ltb (length_field octets) 20 || ltb 4096 (length_field octets)) (Err BadLength) third (Err (BadAttribute place)) (λ h. absurd cc) a in
    let c = past (ltb (length octets) (length_field octets)) (Err Short) whole_read (Err (BadAttribute place)) (λ h. absurd cc) b in
    breaks_at (whole octets) place (header_fails (whole octets) _ (BadAttribute place) c)

-- ---- one reading

whole_of_packet : (octets : List ℕ) (p : PacketParts) → IsPacket octets p → whole octets ≡ octets
whole_of_packet octets p packet =
    let len : length octets ≡ 20 + length (attributes_text p.attributes) = ap length packet.text ∙ length-packet_text p packet.authenticator in
    let most = packet.most in
    let field : length_field octets ≡ 20 + length (attributes_text p.attributes) = ap length_field packet.text ∙ field-packet_text p (omega arith) in
    take_all (length_field octets) octets (omega arith)

pub one_reading : (octets : List ℕ) (p q : PacketParts) → IsPacket octets p → IsPacket octets q → p ≡ q
one_reading octets p q first second =
    let a = reads_packet octets p (rw (whole_of_packet octets p first) first) in
    let b = reads_packet octets q (rw (whole_of_packet octets q second) second) in
    cc

-- ---- how much there is in a packet

pub tail_size : (octets : List ℕ) (p : PacketParts) → IsPacket octets p → length (attributes_text p.attributes) ≤ 4076
tail_size octets p packet = omega (arith, packet.most, ap length packet.text, length-packet_text p packet.authenticator)

attribute_count : (list : List AttributeParts) → 2 * length list ≤ length (attributes_text list)
attribute_count [] = omega arith
attribute_count (a ∷ list) = omega (arith, attribute_count list, length-append a.value (attributes_text list))

pub tail_count : (octets : List ℕ) (p : PacketParts) → IsPacket octets p → length p.attributes ≤ 2038
tail_count octets p packet = omega (arith, tail_size octets p packet, attribute_count p.attributes)
