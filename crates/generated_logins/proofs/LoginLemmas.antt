-- What a login's pieces make together.
use Rattle.std.proofs.Common.{◌≡◌, ℕ, ◌+◌, ◌%◌, ◌^◌, ◌<◌, ◌≤◌, List, [], ◌∷◌, ◌++◌, length, codes, refl, append_assoc, arith}
use Rattle.std.specs.Fmt.{decimal}
use Rattle.std.proofs.lemmas.Fmt.{length-decimal-le}
use Rattle.wire_core.specs.Numbers.{u16, u32}
use Rattle.hex.specs.Hex.{encode_lower}
use Rattle.radius_packet.specs.Packet.{attribute_text, attributes_text, packet_text}
use Rattle.generated_logins.specs.Generator.{answer_line, answer_octets, authenticator, moment, request_attributes, request_line, request_octets, user_name}

pub length-account : (i : ℕ) → length (decimal (i % 1000)) ≤ 3
length-account i = length-decimal-le 3 (i % 1000) (omega arith) (omega arith) (omega arith)

pub length-number : (i : ℕ) → i < 2 ^ 32 → length (decimal i) ≤ 10
length-number i fits = length-decimal-le 10 i (omega arith) (omega arith) (omega arith)

pub attributes-pieces : (i : ℕ) (none first both name port : List ℕ)
    → none ≡ []
    → first ≡ none ++ attribute_text (record { code = 1; value = name })
    → both ≡ first ++ attribute_text (record { code = 5; value = port })
    → name ≡ user_name i → port ≡ u32 i
    → both ≡ attributes_text (request_attributes i)
unfolding u32
attributes-pieces i none first both name port empty one two named ported = rw (two, one, empty, named, ported) refl

pub packet-pieces : (i : ℕ) (none front counted signed whole size author attributes : List ℕ)
    → none ≡ [] → front ≡ none ++ 1 ∷ i % 256 ∷ [] → counted ≡ front ++ size → signed ≡ counted ++ author → whole ≡ signed ++ attributes
    → size ≡ u16 (20 + length attributes) → author ≡ authenticator i → attributes ≡ attributes_text (request_attributes i)
    → whole ≡ request_octets i
unfolding request_octets packet_text u16 u32
packet-pieces i none front counted signed whole size author attributes empty one two three four sized signs listed =
    rw (four, three, two, one, empty, sized, signs, listed) refl

pub request_line-pieces : (i m : ℕ) (start line octets : List ℕ)
    → start ≡ decimal m ++ codes " auth 10.0.0.1 1812 " → line ≡ start ++ encode_lower octets → m ≡ moment i → octets ≡ request_octets i
    → line ≡ request_line i
request_line-pieces i m start line octets begun ended at is =
    rw (ended, begun, at, is) (append_assoc (decimal (moment i)) (codes " auth 10.0.0.1 1812 ") (encode_lower (request_octets i)))

pub answer_line-pieces : (i m r : ℕ) (start line octets : List ℕ)
    → start ≡ decimal m ++ codes " link " → line ≡ start ++ encode_lower octets → m ≡ moment i → octets ≡ answer_octets i r
    → line ≡ answer_line i r
answer_line-pieces i m r start line octets begun ended at is =
    rw (ended, begun, at, is) (append_assoc (decimal (moment i)) (codes " link ") (encode_lower (answer_octets i r)))
