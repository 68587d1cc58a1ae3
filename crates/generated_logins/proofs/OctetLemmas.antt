-- The octets of a login's request and its answer: how many they are at most, and that they are octets.
use Rattle.std.proofs.Common.{◌≡◌, ℕ, zero, suc, ◌+◌, ◌%◌, ◌^◌, ◌<◌, ◌≤◌, true, List, [], ◌∷◌, ◌++◌, length, codes, replicate, refl, arith}
use Rattle.std.specs.Prelude.{nat_lt, slice_index}
use Rattle.std.specs.Fmt.{decimal}
use Rattle.std.specs.List.{list_all}
use Rattle.std.proofs.lemmas.Bool.{and_parts, ltb-true}
use Rattle.std.proofs.lemmas.Fmt.{IsAscii-decimal, length-decimal-le}
use Rattle.std.proofs.lemmas.List.{length-append}
use Rattle.wire_core.specs.Numbers.{u16, u24, u32}
use Rattle.hex.specs.Hex.{IsBytes}
use Rattle.radius_packet.specs.Packet.{attributes_text, packet_text}
use Rattle.diameter_avp.specs.Avps.{avp_length, avp_text, avps_text, bare_text, padding}
use Rattle.diameter_message.specs.Message.{header_text, message_text}
use Rattle.diameter_message.specs.PlainAvps.{plain_avp}
use Rattle.generated_logins.specs.Generator.{answer_avps, answer_header, answer_octets, authenticator, request_attributes, request_octets, result_code, session_id, user_name}

-- octets, so many at most
pub record FewOctets (most : ℕ) (xs : List ℕ) : Type 0 where
  pub octets : IsBytes xs
  pub few : length xs ≤ most

few-none : FewOctets 0 []
few-none = record { octets = λ i. omega arith; few = omega arith }

octets-cons : (x : ℕ) (xs : List ℕ) → x < 256 → IsBytes xs → (i : ℕ) → slice_index (x ∷ xs) i < 256
octets-cons x xs one others zero = one
octets-cons x xs one others (suc i) = others i

few-cons : (most x : ℕ) (xs : List ℕ) → x < 256 → FewOctets most xs → FewOctets (most + 1) (x ∷ xs)
few-cons most x xs one others = record { octets = octets-cons x xs one others.octets; few = omega (arith, others.few) }

octets-append : (xs ys : List ℕ) → IsBytes xs → IsBytes ys → (i : ℕ) → slice_index (xs ++ ys) i < 256
octets-append [] ys xs-are ys-are i = ys-are i
octets-append (x ∷ xs) ys xs-are ys-are zero = xs-are 0
octets-append (x ∷ xs) ys xs-are ys-are (suc i) = octets-append xs ys (λ k. xs-are (suc k)) ys-are i

few-append : (m n : ℕ) (xs ys : List ℕ) → FewOctets m xs → FewOctets n ys → FewOctets (m + n) (xs ++ ys)
few-append m n xs ys a b = record {
  octets = octets-append xs ys a.octets b.octets;
  few = omega (arith, a.few, b.few, length-append xs ys);
}

few-more : (m n : ℕ) (xs : List ℕ) → m ≤ n → FewOctets m xs → FewOctets n xs
few-more m n xs within a = record { octets = a.octets; few = omega (arith, a.few) }

-- octets that are written out
octets-test : (xs : List ℕ) → list_all (λ x. nat_lt x 256) xs ≡ true → (i : ℕ) → slice_index xs i < 256
octets-test [] pass i = omega arith
octets-test (x ∷ xs) pass zero = ltb-true x 256 (and_parts (nat_lt x 256) _ pass).0
octets-test (x ∷ xs) pass (suc i) = octets-test xs (and_parts (nat_lt x 256) _ pass).1 i

few-test : (xs : List ℕ) → list_all (λ x. nat_lt x 256) xs ≡ true → FewOctets (length xs) xs
few-test xs pass = record { octets = octets-test xs pass; few = omega arith }

few-zeros : (n most : ℕ) → n ≤ most → FewOctets most (replicate n 0)
few-zeros zero most within = few-more 0 most [] within few-none
few-zeros (suc n) most within =
    few-more (n + 1) most (0 ∷ replicate n 0) (omega arith)
    (few-cons n 0 (replicate n 0) (omega arith) (few-zeros n n (omega arith)))

few-decimal : (k n : ℕ) → 0 < k → n < 10 ^ k → n < 2 ^ 64 → FewOctets k (decimal n)
few-decimal k n some within small = record {
  octets = λ i. omega (arith, IsAscii-decimal n small i);
  few = length-decimal-le k n some within small;
}

few-u16 : (n : ℕ) → FewOctets 2 (u16 n)
unfolding u16
few-u16 n = few-cons 1 _ _ (omega arith) (few-cons 0 _ _ (omega arith) few-none)

few-u24 : (n : ℕ) → FewOctets 3 (u24 n)
unfolding u24
few-u24 n = few-cons 2 _ _ (omega arith) (few-cons 1 _ _ (omega arith) (few-cons 0 _ _ (omega arith) few-none))

few-u32 : (n : ℕ) → FewOctets 4 (u32 n)
unfolding u32
few-u32 n =
    few-cons 3 _ _ (omega arith) (few-cons 2 _ _ (omega arith) (few-cons 1 _ _ (omega arith) (few-cons 0 _ _ (omega arith) few-none)))

-- ---- a request

few-name : (i : ℕ) → FewOctets 7 (user_name i)
few-name i =
    few-append 4 3 (codes "user") (decimal (i % 1000)) (few-test (codes "user") refl)
    (few-decimal 3 (i % 1000) (omega arith) (omega arith) (omega arith))

few-attributes : (i : ℕ) → FewOctets 15 (attributes_text (request_attributes i))
few-attributes i =
    few-append 9 6 (1 ∷ (length (user_name i) + 2) ∷ user_name i) (5 ∷ (length (u32 i) + 2) ∷ u32 i ++ [])
    (few-cons 8 1 _ (omega arith) (few-cons 7 _ (user_name i) (omega (arith, (few-name i).few)) (few-name i)))
    (few-append 6 0 (5 ∷ (length (u32 i) + 2) ∷ u32 i) []
    (few-cons 5 5 _ (omega arith) (few-cons 4 _ (u32 i) (omega (arith, (few-u32 i).few)) (few-u32 i))) few-none)

few-authenticator : (i : ℕ) → FewOctets 16 (authenticator i)
unfolding u32
few-authenticator i =
    few-append 4 12 (u32 i) _ (few-u32 i) (few-append 4 8 (u32 i) _ (few-u32 i) (few-append 4 4 (u32 i) (u32 i) (few-u32 i) (few-u32 i)))

pub few-request : (i : ℕ) → FewOctets 35 (request_octets i)
unfolding request_octets packet_text u16 u32
few-request i =
    few-cons 34 1 _ (omega arith) (few-cons 33 (i % 256) _ (omega arith)
    (few-append 2 31 (u16 (20 + length (attributes_text (request_attributes i)))) _ (few-u16 _)
    (few-append 16 15 (authenticator i) (attributes_text (request_attributes i)) (few-authenticator i) (few-attributes i))))

-- ---- an answer

few-bare : (most code : ℕ) (body : List ℕ) → FewOctets most body → FewOctets (most + 8) (bare_text (plain_avp code body))
unfolding bare_text u24 u32
few-bare most code body is =
    few-more (4 + (3 + most + 1)) (most + 8) _ (omega arith)
    (few-append 4 (3 + most + 1) (u32 code) _ (few-u32 code)
    (few-cons (3 + most) 64 _ (omega arith)
    (few-append 3 most (u24 (avp_length (plain_avp code body))) body (few-u24 _) is)))

few-avp : (most code : ℕ) (body : List ℕ) → FewOctets most body → FewOctets (most + 11) (avp_text (plain_avp code body))
unfolding avp_text
few-avp most code body is =
    few-more (most + 8 + 3) (most + 11) _ (omega arith)
    (few-append (most + 8) 3 (bare_text (plain_avp code body)) (replicate (padding (length body)) 0) (few-bare most code body is)
    (few-zeros _ 3 (omega arith)))

few-session : (i : ℕ) → i < 2 ^ 32 → FewOctets 26 (session_id i)
few-session i fits =
    few-append 16 10 (codes "agent.example;0;") (decimal i) (few-test (codes "agent.example;0;") refl)
    (few-decimal 10 i (omega arith) (omega arith) (omega arith))

few-avps : (i r : ℕ) → i < 2 ^ 32 → FewOctets 123 (avps_text (answer_avps i r))
unfolding avps_text
few-avps i r fits =
    few-append 37 86 (avp_text (plain_avp 263 (session_id i))) _ (few-avp 26 263 _ (few-session i fits))
    (few-append 15 71 (avp_text (plain_avp 258 (u32 1))) _ (few-avp 4 258 _ (few-u32 1))
    (few-append 15 56 (avp_text (plain_avp 274 (u32 2))) _ (few-avp 4 274 _ (few-u32 2))
    (few-append 15 41 (avp_text (plain_avp 268 (u32 (result_code r)))) _ (few-avp 4 268 _ (few-u32 (result_code r)))
    (few-append 23 18 (avp_text (plain_avp 264 (codes "home.example"))) _ (few-avp 12 264 _ (few-test (codes "home.example") refl))
    (few-append 18 0 (avp_text (plain_avp 296 (codes "example"))) [] (few-avp 7 296 _ (few-test (codes "example") refl)) few-none)))))

few-header : (size i : ℕ) → FewOctets 20 (header_text size (answer_header i))
unfolding header_text u24 u32
few-header size i =
    few-cons 19 1 _ (omega arith)
    (few-append 3 16 (u24 size) _ (few-u24 size)
    (few-cons 15 64 _ (omega arith)
    (few-append 3 12 (u24 265) _ (few-u24 265)
    (few-append 4 8 (u32 1) _ (few-u32 1)
    (few-append 4 4 (u32 i) (u32 i) (few-u32 i) (few-u32 i))))))

pub few-answer : (i r : ℕ) → i < 2 ^ 32 → FewOctets 143 (answer_octets i r)
unfolding answer_octets message_text
few-answer i r fits =
    let avps = avps_text (answer_avps i r) in
    few-append 20 123 (header_text (20 + length avps) (answer_header i)) avps (few-header _ i) (few-avps i r fits)
