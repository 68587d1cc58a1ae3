-- The definitions on values from outside.
use Rattle.std.proofs.Common.{◌≡◌, [], ◌∷◌, true, false, codes, refl}
use Rattle.std.specs.Fmt.{digits}
use Rattle.wire_core.specs.Numbers.{u16, u24, u32}
use Rattle.hex.specs.Hex.{encode_with}
use Rattle.radius_packet.specs.Packet.{packet_text}
use Rattle.diameter_avp.specs.Avps.{avp_text, avps_text, bare_text}
use Rattle.diameter_message.specs.Message.{header_text, message_text}
use Rattle.generated_logins.specs.Generator.{answer_line, answer_octets, draw, drain_line, has_bit, request_line, request_octets}

draw-four : draw 1 1 ∷ draw 1 2 ∷ draw 1 3 ∷ draw 1 4 ∷ [] ≡ 1015568748 ∷ 1586005467 ∷ 2165703038 ∷ 3027450565 ∷ []
unfolding draw
draw-four = refl

-- a repeat before the answer, a refusal, a repeat after it
has_bit-third : has_bit 16 2165703038 ∷ has_bit 17 2165703038 ∷ has_bit 18 2165703038 ∷ [] ≡ false ∷ true ∷ true ∷ []
has_bit-third = refl

has_bit-fourth : has_bit 16 3027450565 ∷ has_bit 17 3027450565 ∷ has_bit 18 3027450565 ∷ [] ≡ true ∷ true ∷ false ∷ []
has_bit-fourth = refl

request_line-third : request_line 2
    ≡ codes "40 auth 10.0.0.1 1812 010200210000000200000002000000020000000201077573657232050600000002"
unfolding digits u16 u32 packet_text request_octets encode_with
request_line-third = refl

answer_line-first : answer_line 0 1015568748
    ≡ codes "0 link 010000784000010900000001000000000000000000000107400000196167656e742e6578616d706c653b303b30000000000001024000000c00000001000001124000000c000000020000010c4000000c000007d10000010840000014686f6d652e6578616d706c65000001284000000f6578616d706c6500"
unfolding digits u24 u32 avp_text avps_text bare_text header_text message_text answer_octets encode_with
answer_line-first = refl

drain_line-third : drain_line 2 ≡ codes "40 drain"
unfolding digits
drain_line-third = refl
