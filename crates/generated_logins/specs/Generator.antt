-- The generator of transcripts: one client's logins, some of them repeated, and their answers (profile).
use Rattle.std.specs.Prelude.{ℕ, zero, suc, ◌+◌, ◌*◌, ◌/◌, ◌%◌, ◌^◌, Bool, ◌==◌, List, [], ◌∷◌, ◌++◌, codes, decimal, if◌then◌else◌}
use Rattle.std.specs.List.{flat_map, range_with_len}
use Rattle.wire_core.specs.Numbers.{u32}
use Rattle.hex.specs.Hex.{encode_lower}
use Rattle.radius_packet.specs.Packet.{AttributeParts, PacketParts, packet_text}
use Rattle.diameter_avp.specs.Avps.{AvpParts, avps_text}
use Rattle.diameter_message.specs.declared.header.Header.{Header}
use Rattle.diameter_message.specs.Message.{message_text}
use Rattle.diameter_message.specs.PlainAvps.{origin_avps, plain_avp}
use Rattle.printed_lines.specs.Text.{line_of}

-- ---- the numbers that are drawn

abbrev pub next_draw : ℕ → ℕ
next_draw x = (x * 1664525 + 1013904223) % 2 ^ 32

-- the seed first, and then each number from the one before it
unfoldable pub draw : ℕ → ℕ → ℕ
draw seed zero = seed
draw seed (suc k) = next_draw (draw seed k)

-- the bit at this place, counted from the least
abbrev pub has_bit : ℕ → ℕ → Bool
has_bit place x = x / 2 ^ place % 2 == 1

-- ---- the login with a number

-- `user`, and one of a thousand numbers
abbrev pub user_name : ℕ → List ℕ
user_name i = codes "user" ++ decimal (i % 1000)

-- User-Name, and the number as NAS-Port (RFC 2865, sections 5.1 and 5.5)
abbrev pub request_attributes : ℕ → List AttributeParts
request_attributes i =
    record { code = 1; value = user_name i } ∷ record { code = 5; value = u32 i } ∷ []

-- the number four times
abbrev pub authenticator : ℕ → List ℕ
authenticator i = u32 i ++ u32 i ++ u32 i ++ u32 i

-- an Access-Request (section 4.1)
abbrev pub request_parts : ℕ → PacketParts
request_parts i = record {
  code = 1;
  id = i % 256;
  authenticator = authenticator i;
  attributes = request_attributes i;
}

unfoldable pub request_octets : ℕ → List ℕ
request_octets i = packet_text (request_parts i)

-- the session that the agent gives the request
abbrev pub session_id : ℕ → List ℕ
session_id i = codes "agent.example;0;" ++ decimal i

-- an AA-Answer with flag P (RFC 4005, section 3.2), of the request's numbers
abbrev pub answer_header : ℕ → Header
answer_header i = record { flags = 64; command = 265; application = 1; hop = i; end = i }

-- DIAMETER_AUTHENTICATION_REJECTED where the bit is set, else DIAMETER_SUCCESS (RFC 6733, section 7.1)
abbrev pub result_code : ℕ → ℕ
result_code r = if has_bit 17 r then 4001 else 2001

-- Session-Id, Auth-Application-Id, Auth-Request-Type AUTHORIZE_ONLY
abbrev pub session_avps : List ℕ → List AvpParts
session_avps session = plain_avp 263 session ∷ plain_avp 258 (u32 1) ∷ plain_avp 274 (u32 2) ∷ []

-- these, Result-Code, Origin-Host, Origin-Realm
abbrev pub answer_avps : ℕ → ℕ → List AvpParts
answer_avps i r =
    session_avps (session_id i) ++ plain_avp 268 (u32 (result_code r)) ∷ origin_avps (codes "home.example") (codes "example")

unfoldable pub answer_octets : ℕ → ℕ → List ℕ
answer_octets i r = message_text (answer_header i) (avps_text (answer_avps i r))

-- ---- lines, without the octet 0a that ends each

-- one login comes every 20 milliseconds
abbrev pub moment : ℕ → ℕ
moment i = 20 * i

-- an event at the moment of a login
abbrev pub event_line : ℕ → List (List ℕ) → List ℕ
event_line i words = line_of (decimal (moment i) ∷ words)

abbrev pub request_line : ℕ → List ℕ
request_line i = event_line i (codes "auth" ∷ codes "10.0.0.1" ∷ codes "1812" ∷ encode_lower (request_octets i) ∷ [])

abbrev pub answer_line : ℕ → ℕ → List ℕ
answer_line i r = event_line i (codes "link" ∷ encode_lower (answer_octets i r) ∷ [])

abbrev pub drain_line : ℕ → List ℕ
drain_line i = event_line i (codes "drain" ∷ [])

-- the request once more, where the bit at this place is set
abbrev pub repeat_lines : ℕ → ℕ → ℕ → List (List ℕ)
repeat_lines place i r = if has_bit place r then request_line i ∷ [] else []

-- The lines of the login with this number, for which r was drawn: its request, its answer and a drain; the request
-- may come again before the answer, and after it.
unfoldable pub login_lines : ℕ → ℕ → List (List ℕ)
login_lines i r =
    request_line i ∷ repeat_lines 16 i r ++ answer_line i r ∷ repeat_lines 18 i r ++ drain_line i ∷ []

-- ---- the whole transcript

abbrev pub agent_line : List ℕ
agent_line = codes "agent agent.example example example 192.0.2.1 0 1000 64 64 30000"

abbrev pub client_line : List ℕ
client_line = codes "client gen 10.0.0.1 736563726574 gen.example example plain refuse -"

abbrev pub ready_line : List ℕ
ready_line = codes "0 ready"

-- the lines before the first login
abbrev pub opening_lines : List (List ℕ)
opening_lines = agent_line ∷ client_line ∷ ready_line ∷ []

-- the lines of so many logins, numbered from 0, each with a draw of its own
unfoldable pub generated_lines : ℕ → ℕ → List (List ℕ)
generated_lines count seed =
    opening_lines ++ flat_map (λ i. login_lines i (draw seed (i + 1))) (range_with_len 0 count)

-- lines as a text: each ends by the octet 0a
abbrev pub text_of_lines : List (List ℕ) → List ℕ
text_of_lines lines = flat_map (λ line. line ++ 10 ∷ []) lines

abbrev pub generated_text : ℕ → ℕ → List ℕ
generated_text count seed = text_of_lines (generated_lines count seed)
