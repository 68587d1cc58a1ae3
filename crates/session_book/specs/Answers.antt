-- The book's own answers to the home server: Abort-Session-Answers (RFC 6733, sections 6.2 and 8.5.2; the order of the
-- AVPs is the profile's).
use Rattle.std.specs.Prelude.{ℕ, nat_le, bit_and, List, [], ◌∷◌, ◌++◌, length, if◌then◌else◌}
use Rattle.wire_core.specs.Numbers.{u32}
use Rattle.diameter_avp.specs.Avps.{AvpParts, avps_text}
use Rattle.diameter_message.specs.declared.header.Header.{Header}
use Rattle.diameter_message.specs.Message.{message_text}
use Rattle.diameter_message.specs.PlainAvps.{origin_avps, plain_avp}
use Rattle.session_book.specs.declared.aborts.Asked.{Asked}

-- the request's header, with its flag P alone
abbrev pub answer_header : Asked → Header
answer_header a = record { flags = bit_and a.flags 64; command = 274; application = a.application; hop = a.hop; end = a.end }

-- the session of the request, where it has at most 4096 octets (profile)
abbrev pub echo : List ℕ → List AvpParts
echo session = if nat_le (length session) 4096 then plain_avp 263 session ∷ [] else []

-- Session-Id, Result-Code, Origin-Host, Origin-Realm
abbrev pub answer_avps : List ℕ → List ℕ → List ℕ → ℕ → List AvpParts
answer_avps host realm session code = echo session ++ plain_avp 268 (u32 code) ∷ origin_avps host realm

unfoldable pub answer_text : List ℕ → List ℕ → Asked → List ℕ → ℕ → List ℕ
answer_text host realm asked session code =
    message_text (answer_header asked) (avps_text (answer_avps host realm session code))
