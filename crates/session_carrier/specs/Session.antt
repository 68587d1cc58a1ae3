-- The texts that name a session.
use Rattle.std.specs.Prelude.{◌≡◌, ℕ, ◌+◌, ◌*◌, ◌≤◌, ◌<◌, ◌^◌, List, ◌++◌, length, codes, IsTrue}
use Rattle.std.specs.Fmt.{decimal}
use Rattle.hex.specs.Hex.{encode_lower}
use Rattle.wire_core.specs.Numbers.{AreOctets}
use Rattle.wire_core.specs.Words.{is_identity, is_session_text}

-- a Session-Id that no earlier request has: the host, then two numbers that rise, parted by ';' (RFC 6733, section 8.8)
unfoldable pub fresh_session : List ℕ → ℕ → ℕ → List ℕ
fresh_session host boot serial = host ++ codes ";" ++ decimal boot ++ codes ";" ++ decimal serial

-- the Session-Id of a client's accounting session without a carrier: its Acct-Session-Id in hex (profile)
unfoldable pub accounting_text : List ℕ → List ℕ → List ℕ → List ℕ
accounting_text host client acct = host ++ codes ";0;0;acct;" ++ client ++ codes ";" ++ encode_lower acct

-- a Class that carries a session (profile)
unfoldable pub class_text : List ℕ → List ℕ
class_text session = codes "Diameter/" ++ session

-- a State that carries a session and where its requests go (profile)
unfoldable pub state_text : List ℕ → List ℕ → List ℕ → List ℕ
state_text host realm session = codes "Diameter/" ++ host ++ codes "/" ++ realm ++ codes "/" ++ session

-- fresh sessions of one host and boot differ where their serials do
abbrev pub FreshSessionsDiffer : Type 0
FreshSessionsDiffer = (host : List ℕ) (boot m n : ℕ) → m < 2 ^ 64 → n < 2 ^ 64 →
    fresh_session host boot m ≡ fresh_session host boot n → m ≡ n

-- a fresh session of an identity is a session text
abbrev pub FreshSessionsAreTexts : Type 0
FreshSessionsAreTexts = (host : List ℕ) (boot serial : ℕ) → boot < 2 ^ 32 → serial < 2 ^ 64 →
    IsTrue (is_identity host) → IsTrue (is_session_text (fresh_session host boot serial))

-- a fresh session has at most 32 octets more than its host
abbrev pub FreshSessionsAreShort : Type 0
FreshSessionsAreShort = (host : List ℕ) (boot serial : ℕ) → boot < 2 ^ 32 → serial < 2 ^ 64 →
    length (fresh_session host boot serial) ≤ length host + 1 + 10 + 1 + 20

-- an accounting session of identities is a session text
abbrev pub AccountingSessionsAreTexts : Type 0
AccountingSessionsAreTexts = (host client acct : List ℕ) → AreOctets acct →
    IsTrue (is_identity host) → IsTrue (is_identity client) → IsTrue (is_session_text (accounting_text host client acct))

-- how many octets an accounting session has
abbrev pub AccountingSessionsHaveLength : Type 0
AccountingSessionsHaveLength = (host client acct : List ℕ) →
    length (accounting_text host client acct) ≡ length host + 11 + length client + 2 * length acct
