-- The values that carry a session through a RADIUS client, and what they carry (profile, after RFC 4005,
-- section 9).
use Rattle.std.specs.Prelude.{◌≡◌, ℕ, ◌+◌, ◌&&◌, ◌==◌, nat_eq, IsTrue, if◌then◌else◌, List, length, take, drop, codes, position, Option, Some, None, option_map, option_and_then}
use Rattle.std.specs.Cmp.Lexicographic.{pointwise}
use Rattle.wire_core.specs.Words.{is_identity, is_session_text}
use Rattle.session_carrier.specs.Session.{class_text, state_text}
use Rattle.session_carrier.specs.declared.reading.Carried.{Carried}

-- what a State carries: the Destination-Host and the Destination-Realm of the next request, and its session
pub record CarriedParts : Type 0 where
  pub host : List ℕ
  pub realm : List ℕ
  pub session : List ℕ

abbrev pub carried_view : Carried → CarriedParts
carried_view c = record { host = c.host.now; realm = c.realm.now; session = c.session.now }

-- this value is the State of these parts
pub record IsState (value host realm session : List ℕ) : Type 0 where
  pub text : value ≡ state_text host realm session
  pub named_host : IsTrue (is_identity host)
  pub named_realm : IsTrue (is_identity realm)
  pub visible : IsTrue (is_session_text session)

-- this value is the Class of this session
pub record IsClass (value session : List ℕ) : Type 0 where
  pub text : value ≡ class_text session
  pub visible : IsTrue (is_session_text session)

-- ---- reading

-- what stands behind `Diameter/`, where a value begins with it
unfoldable pub behind_prefix : List ℕ → Option (List ℕ)
behind_prefix value = if pointwise nat_eq (take 9 value) (codes "Diameter/") then Some (drop 9 value) else None

-- where the first '/' stands
abbrev pub slash_place : List ℕ → Option ℕ
slash_place octets = position (λ c. c == 47) octets

-- what stands before the first '/' and behind it
unfoldable pub cut : List ℕ → Option (List ℕ × List ℕ)
cut octets = option_map (λ place. (take place octets, drop (place + 1) octets)) (slash_place octets)

-- the parts, if they are names and a session text
abbrev pub checked : List ℕ → List ℕ → List ℕ → Option CarriedParts
checked host realm session =
    if is_identity host && is_identity realm && is_session_text session
    then Some (record { host = host; realm = realm; session = session })
    else None

-- what a State carries, cut at the first two '/' behind the prefix
unfoldable pub read_state : List ℕ → Option CarriedParts
read_state value = option_and_then (λ text. option_and_then (λ front. option_and_then (λ back. checked front.0 back.0 back.1) (cut front.1)) (cut text)) (behind_prefix value)

abbrev pub checked_session : List ℕ → Option (List ℕ)
checked_session session = if is_session_text session then Some session else None

-- the session that a Class carries
unfoldable pub read_class : List ℕ → Option (List ℕ)
read_class value = option_and_then checked_session (behind_prefix value)

-- ---- laws

-- what was made of identities and a session text is read back
abbrev pub StatesAreReadBack : Type 0
StatesAreReadBack = (host realm session : List ℕ) → IsTrue (is_identity host) → IsTrue (is_identity realm) →
    IsTrue (is_session_text session) →
    read_state (state_text host realm session) ≡ Some (record { host = host; realm = realm; session = session })

abbrev pub ClassesAreReadBack : Type 0
ClassesAreReadBack = (session : List ℕ) → IsTrue (is_session_text session) → read_class (class_text session) ≡ Some session

-- a value is a State, or a Class, in one way at most
abbrev pub StatesHaveOneReading : Type 0
StatesHaveOneReading = (value h r s h' r' s' : List ℕ) → IsState value h r s → IsState value h' r' s' →
    (h ≡ h') × (r ≡ r') × (s ≡ s')

abbrev pub ClassesHaveOneReading : Type 0
ClassesHaveOneReading = (value s s' : List ℕ) → IsClass value s → IsClass value s' → s ≡ s'

-- how many octets a State and a Class have
abbrev pub StatesHaveLength : Type 0
StatesHaveLength = (value host realm session : List ℕ) → IsState value host realm session →
    length value ≡ 9 + length host + 1 + length realm + 1 + length session

abbrev pub ClassesHaveLength : Type 0
ClassesHaveLength = (value session : List ℕ) → IsClass value session → length value ≡ 9 + length session
