-- The form of a list of users, as octets (profile).
use Rattle.std.specs.Prelude.{◌≡◌, ℕ, ◌==◌, ◌<◌, ◌≤◌, ◌⊎◌, false, List, [], ◌∷◌, ◌++◌, length, codes, Ok}
use Rattle.std.specs.List.{list_any}
use Rattle.hex.specs.Hex.{decode_of}
use Rattle.test_peers.specs.declared.users.User.{User}

abbrev pub HasNone : ℕ → List ℕ → Type 0
HasNone x octets = list_any (λ y. y == x) octets ≡ false

-- NAME: one or more octets, none of them a space or the end of a line
pub record IsName (name : List ℕ) : Type 0 where
  pub some : 0 < length name
  pub spaces : HasNone 32 name
  pub ends : HasNone 10 name

-- HEX: pairs of hex digits of either case, at least one, or '-' for no octets
abbrev pub IsHex : List ℕ → List ℕ → Type 0
IsHex text octets = ((text ≡ codes "-") × (octets ≡ [])) ⊎ ((0 < length text) × (decode_of text ≡ Ok octets))

-- NAME HEX, with one space between; the line has at most 140,000 octets
pub record IsUserLine (line : List ℕ) (user : User) : Type 0 where
  pub hex : List ℕ
  pub text : line ≡ user.name ++ 32 ∷ hex
  pub name : IsName user.name
  pub password : IsHex hex user.password
  pub short : length line ≤ 140000

-- the octets are a user's line and its end, and then the rest, or a last line alone
pub record BeginsWith (octets : List ℕ) (user : User) (rest : List ℕ) : Type 0 where
  pub line : List ℕ
  pub text : (octets ≡ line ++ 10 ∷ rest) ⊎ ((octets ≡ line) × (rest ≡ []))
  pub user_line : IsUserLine line user

-- the text has a line for each of these users, in their order, and no other
unfoldable pub IsUserList : List ℕ → List User → Type 0
IsUserList text [] = text ≡ []
IsUserList text (user ∷ users) = (rest : List ℕ) × BeginsWith text user rest × IsUserList rest users
