-- Hiding of a User-Password (RFC 2865, section 5.2): blocks of sixteen octets, each chained on the hidden one before it.
use Rattle.std.specs.Prelude.{◌≡◌, ℕ, zero, suc, ◌+◌, ◌-◌, ◌*◌, ◌/◌, ◌%◌, ◌<◌, ◌==◌, nat_le, Bool, true, false, IsTrue, ◌&&◌, if◌then◌else◌, List, [], ◌∷◌, ◌++◌, length, take, drop, replicate, bit_xor}
use Rattle.md5.specs.Md5.{md5}

-- ---- the relation

abbrev pub block : List ℕ → ℕ → List ℕ
block octets i = take 16 (drop (16 * i) octets)

-- octet by octet
abbrev pub xor_each : List ℕ → List ℕ → List ℕ
xor_each [] ys = []
xor_each (x ∷ xs) [] = []
xor_each (x ∷ xs) (y ∷ ys) = bit_xor x y ∷ xor_each xs ys

-- what comes before a block: the hidden block before it, or the authenticator before the first
abbrev pub before_block : List ℕ → List ℕ → ℕ → List ℕ
before_block authenticator hidden zero = authenticator
before_block authenticator hidden (suc i) = block hidden i

abbrev pub mask : List ℕ → List ℕ → List ℕ → ℕ → List ℕ
mask secret authenticator hidden i = md5 (secret ++ before_block authenticator hidden i)

-- 16, 32, 48, .. up to 128
abbrev pub is_hidden_length : ℕ → Bool
is_hidden_length n = nat_le 16 n && nat_le n 128 && n % 16 == 0

-- each block of the hidden octets is that of the plain ones xor the MD5 of the secret and what comes before
pub record Hides (secret authenticator plain hidden : List ℕ) : Type 0 where
  pub same_length : length plain ≡ length hidden
  pub size : IsTrue (is_hidden_length (length hidden))
  pub blocks : (i : ℕ) → 16 * i < length hidden → block hidden i ≡ xor_each (block plain i) (mask secret authenticator hidden i)

-- ---- passwords

-- the least length of hidden octets that has room for so many
abbrev pub padded_length : ℕ → ℕ
padded_length n = if n == 0 then 16 else (n + 15) / 16 * 16

-- the password with zeros up to that length
abbrev pub padded : List ℕ → List ℕ
padded password = password ++ replicate (padded_length (length password) - length password) 0

abbrev pub is_nil : List ℕ → Bool
is_nil [] = true
is_nil (x ∷ xs) = false

-- without the zeros at the end (profile)
abbrev pub trimmed : List ℕ → List ℕ
trimmed [] = []
trimmed (x ∷ xs) = if x == 0 && is_nil (trimmed xs) then [] else x ∷ trimmed xs

-- ---- what hidden octets hide

unfoldable pub plain_blocks : List ℕ → List ℕ → List ℕ → ℕ → List ℕ
plain_blocks secret authenticator hidden zero = []
plain_blocks secret authenticator hidden (suc i) =
    plain_blocks secret authenticator hidden i ++ xor_each (block hidden i) (mask secret authenticator hidden i)

abbrev pub plain_form : List ℕ → List ℕ → List ℕ → List ℕ
plain_form secret authenticator hidden = trimmed (plain_blocks secret authenticator hidden (length hidden / 16))

-- ---- what hides a password

-- so many blocks of the octets that hide the plain ones, each masked by the hidden one before it
unfoldable pub hidden_blocks : List ℕ → List ℕ → List ℕ → ℕ → List ℕ
hidden_blocks secret authenticator plain zero = []
hidden_blocks secret authenticator plain (suc i) =
    let before = hidden_blocks secret authenticator plain i in
    before ++ xor_each (block plain i) (mask secret authenticator before i)

-- the hidden form of a password
abbrev pub hidden_form : List ℕ → List ℕ → List ℕ → List ℕ
hidden_form secret authenticator password =
    hidden_blocks secret authenticator (padded password) (length (padded password) / 16)

-- what hidden octets hide is the password that they were made of, without the zeros at its end (section 5.2)
abbrev pub HiddenPasswordsComeBack : Type 0
HiddenPasswordsComeBack = (secret authenticator password hidden : List ℕ) → Hides secret authenticator password hidden → plain_form secret authenticator hidden ≡ trimmed password
