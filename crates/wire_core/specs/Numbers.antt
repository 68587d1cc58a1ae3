-- Numbers on the wire: big-endian octets, the most significant first (RFC 6733, section 3; RFC 2865,
-- section 3). Each text is meant of a number that fits in it.
use Rattle.std.specs.Prelude.{◌≡◌, ℕ, ◌+◌, ◌*◌, ◌/◌, ◌%◌, ◌<◌, ◌^◌, List, [], ◌∷◌, fold, take, drop, All}

unfoldable pub u16 : ℕ → List ℕ
u16 n = n / 256 % 256 ∷ n % 256 ∷ []

unfoldable pub u24 : ℕ → List ℕ
u24 n = n / 65536 % 256 ∷ n / 256 % 256 ∷ n % 256 ∷ []

unfoldable pub u32 : ℕ → List ℕ
u32 n = n / 16777216 % 256 ∷ n / 65536 % 256 ∷ n / 256 % 256 ∷ n % 256 ∷ []

unfoldable pub u64 : ℕ → List ℕ
u64 n =
    n / 72057594037927936 % 256 ∷ n / 281474976710656 % 256 ∷ n / 1099511627776 % 256 ∷ n / 4294967296 % 256
    ∷ n / 16777216 % 256 ∷ n / 65536 % 256 ∷ n / 256 % 256 ∷ n % 256 ∷ []

-- the number that big-endian octets stand for
unfoldable pub number : List ℕ → ℕ
number xs = fold (λ n x. n * 256 + x) 0 xs

-- the octets of a number that fits in them stand for it
pub record NumbersAreReadBack : Type 0 where
  pub in_two : (n : ℕ) → n < 2 ^ 16 → number (u16 n) ≡ n
  pub in_three : (n : ℕ) → n < 2 ^ 24 → number (u24 n) ≡ n
  pub in_four : (n : ℕ) → n < 2 ^ 32 → number (u32 n) ≡ n
  pub in_eight : (n : ℕ) → n < 2 ^ 64 → number (u64 n) ≡ n

-- the count octets at a place
abbrev pub octets_at : List ℕ → ℕ → ℕ → List ℕ
octets_at xs place count = take count (drop place xs)

-- each element is an octet
abbrev pub AreOctets : List ℕ → Type 0
AreOctets xs = All (λ x. x < 256) xs
