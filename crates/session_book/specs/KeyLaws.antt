-- Internal: octets as keys.
use Rattle.std.proofs.Common.{◌≡◌, ℕ, true, nat_eq, List, ◌++◌, length}
use Rattle.std.specs.List.{flat_map}
use Rattle.std.specs.Hash as fed
use Rattle.std.specs.Cmp.Lexicographic.{pointwise, bytes_decides}

-- what a slice of octets is hashed as
abbrev pub hash_input : List ℕ → List (List ℕ)
hash_input octets = fed.usize (length octets) ++ flat_map fed.u8 octets

-- octets that are compared as equal are the same
pub octets-equal : (xs ys : List ℕ) → pointwise nat_eq xs ys ≡ true → xs ≡ ys
octets-equal xs ys e = (bytes_decides xs ys).0 e
