-- HMAC-MD5 (RFC 2104, section 2): the hash is MD5, and a block has 64 octets.
use Rattle.std.specs.Prelude.{ℕ, ◌-◌, nat_le, List, ◌++◌, length, map, replicate, bit_xor, if◌then◌else◌}
use Rattle.md5.specs.Md5.{md5}

-- a key over 64 octets is digested first
abbrev pub short_key : List ℕ → List ℕ
short_key key = if nat_le (length key) 64 then key else md5 key

-- the key with zeros up to a block
abbrev pub key_block : List ℕ → List ℕ
key_block key = short_key key ++ replicate (64 - length (short_key key)) 0

abbrev pub inner_pad : List ℕ → List ℕ
inner_pad key = map (λ x. bit_xor x 0x36) (key_block key)

abbrev pub outer_pad : List ℕ → List ℕ
outer_pad key = map (λ x. bit_xor x 0x5c) (key_block key)

unfoldable pub hmac_of : List ℕ → List ℕ → List ℕ
hmac_of key message = md5 (outer_pad key ++ md5 (inner_pad key ++ message))
