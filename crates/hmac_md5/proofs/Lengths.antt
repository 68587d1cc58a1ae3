-- An HMAC-MD5 has 16 octets.
use Rattle.std.proofs.Common.{◌≡◌, ℕ, List, length}
use Rattle.md5.proofs.StandardFacts.{length-md5}
use Rattle.hmac_md5.specs.Hmac.{hmac_of}

pub length-hmac_of : (key message : List ℕ) → length (hmac_of key message) ≡ 16
unfolding hmac_of
length-hmac_of key message = length-md5 _
