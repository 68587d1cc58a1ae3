-- When a datagram holds no packet (RFC 2865, section 3): each case of a datagram that is no packet is one of these.
use Rattle.std.specs.Prelude.{ℕ, ◌<◌, ◌≤◌, ◌⊎◌, List, length}
use Rattle.radius_packet.specs.Packet.{length_field, whole, BreaksAt}

-- Length is that of some packet
pub record HasGoodLength (octets : List ℕ) : Type 0 where
  pub low : 20 ≤ length_field octets
  pub high : length_field octets ≤ 4096

-- there are fewer octets than a header, or than a Length that is in range
abbrev pub IsShort : List ℕ → Type 0
IsShort octets = (length octets < 20) ⊎ (HasGoodLength octets × (length octets < length_field octets))

-- there is a header, and its Length is out of range
abbrev pub HasBadLength : List ℕ → Type 0
HasBadLength octets = (20 ≤ length octets) × ((length_field octets < 20) ⊎ (4096 < length_field octets))

-- neither stands, and the first attribute that isn't whole begins at this place
pub record HasBadAttribute (octets : List ℕ) (place : ℕ) : Type 0 where
  pub in_range : HasGoodLength octets
  pub there : length_field octets ≤ length octets
  pub breaks : BreaksAt (whole octets) place
