-- The first fault of a list of AVPs, by where it stands (RFC 6733, section 4.1).
use Rattle.std.specs.Prelude.{◌≡◌, ℕ, ◌<◌, ◌≤◌, ◌⊎◌, List, [], ◌∷◌, ◌++◌, map, length, take, drop, Result, Ok, Err}
use Rattle.diameter_avp.specs.declared.fault.AvpFault.{AvpFault}
use Rattle.diameter_avp.specs.declared.fault.AvpFault.TheVariants.{Short, BadLength}
use Rattle.diameter_avp.specs.Avps.{AvpParts, IsAvps, header_length, length_of, span, vendor_of}

-- what stands before the place is AVPs
pub record Reaches (octets : List ℕ) (place : ℕ) : Type 0 where
  pub before : List AvpParts
  pub avps : IsAvps (take place octets) before
  pub inside : place ≤ length octets

-- the length of the AVP that octets begin with is below its header's, or passes the end with its padding
abbrev pub HasBadLength : List ℕ → Type 0
HasBadLength octets = (length_of octets < header_length (vendor_of octets)) ⊎ (length octets < span octets)

abbrev pub IsFault : List ℕ → AvpFault → Type 0
IsFault octets (Short place) = Reaches octets place × (0 < length (drop place octets)) × (length (drop place octets) < 8)
IsFault octets (BadLength place) = Reaches octets place × (8 ≤ length (drop place octets)) × HasBadLength (drop place octets)

-- how many octets stand before a fault
abbrev pub place_of : AvpFault → ℕ
place_of (Short place) = place
place_of (BadLength place) = place

-- these items are the AVPs that the octets before the fault are, then this one fault, and nothing more
pub record HoldUpTo (octets : List ℕ) (fault : AvpFault) (items : List (Result AvpParts AvpFault)) : Type 0 where
  pub before : List AvpParts
  pub avps : IsAvps (take (place_of fault) octets) before
  pub held : items ≡ map (λ a. Ok a) before ++ Err fault ∷ []
