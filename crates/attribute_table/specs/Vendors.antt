-- The parts of a Vendor-Specific attribute (RFC 2865, section 5.26).
use Rattle.std.specs.Prelude.{◌≡◌, ℕ, zero, suc, ◌+◌, ◌-◌, ◌^◌, ◌<◌, Bool, false, ◌==◌, nat_le, nat_lt, ◌&&◌, if◌then◌else◌, List, [], ◌∷◌, ◌++◌, length, take, drop, slice_index, All, Option, Some, None}
use Rattle.wire_core.specs.Numbers.{number, octets_at, u32}

-- one part: the vendor, the vendor's type and the value
pub record VendorPart : Type 0 where
  pub vendor : ℕ
  pub code : ℕ
  pub body : List ℕ

-- a part's length counts its type and itself too
abbrev pub part_text : VendorPart → List ℕ
part_text p = p.code ∷ (length p.body + 2) ∷ p.body

unfoldable pub parts_text : List VendorPart → List ℕ
parts_text [] = []
parts_text (p ∷ parts) = part_text p ++ parts_text parts

-- a part of this vendor, whose numbers fit their octets
pub record IsPart (vendor : ℕ) (p : VendorPart) : Type 0 where
  pub same_vendor : p.vendor ≡ vendor
  pub code : p.code < 2 ^ 8
  pub counted : length p.body + 2 < 2 ^ 8

-- this value is four octets of vendor and then these parts, of which there is at least one
pub record IsVendors (value : List ℕ) (parts : List VendorPart) : Type 0 where
  pub vendor : ℕ
  pub fits : vendor < 2 ^ 32
  pub some : 0 < length parts
  pub each : All (IsPart vendor) parts
  pub text : value ≡ u32 vendor ++ parts_text parts

-- ---- reading

-- behind the first n octets there are parts, one after the other, and nothing else
unfoldable pub are_parts : ℕ → List ℕ → Bool
are_parts n [] = n == 0
are_parts (suc n) (x ∷ octets) = are_parts n octets
are_parts zero (code ∷ []) = false
are_parts zero (code ∷ size ∷ octets) = nat_le 2 size && are_parts (size - 2) octets

-- the parts behind the first n octets, up to one that isn't whole
unfoldable pub parts_behind : ℕ → ℕ → List ℕ → List VendorPart
parts_behind vendor n [] = []
parts_behind vendor (suc n) (x ∷ octets) = parts_behind vendor n octets
parts_behind vendor zero (code ∷ []) = []
parts_behind vendor zero (code ∷ size ∷ octets) =
    if nat_le 2 size && nat_le (size - 2) (length octets)
    then record { vendor = vendor; code = code; body = take (size - 2) octets } ∷ parts_behind vendor (size - 2) octets
    else []

-- how many octets the part takes that octets begin with, if it is whole
abbrev pub part_size : List ℕ → Option ℕ
part_size octets =
    let size = slice_index octets 1 in
    if nat_le 2 (length octets) && nat_le 2 size && nat_le size (length octets) then Some size else None

-- the parts of a value, if it is of the form
unfoldable pub vendor_parts : List ℕ → Option (List VendorPart)
vendor_parts value =
    if nat_lt 4 (length value) && are_parts 0 (drop 4 value)
    then Some (parts_behind (number (octets_at value 0 4)) 0 (drop 4 value))
    else None

-- ---- laws

-- a value is of the form in one way at most
abbrev pub VendorsHaveOneReading : Type 0
VendorsHaveOneReading = (value : List ℕ) (parts others : List VendorPart) → IsVendors value parts → IsVendors value others → parts ≡ others
