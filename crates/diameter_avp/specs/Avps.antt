-- AVPs and lists of them (RFC 6733, section 4.1).
use Rattle.std.specs.Prelude.{◌≡◌, ℕ, ◌+◌, ◌-◌, ◌%◌, ◌^◌, ◌<◌, suc, zero, Bool, nat_lt, not, ◌==◌, if◌then◌else◌, List, [], ◌∷◌, ◌++◌, length, drop, replicate, slice_index, bit_and, Option, Some, None, is_some, IfSome, Result, Ok, Err}
use Rattle.std.specs.Result.{ok_prefix}
use Rattle.wire_core.specs.Numbers.{number, octets_at, u24, u32}
use Rattle.diameter_avp.specs.declared.fault.AvpFault.{AvpFault}
use Rattle.diameter_avp.specs.declared.fault.AvpFault.TheVariants.{Short, BadLength}

-- one AVP, its Vendor-ID only where there is one
pub record AvpParts : Type 0 where
  pub code : ℕ
  pub flags : ℕ
  pub vendor : Option ℕ
  pub body : List ℕ

-- the V flag and the M flag
abbrev pub has_vendor : ℕ → Bool
has_vendor flags = not (bit_and flags 128 == 0)

abbrev pub is_mandatory : AvpParts → Bool
is_mandatory a = not (bit_and a.flags 64 == 0)

-- what the length field counts: the header and the body
abbrev pub header_length : Option ℕ → ℕ
header_length vendor = if is_some vendor then 12 else 8

abbrev pub avp_length : AvpParts → ℕ
avp_length a = header_length a.vendor + length a.body

-- how many octets up to a multiple of four
abbrev pub padding : ℕ → ℕ
padding n = (4 - n % 4) % 4

abbrev pub vendor_text : Option ℕ → List ℕ
vendor_text None = []
vendor_text (Some vendor) = u32 vendor

-- an AVP without its padding
unfoldable pub bare_text : AvpParts → List ℕ
bare_text a = u32 a.code ++ a.flags ∷ u24 (avp_length a) ++ vendor_text a.vendor ++ a.body

-- padded with zeros
unfoldable pub avp_text : AvpParts → List ℕ
avp_text a = bare_text a ++ replicate (padding (length a.body)) 0

unfoldable pub avps_text : List AvpParts → List ℕ
avps_text [] = []
avps_text (a ∷ avps) = avp_text a ++ avps_text avps

-- each number fits its field, and the V flag stands exactly where there is a vendor
pub record IsAvp (a : AvpParts) : Type 0 where
  pub code : a.code < 2 ^ 32
  pub flags : a.flags < 2 ^ 8
  pub vendor_flag : has_vendor a.flags ≡ is_some a.vendor
  pub vendor : IfSome a.vendor (λ v. v < 2 ^ 32)
  pub counted : avp_length a < 2 ^ 24

-- these octets are one AVP, with padding of any value, and then the rest
pub record BeginsWith (octets : List ℕ) (a : AvpParts) (rest : List ℕ) : Type 0 where
  pub avp : IsAvp a
  pub pad : List ℕ
  pub padded : length pad ≡ padding (length a.body)
  pub text : octets ≡ bare_text a ++ pad ++ rest

-- these octets are these AVPs, one after the other
unfoldable pub IsAvps : List ℕ → List AvpParts → Type 0
IsAvps octets [] = octets ≡ []
IsAvps octets (a ∷ avps) = (rest : List ℕ) × BeginsWith octets a rest × IsAvps rest avps

-- ---- reading

-- The fields of the AVP that octets begin with.
abbrev pub flags_of : List ℕ → ℕ
flags_of octets = slice_index octets 4

abbrev pub length_of : List ℕ → ℕ
length_of octets = number (octets_at octets 5 3)

abbrev pub vendor_of : List ℕ → Option ℕ
vendor_of octets = if has_vendor (flags_of octets) then Some (number (octets_at octets 8 4)) else None

abbrev pub parts_of : List ℕ → AvpParts
parts_of octets =
    let header = header_length (vendor_of octets) in
    record { code = number (octets_at octets 0 4); flags = flags_of octets; vendor = vendor_of octets; body = octets_at octets header (length_of octets - header) }

-- the length with padding
abbrev pub span : List ℕ → ℕ
span octets = length_of octets + padding (length_of octets)

-- The AVP that octets begin with, or what is wrong with it; they stand at this place of the list.
unfoldable pub read_avp : ℕ → List ℕ → Result AvpParts AvpFault
read_avp place octets =
    if nat_lt (length octets) 8
    then Err (Short place)
    else (
    if nat_lt (length_of octets) (header_length (vendor_of octets))
    then Err (BadLength place)
    else (if nat_lt (length octets) (span octets) then Err (BadLength place) else Ok (parts_of octets)))

-- an item before these, and no more items after a fault
abbrev pub then_items : Result AvpParts AvpFault → List (Result AvpParts AvpFault) → List (Result AvpParts AvpFault)
then_items (Ok a) items = Ok a ∷ items
then_items (Err fault) items = Err fault ∷ []

-- at most this many items of the octets that stand at this place
unfoldable pub items_from : ℕ → ℕ → List ℕ → List (Result AvpParts AvpFault)
items_from count place [] = []
items_from zero place (x ∷ octets) = []
items_from (suc count) place (x ∷ octets) =
    then_items (read_avp place (x ∷ octets)) (items_from count (place + span (x ∷ octets)) (drop (span (x ∷ octets)) (x ∷ octets)))

-- What the octets at this place hold: each AVP in order, up to the first fault.
unfoldable pub items_at : ℕ → List ℕ → List (Result AvpParts AvpFault)
items_at place octets = items_from (length octets) place octets

unfoldable pub avp_items : List ℕ → List (Result AvpParts AvpFault)
avp_items octets = items_at 0 octets

-- the fault among these items
abbrev pub fault_of : List (Result AvpParts AvpFault) → Option AvpFault
fault_of [] = None
fault_of (Ok a ∷ items) = fault_of items
fault_of (Err fault ∷ items) = Some fault

abbrev pub unless_fault : {T : Type 0} → Option AvpFault → T → Result T AvpFault
unless_fault None x = Ok x
unless_fault (Some fault) x = Err fault

-- the first fault by place
abbrev pub avps_fault : List ℕ → Option AvpFault
avps_fault octets = fault_of (avp_items octets)

-- the AVPs before the first fault
abbrev pub readable_avps : List ℕ → List AvpParts
readable_avps octets = ok_prefix (avp_items octets)

-- The AVPs that octets are, or the fault.
unfoldable pub read_avps : List ℕ → Result (List AvpParts) AvpFault
read_avps octets = unless_fault (avps_fault octets) (readable_avps octets)

-- ---- writing

-- the AVP that is written of these parts
abbrev pub made : ℕ → Option ℕ → Bool → List ℕ → AvpParts
made code vendor mandatory body =
    record { code = code; flags = (if is_some vendor then 128 else 0) + (if mandatory then 64 else 0); vendor = vendor; body = body }
