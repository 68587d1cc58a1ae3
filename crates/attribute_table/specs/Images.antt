-- What a value of RADIUS becomes in Diameter, and the other way.
use Rattle.std.specs.Prelude.{◌≡◌, ℕ, ◌+◌, ◌-◌, ◌%◌, ◌^◌, ◌≤◌, Bool, true, ◌==◌, nat_le, nat_lt, ◌&&◌, List, length, Result, Ok, Err, if◌then◌else◌}
use Rattle.std.specs.Str.{is_utf8}
use Rattle.wire_core.specs.Numbers.{AreOctets, number, u32}
use Rattle.attribute_table.specs.declared.row.Kind.{Kind}
use Rattle.attribute_table.specs.declared.row.Kind.TheVariants.{Text, Plain, Four, Eight, Sixteen, Prefix, Time}
use Rattle.attribute_table.specs.declared.row.Row.{Row}
use Rattle.attribute_table.specs.declared.image.RowFault.{RowFault}
use Rattle.attribute_table.specs.declared.image.RowFault.TheVariants.{BadSize, BadText, TooLong}

-- the values of each kind; a text is UTF-8 (RFC 3629), an IPv6 prefix has 2 octets and up to 16 of address
abbrev pub is_of_kind : Kind → List ℕ → Bool
is_of_kind Text v = is_utf8 v
is_of_kind Plain v = true
is_of_kind Four v = length v == 4
is_of_kind Eight v = length v == 8
is_of_kind Sixteen v = length v == 16
is_of_kind Prefix v = nat_le 2 (length v) && nat_le (length v) 18
is_of_kind Time v = length v == 4

abbrev pub kind_fault : Kind → RowFault
kind_fault Text = BadText
kind_fault _ = BadSize

-- a value keeps its octets, but a time counts from 1900 in Diameter and from 1970 in RADIUS (RFC 6733, section 4.3.1)
abbrev pub diameter_value : Kind → List ℕ → List ℕ
diameter_value Time v = u32 ((number v + 2208988800) % 2 ^ 32)
diameter_value _ v = v

-- the AVP's data
unfoldable pub forward_image : Row → List ℕ → Result (List ℕ) RowFault
forward_image row v = if is_of_kind row.kind v then Ok (diameter_value row.kind v) else Err (kind_fault row.kind)

-- the same from Diameter to RADIUS
abbrev pub radius_value : Kind → List ℕ → List ℕ
radius_value Time v = u32 ((number v + 2 ^ 32 - 2208988800) % 2 ^ 32)
radius_value _ v = v

-- the attribute's value, of 253 octets at most (RFC 2865, section 5)
unfoldable pub backward_image : Row → List ℕ → Result (List ℕ) RowFault
backward_image row v =
    if nat_lt 253 (length v)
    then Err TooLong
    else (if is_of_kind row.kind v then Ok (radius_value row.kind v) else Err (kind_fault row.kind))

-- an image is as long as its value
abbrev pub ImagesKeepLength : Type 0
ImagesKeepLength = (row : Row) (v w : List ℕ) → forward_image row v ≡ Ok w → length w ≡ length v

abbrev pub BackwardImagesKeepLength : Type 0
BackwardImagesKeepLength = (row : Row) (v w : List ℕ) → backward_image row v ≡ Ok w → (length w ≡ length v) × (length w ≤ 253)

-- a value that was translated is translated back to itself
abbrev pub ImagesGoBack : Type 0
ImagesGoBack = (row : Row) (v w : List ℕ) → AreOctets v → length v ≤ 253 → forward_image row v ≡ Ok w → backward_image row w ≡ Ok v
