-- Values in the words that a reader knows (profile).
use Rattle.std.specs.Prelude.{ℕ, ◌==◌, ◌||◌, ◌&&◌, nat_le, List, [], ◌∷◌, ◌++◌, length, map, codes, decimal, Option, Some, None, if◌then◌else◌}
use Rattle.std.specs.List.{flat_map, join_with_byte}
use Rattle.hex.specs.Hex.{encode_lower}
use Rattle.wire_core.specs.Numbers.{number}
use Rattle.names.specs.declared.avps.Kind.{Kind}
use Rattle.names.specs.declared.avps.Kind.TheVariants.{Text, Octets, Number, Wide, Address, Time, Hidden, Group}
use Rattle.names.specs.Names.{value_named}

-- a printable character of ASCII stands as it is but for '"' and '\', and other octets in hex
abbrev pub escaped : ℕ → List ℕ
escaped octet =
    if octet == 34 || octet == 92 then 92 ∷ octet ∷ []
    else if nat_le 32 octet && nat_le octet 126 then octet ∷ []
    else codes "\\x" ++ encode_lower (octet ∷ [])

abbrev pub quoted : List ℕ → List ℕ
quoted text = 34 ∷ flat_map escaped text ++ 34 ∷ []

abbrev pub in_hex : List ℕ → List ℕ
in_hex octets = codes "0x" ++ encode_lower octets

abbrev pub dotted : List ℕ → List ℕ
dotted octets = join_with_byte 46 (map decimal octets)

-- the name of a value, where it has one
abbrev pub name_behind : Option (List ℕ) → List ℕ
name_behind None = []
name_behind (Some name) = 32 ∷ name

-- A number, a wide one and a time. What hasn't the size of its kind stands in hex.
abbrev pub number_text : ℕ → List ℕ → List ℕ
number_text code body = if length body == 4 then decimal (number body) ++ name_behind (value_named code (number body)) else in_hex body

abbrev pub wide_text : List ℕ → List ℕ
wide_text body = if length body == 8 then decimal (number body) else in_hex body

abbrev pub time_text : List ℕ → List ℕ
time_text body = if length body == 4 then decimal (number body) else in_hex body

-- four octets, or those behind the family IPv4 (RFC 6733, section 4.3.1)
abbrev pub address_text : List ℕ → List ℕ
address_text (a ∷ b ∷ c ∷ d ∷ []) = dotted (a ∷ b ∷ c ∷ d ∷ [])
address_text (high ∷ low ∷ a ∷ b ∷ c ∷ d ∷ []) = if high == 0 && low == 1 then dotted (a ∷ b ∷ c ∷ d ∷ []) else in_hex (high ∷ low ∷ a ∷ b ∷ c ∷ d ∷ [])
address_text octets = in_hex octets

-- a value of the attribute or AVP of this number and kind
abbrev pub value_text : ℕ → Kind → List ℕ → List ℕ
value_text code Text body = quoted body
value_text code Octets body = in_hex body
value_text code Number body = number_text code body
value_text code Wide body = wide_text body
value_text code Address body = address_text body
value_text code Time body = time_text body
value_text code Hidden body = codes "hidden"
value_text code Group body = in_hex body
