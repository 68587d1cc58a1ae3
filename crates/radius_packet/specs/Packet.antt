-- RADIUS packets as octets (RFC 2865, section 3; attributes: section 5), and reading them.
use Rattle.std.specs.Prelude.{◌≡◌, ℕ, zero, suc, ◌+◌, ◌-◌, ◌<◌, ◌≤◌, ◌⊎◌, nat_lt, ◌||◌, if◌then◌else◌, List, [], ◌∷◌, ◌++◌, length, take, drop, slice_index, Result, Ok, Err}
use Rattle.std.specs.List.{flat_map, AllByRecursion}
use Rattle.std.specs.Result.{result_unwrap_or}
use Rattle.wire_core.specs.Numbers.{u16, number, octets_at}
use Rattle.radius_packet.specs.declared.fault.PacketFault.{PacketFault}
use Rattle.radius_packet.specs.declared.fault.PacketFault.TheVariants.{Short, BadLength, BadAttribute}

-- an attribute: its type and its value
pub record AttributeParts : Type 0 where
  pub code : ℕ
  pub value : List ℕ

pub record PacketParts : Type 0 where
  pub code : ℕ
  pub id : ℕ
  pub authenticator : List ℕ
  pub attributes : List AttributeParts

-- type, length of the whole attribute, value (section 5)
abbrev pub attribute_text : AttributeParts → List ℕ
attribute_text a = a.code ∷ (length a.value + 2) ∷ a.value

abbrev pub attributes_text : List AttributeParts → List ℕ
attributes_text list = flat_map attribute_text list

-- code, identifier, length of the whole packet, authenticator, attributes (section 3)
unfoldable pub packet_text : PacketParts → List ℕ
packet_text p =
    p.code ∷ p.id ∷ u16 (20 + length (attributes_text p.attributes)) ++ p.authenticator ++ attributes_text p.attributes

-- the octets are the packet of these parts (sections 3 and 5)
pub record IsPacket (octets : List ℕ) (p : PacketParts) : Type 0 where
  pub text : octets ≡ packet_text p
  pub authenticator : length p.authenticator ≡ 16
  pub values : AllByRecursion (λ a. length a.value ≤ 253) p.attributes
  pub most : length octets ≤ 4096

-- the number in the field Length
abbrev pub length_field : List ℕ → ℕ
length_field octets = number (octets_at octets 2 2)

-- the octets up to Length; those past it are padding (section 3)
abbrev pub whole : List ℕ → List ℕ
whole octets = take (length_field octets) octets

-- no attribute begins these octets: there is no length, or one below 2, or one that runs past the end
abbrev pub IsBroken : List ℕ → Type 0
IsBroken [] = ⊥
IsBroken (code ∷ []) = Unit {0}
IsBroken (code ∷ size ∷ xs) = (size < 2) ⊎ (length xs + 2 < size)

-- whole attributes stand up to the place, and none begins there
pub record BreaksAt (octets : List ℕ) (place : ℕ) : Type 0 where
  pub before : List AttributeParts
  pub rest : List ℕ
  pub text : drop 20 octets ≡ attributes_text before ++ rest
  pub place_is : place ≡ 20 + length (attributes_text before)
  pub broken : IsBroken rest

-- ---- reading

abbrev pub put_first : AttributeParts → Result (List AttributeParts) PacketFault → Result (List AttributeParts) PacketFault
put_first a (Ok list) = Ok (a ∷ list)
put_first a (Err fault) = Err fault

-- The attributes in the octets after the first `skip`, which still belong to an attribute before; `place` is
-- where the octets begin. A fault names the place of the first attribute that isn't whole.
unfoldable pub read_attributes : List ℕ → ℕ → ℕ → Result (List AttributeParts) PacketFault
read_attributes [] skip place = Ok []
read_attributes (x ∷ xs) (suc skip) place = read_attributes xs skip (place + 1)
read_attributes (code ∷ []) zero place = Err (BadAttribute place)
read_attributes (code ∷ size ∷ xs) zero place =
    if nat_lt size 2 || nat_lt (length xs + 2) size then Err (BadAttribute place)
    else put_first (record { code = code; value = take (size - 2) xs }) (read_attributes (size ∷ xs) (size - 1) (place + 1))

abbrev pub parts : List ℕ → List AttributeParts → PacketParts
parts octets list = record {
  code = slice_index octets 0;
  id = slice_index octets 1;
  authenticator = octets_at octets 4 16;
  attributes = list;
}

abbrev pub with_header : List ℕ → Result (List AttributeParts) PacketFault → Result PacketParts PacketFault
with_header octets (Ok list) = Ok (parts octets list)
with_header octets (Err fault) = Err fault

-- The packet at the front of a datagram, or its fault: fewer octets than a header or than Length, a Length out
-- of 20 to 4096, or an attribute that isn't whole.
unfoldable pub read_packet : List ℕ → Result PacketParts PacketFault
read_packet octets =
    if nat_lt (length octets) 20 then Err Short
    else if nat_lt (length_field octets) 20 || nat_lt 4096 (length_field octets) then Err BadLength
    else if nat_lt (length octets) (length_field octets) then Err Short
    else with_header (whole octets) (read_attributes (drop 20 (whole octets)) 0 20)

-- the attributes in these octets, which are whole
abbrev pub attributes_in : List ℕ → List AttributeParts
attributes_in octets = result_unwrap_or (read_attributes octets 0 20) []

-- the packet that these octets are
abbrev pub packet_in : List ℕ → PacketParts
packet_in octets = parts octets (attributes_in (drop 20 octets))
