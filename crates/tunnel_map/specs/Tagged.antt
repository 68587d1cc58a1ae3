-- Tagged attributes (RFC 2868, section 3): the tag says which attributes of a packet belong to one tunnel.
use Rattle.std.specs.Prelude.{ℕ, Bool, true, false, ◌==◌, nat_le, ◌&&◌, ◌||◌, List, [], ◌∷◌, length, Option, Some, None, if◌then◌else◌}
use Rattle.std.specs.List.{filter_map}
use Rattle.radius_packet.specs.Packet.{AttributeParts}
use Rattle.tunnel_map.specs.declared.kind.Kind.{Kind}
use Rattle.tunnel_map.specs.declared.kind.Kind.TheVariants.{Number, Text}

-- Tunnel-Type, Tunnel-Medium-Type, Tunnel-Preference (sections 3.1, 3.2, 3.8)
abbrev pub is_number : ℕ → Bool
is_number code = code == 64 || code == 65 || code == 83

-- Tunnel-Client-Endpoint, Tunnel-Server-Endpoint, Tunnel-Private-Group-ID, Tunnel-Assignment-ID,
-- Tunnel-Client-Auth-ID, Tunnel-Server-Auth-ID (sections 3.3, 3.4, 3.6, 3.7, 3.9, 3.10)
abbrev pub is_text : ℕ → Bool
is_text code = code == 66 || code == 67 || code == 81 || code == 82 || code == 90 || code == 91

-- what the value of a type is; Tunnel-Password (69) is none of them (profile)
abbrev pub kind_of : ℕ → Option Kind
kind_of code = if is_number code then Some Number else if is_text code then Some Text else None

-- a tagged attribute: its type, its tag, whether it is a number, and the value behind the tag
pub record TaggedParts : Type 0 where
  pub code : ℕ
  pub tag : ℕ
  pub number : Bool
  pub body : List ℕ

-- the first octet of a value, where it is a tag
abbrev pub is_tag : ℕ → Bool
is_tag octet = nat_le octet 31

-- a tag, and three octets
abbrev pub number_in : ℕ → List ℕ → Option TaggedParts
number_in code [] = None
number_in code (tag ∷ body) =
    if is_tag tag && length body == 3 then Some (record { code = code; tag = tag; number = true; body = body }) else None

abbrev pub text : ℕ → ℕ → List ℕ → TaggedParts
text code tag body = record { code = code; tag = tag; number = false; body = body }

-- a tag and the octets behind it, or octets without a tag, which stand for tag 0
abbrev pub text_in : ℕ → List ℕ → TaggedParts
text_in code [] = text code 0 []
text_in code (first ∷ rest) = if is_tag first then text code first rest else text code 0 (first ∷ rest)

abbrev pub reading_as : Option Kind → ℕ → List ℕ → Option TaggedParts
reading_as None code value = None
reading_as (Some Number) code value = number_in code value
reading_as (Some Text) code value = Some (text_in code value)

-- what an attribute of this type and value says, where it is tagged
abbrev pub reading : ℕ → List ℕ → Option TaggedParts
reading code value = reading_as (kind_of code) code value

-- the tagged attributes among these, in order
abbrev pub tagged_in : List AttributeParts → List TaggedParts
tagged_in attributes = filter_map (λ a. reading a.code a.value) attributes
