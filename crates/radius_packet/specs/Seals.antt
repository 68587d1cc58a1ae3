-- How a reply is signed (RFC 2865, section 3; RFC 3579, section 3.2).
use Rattle.std.specs.Prelude.{◌≡◌, ℕ, ◌+◌, ◌≤◌, nat_le, Bool, IsTrue, ◌&&◌, if◌then◌else◌, List, [], ◌∷◌, ◌++◌, length, take, drop, replicate, slice_index}
use Rattle.std.specs.List.{AllByRecursion}
use Rattle.md5.specs.Md5.{md5}
use Rattle.hmac_md5.specs.Hmac.{hmac_of}
use Rattle.wire_core.specs.Numbers.{octets_at}
use Rattle.radius_packet.specs.Packet.{AttributeParts, PacketParts, attributes_text, packet_text, IsPacket, attributes_in}

-- ---- the relation

-- the MD5 of code, identifier, Length, the request's authenticator, attributes and secret (RFC 2865)
abbrev pub response_authenticator : List ℕ → List ℕ → List ℕ → List ℕ
response_authenticator secret request octets = md5 (take 4 octets ++ request ++ drop 20 octets ++ secret)

-- The first attribute is the Message-Authenticator: the HMAC-MD5 of the packet that has the request's authenticator,
-- and sixteen zeros in place of this value (RFC 3579).
pub record IsSealed (secret request octets : List ℕ) : Type 0 where
  pub header : octets_at octets 20 2 ≡ 80 ∷ 18 ∷ []
  pub value : octets_at octets 22 16 ≡ hmac_of secret (take 4 octets ++ request ++ octets_at octets 20 2 ++ replicate 16 0 ++ drop 38 octets)

-- a packet that answers the request with this authenticator
pub record Signed (secret request : List ℕ) (sealed : Bool) (octets : List ℕ) : Type 0 where
  pub packet : (p : PacketParts) × IsPacket octets p
  pub authenticator : octets_at octets 4 16 ≡ response_authenticator secret request octets
  pub seal : IsTrue sealed → IsSealed secret request octets

-- ---- the one signed packet of these parts

abbrev pub seal : List ℕ → AttributeParts
seal value = record { code = 80; value = value }

-- the packet with the request's authenticator
abbrev pub unsigned_text : List ℕ → ℕ → ℕ → List AttributeParts → List ℕ
unsigned_text request code id attributes =
    packet_text (record { code = code; id = id; authenticator = request; attributes = attributes })

-- the attributes with the seal before them, where there is one
abbrev pub sealed_attributes : List ℕ → List ℕ → ℕ → ℕ → Bool → List AttributeParts → List AttributeParts
sealed_attributes secret request code id sealed attributes =
    if sealed then seal (hmac_of secret (unsigned_text request code id (seal (replicate 16 0) ∷ attributes))) ∷ attributes
    else attributes

abbrev pub signed_text : List ℕ → List ℕ → List ℕ → List ℕ
signed_text secret request octets = take 4 octets ++ response_authenticator secret request octets ++ drop 20 octets

unfoldable pub reply_text : List ℕ → List ℕ → ℕ → ℕ → Bool → List AttributeParts → List ℕ
reply_text secret request code id sealed attributes =
    signed_text secret request (unsigned_text request code id (sealed_attributes secret request code id sealed attributes))

-- ---- a reply that is being made

-- what it was begun with, and the attributes that were pushed, without the seal
pub record ReplyParts : Type 0 where
  pub code : ℕ
  pub id : ℕ
  pub request : List ℕ
  pub sealed : Bool
  pub attributes : List AttributeParts

-- the request of these parts, which keeps its authenticator; its Message-Authenticator, where there is one, comes first
abbrev pub request_parts : List ℕ → ReplyParts → PacketParts
request_parts secret r = record {
  code = r.code;
  id = r.id;
  authenticator = r.request;
  attributes = sealed_attributes secret r.request r.code r.id r.sealed r.attributes;
}

abbrev pub request_text : List ℕ → ReplyParts → List ℕ
request_text secret r = packet_text (request_parts secret r)

-- the octets that the packet has
abbrev pub reply_length : ReplyParts → ℕ
reply_length r = 20 + (if r.sealed then 18 else 0) + length (attributes_text r.attributes)

-- whether one more attribute with this value fits
abbrev pub has_room : ReplyParts → List ℕ → Bool
has_room r value = nat_le (length value) 253 && nat_le (reply_length r + 2 + length value) 4096

-- the attributes with room for the seal
abbrev pub roomy_attributes : Bool → List AttributeParts → List AttributeParts
roomy_attributes sealed attributes = if sealed then seal (replicate 16 0) ∷ attributes else attributes

-- the packet so far, with zeros in place of Length and of the seal
abbrev pub draft_text : ReplyParts → List ℕ
draft_text r = r.code ∷ r.id ∷ 0 ∷ 0 ∷ r.request ++ attributes_text (roomy_attributes r.sealed r.attributes)

-- what such octets hold
abbrev pub draft_in : Bool → List ℕ → ReplyParts
draft_in sealed octets = record {
  code = slice_index octets 0;
  id = slice_index octets 1;
  request = octets_at octets 4 16;
  sealed = sealed;
  attributes = attributes_in (drop (if sealed then 38 else 20) octets);
}

pub record IsDraft (sealed : Bool) (octets : List ℕ) : Type 0 where
  pub text : octets ≡ draft_text (draft_in sealed octets)
  pub request : length (draft_in sealed octets).request ≡ 16
  pub values : AllByRecursion (λ a. length a.value ≤ 253) (draft_in sealed octets).attributes
  pub most : length octets ≤ 4096
