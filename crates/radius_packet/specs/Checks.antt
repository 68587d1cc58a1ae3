-- What a receiver tests of a packet (RFC 2866, section 3; RFC 3579, section 3.2).
use Rattle.std.specs.Prelude.{◌≡◌, ℕ, ◌+◌, ◌==◌, nat_eq, Bool, true, false, ◌&&◌, if◌then◌else◌, List, [], ◌∷◌, ◌++◌, length, map, filter, replicate, Option, Some, None}
use Rattle.std.specs.Cmp.Lexicographic.{pointwise}
use Rattle.hmac_md5.specs.Hmac.{hmac_of}
use Rattle.wire_core.specs.Numbers.{octets_at}
use Rattle.radius_packet.specs.Packet.{AttributeParts, PacketParts, attributes_text, packet_text, IsPacket}
use Rattle.radius_packet.specs.Seals.{response_authenticator, seal}
use Rattle.radius_packet.specs.declared.checking.Seal.{Seal}
use Rattle.radius_packet.specs.declared.checking.Seal.TheVariants.{Absent, Right, Wrong}

-- ---- the Request Authenticator of an Accounting-Request

-- it is made as a Response Authenticator is, with sixteen zeros in place of the request's (RFC 2866)
abbrev pub IsAccountingRight : List ℕ → List ℕ → Type 0
IsAccountingRight secret octets = octets_at octets 4 16 ≡ response_authenticator secret (replicate 16 0) octets

-- the same as a test
abbrev pub is_accounting_right : List ℕ → List ℕ → Bool
is_accounting_right secret octets = pointwise nat_eq (octets_at octets 4 16) (response_authenticator secret (replicate 16 0) octets)

-- ---- the Message-Authenticator of a packet

abbrev pub is_seal : AttributeParts → Bool
is_seal a = a.code == 80

-- sixteen zeros in place of its value, where it is a Message-Authenticator
abbrev pub blanked : AttributeParts → AttributeParts
blanked a = if is_seal a then seal (replicate 16 0) else a

-- the HMAC-MD5 under the secret of the packet with these attributes in place of its own
unfoldable pub seal_value : List ℕ → PacketParts → List AttributeParts → List ℕ
seal_value secret p attributes = hmac_of secret (packet_text (record p { attributes = attributes }))

-- One attribute alone is a Message-Authenticator, of sixteen octets: the HMAC-MD5 of the packet that has zeros in
-- their place.
pub record IsSealRight (secret : List ℕ) (p : PacketParts) : Type 0 where
  pub before : List AttributeParts
  pub value : List ℕ
  pub after : List AttributeParts
  pub attributes : p.attributes ≡ before ++ seal value ∷ after
  pub alone : filter is_seal (before ++ after) ≡ []
  pub size : length value ≡ 16
  pub right : value ≡ seal_value secret p (before ++ seal (replicate 16 0) ∷ after)

-- what the Message-Authenticators of a packet say, where the one right value is this
abbrev pub seal_result : List ℕ → List AttributeParts → Seal
seal_result right [] = Absent
seal_result right (a ∷ []) = if pointwise nat_eq a.value right then Right else Wrong
seal_result right (a ∷ b ∷ others) = Wrong

-- what the seal of a packet says
abbrev pub seal_of : List ℕ → PacketParts → Seal
seal_of secret p = seal_result (seal_value secret p (map blanked p.attributes)) (filter is_seal p.attributes)

-- ---- a reply (RFC 2865, section 3; RFC 3579, section 3.2)

-- the authenticator is the Response Authenticator to a request with this one
abbrev pub is_response_right : List ℕ → List ℕ → PacketParts → Bool
is_response_right secret request p =
    pointwise nat_eq p.authenticator (response_authenticator secret request (packet_text p))

-- the Message-Authenticator of a reply is made over the packet that has the request's authenticator
abbrev pub with_authenticator : List ℕ → PacketParts → PacketParts
with_authenticator authenticator p = record p { authenticator = authenticator }

abbrev pub is_passed : Seal → Bool
is_passed Wrong = false
is_passed _ = true

-- and there is no Message-Authenticator, or one alone that is right
abbrev pub is_reply_right : List ℕ → List ℕ → PacketParts → Bool
is_reply_right secret request p =
    is_response_right secret request p && is_passed (seal_of secret (with_authenticator request p))

-- ---- finding it

-- how many octets stand before the first Message-Authenticator
abbrev pub seal_place : List AttributeParts → ℕ → Option ℕ
seal_place [] place = None
seal_place (a ∷ others) place = if is_seal a then Some place else seal_place others (place + 2 + length a.value)

-- the first Message-Authenticator of a packet begins at this place
pub record SealAt (octets : List ℕ) (p : PacketParts) (place : ℕ) : Type 0 where
  pub packet : IsPacket octets p
  pub before : List AttributeParts
  pub value : List ℕ
  pub after : List AttributeParts
  pub attributes : p.attributes ≡ before ++ seal value ∷ after
  pub first : filter is_seal before ≡ []
  pub place_is : place ≡ 20 + length (attributes_text before)
