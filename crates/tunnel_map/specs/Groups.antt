-- Groups of tunnel attributes: the Tunneling AVP (RFC 4005, section 7.1), and its way back.
use Rattle.std.specs.Prelude.{◌≡◌, ℕ, ◌+◌, Bool, true, false, ◌==◌, nat_le, nat_lt, not, ◌&&◌, List, [], ◌∷◌, ◌++◌, length, map, filter, find, Option, Some, None, is_some, is_none, option_map, Result, Ok, Err, if◌then◌else◌}
use Rattle.std.specs.Option.{option_or}
use Rattle.std.specs.List.{filter_map}
use Rattle.radius_packet.specs.Packet.{AttributeParts, attributes_text}
use Rattle.radius_packet.specs.Seals.{ReplyParts, reply_length, has_room}
use Rattle.diameter_avp.specs.Avps.{AvpParts, is_mandatory, made, avps_text, read_avps, readable_avps}
use Rattle.diameter_avp.specs.declared.fault.AvpFault.{AvpFault}
use Rattle.tunnel_map.specs.Tagged.{TaggedParts, kind_of, tagged_in}
use Rattle.tunnel_map.specs.declared.kind.Kind.{Kind}
use Rattle.tunnel_map.specs.declared.kind.Kind.TheVariants.{Number, Text}
use Rattle.tunnel_map.specs.declared.fault.TunnelFault.{TunnelFault}
use Rattle.tunnel_map.specs.declared.fault.TunnelFault.TheVariants.{Rotten, Unknown, BadSize, TooMany}

-- ---- written

-- a tagged attribute as a member: its type is the code, M is set; a number has a zero octet where its tag stood
-- (RFC 4005, sections 7.2 to 7.11)
abbrev pub member : TaggedParts → AvpParts
member t = made t.code None true (if t.number then 0 ∷ t.body else t.body)

abbrev pub has_tag : ℕ → TaggedParts → Bool
has_tag tag t = t.tag == tag

-- the members of a tag's group: the tagged attributes with this tag, in order
abbrev pub members : ℕ → List AttributeParts → List AvpParts
members tag attributes = map member (filter (has_tag tag) (tagged_in attributes))

-- the group of a tag: a Tunneling AVP, M set
abbrev pub group : ℕ → List AttributeParts → AvpParts
group tag attributes = made 401 None true (avps_text (members tag attributes))

-- ---- read: what a member is

-- the kind of a member; one with a Vendor-ID is none of these
abbrev pub member_kind : AvpParts → Option Kind
member_kind a = if is_some a.vendor then None else kind_of a.code

-- a Tunnel-Password (RFC 4005, section 7.6)
abbrev pub is_password : AvpParts → Bool
is_password a = is_none a.vendor && a.code == 69

abbrev pub is_unknown : AvpParts → Bool
is_unknown a = is_none (member_kind a) && not (is_password a)

-- the three octets behind a zero
abbrev pub number_body : List ℕ → Option (List ℕ)
number_body [] = None
number_body (first ∷ body) = if first == 0 && length body == 3 then Some body else None

-- octets that fit in an attribute behind a tag
abbrev pub text_body : List ℕ → Option (List ℕ)
text_body body = if nat_le (length body) 252 then Some body else None

abbrev pub body_in : Kind → List ℕ → Option (List ℕ)
body_in Number body = number_body body
body_in Text body = text_body body

abbrev pub body_as : Option Kind → List ℕ → Option (List ℕ)
body_as None body = None
body_as (Some kind) body = body_in kind body

-- what a member's attribute has behind its tag; None where the size is bad, and where it is none of these kinds
abbrev pub attribute_body : AvpParts → Option (List ℕ)
attribute_body a = body_as (member_kind a) a.body

abbrev pub has_bad_size : AvpParts → Bool
has_bad_size a = is_some (member_kind a) && is_none (attribute_body a)

-- ---- read: what is wrong with a group (RFC 4005, section 7.1; the order is this profile's)

-- the code of the first member with M set of which this holds
abbrev pub first_code : (AvpParts → Bool) → List AvpParts → Option ℕ
first_code holds avps = option_map (λ a. a.code) (find (λ a. is_mandatory a && holds a) avps)

-- an unknown member comes before one of a bad size
abbrev pub members_fault : List AvpParts → Option TunnelFault
members_fault avps =
    option_or (option_map (λ code. Unknown code) (first_code is_unknown avps)) (option_map (λ code. BadSize code) (first_code has_bad_size avps))

abbrev pub list_fault : Result (List AvpParts) AvpFault → Option TunnelFault
list_fault (Err fault) = Some Rotten
list_fault (Ok avps) = members_fault avps

-- What is wrong with a group that is to have this tag and has this body; the group is faulty where there is something.
abbrev pub group_fault : ℕ → List ℕ → Option TunnelFault
group_fault tag body = if nat_lt 31 tag then Some TooMany else list_fault (read_avps body)

-- ---- read: the attributes of a group

abbrev pub attribute_of : ℕ → AvpParts → Option AttributeParts
attribute_of tag a = option_map (λ body. record { code = a.code; value = tag ∷ body }) (attribute_body a)

-- one for each member whose size is good, with this tag
abbrev pub attributes_of : ℕ → List AvpParts → List AttributeParts
attributes_of tag avps = filter_map (attribute_of tag) avps

-- the attributes of the group with this body
abbrev pub group_attributes : ℕ → List ℕ → List AttributeParts
group_attributes tag body = attributes_of tag (readable_avps body)

-- ---- pushed

abbrev pub with_attributes : ReplyParts → List AttributeParts → ReplyParts
with_attributes r attributes = record r { attributes = r.attributes ++ attributes }

-- whether there is nothing to push, or the packet with all of these has at most 4096 octets
abbrev pub has_room_for : ReplyParts → List AttributeParts → Bool
has_room_for r [] = true
has_room_for r (a ∷ attributes) = nat_le (reply_length r + length (attributes_text (a ∷ attributes))) 4096

-- the attributes were pushed up to the first that doesn't fit
pub record PushedInPart (old new : ReplyParts) (attributes : List AttributeParts) : Type 0 where
  pub first : List AttributeParts
  pub next : AttributeParts
  pub rest : List AttributeParts
  pub split : attributes ≡ first ++ next ∷ rest
  pub pushed : new ≡ with_attributes old first
  pub full : has_room new next.value ≡ false
