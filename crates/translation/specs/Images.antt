-- What the attributes of a packet give in a request of Diameter (RFC 4005, sections 3.1, 7 and 9; RFC 2865, section 5.26).
use Rattle.std.specs.Prelude.{ℕ, Bool, false, ◌==◌, not, ◌&&◌, List, [], ◌∷◌, take, map, Option, Some, None, is_some, Result, Ok, Err, if◌then◌else◌}
use Rattle.std.specs.List.{list_any}
use Rattle.radius_packet.specs.Packet.{AttributeParts}
use Rattle.diameter_avp.specs.Avps.{AvpParts, made}
use Rattle.diameter_message.specs.PlainAvps.{plain_avp}
use Rattle.tunnel_map.specs.Tagged.{TaggedParts, reading}
use Rattle.tunnel_map.specs.Groups.{has_tag, group}
use Rattle.attribute_table.specs.declared.row.Row.{Row}
use Rattle.attribute_table.specs.Rows.{row_of}
use Rattle.attribute_table.specs.Images.{forward_image}
use Rattle.attribute_table.specs.Vendors.{VendorPart, vendor_parts}
use Rattle.attribute_table.specs.declared.image.RowFault.{RowFault}
use Rattle.session_carrier.specs.Carriers.{read_state, read_class}
use Rattle.translation.specs.declared.direction.Direction.{Direction}
use Rattle.translation.specs.declared.direction.Direction.TheVariants.{Access, Accounting}
use Rattle.translation.specs.Direction.{goes}

-- nothing before place k passes the test
abbrev pub is_first : {A : Type 0} → (A → Bool) → ℕ → List A → Bool
is_first test k all = not (list_any test (take k all))

-- ---- carriers (section 9; the forms are this profile's)

-- State carries the session of an Access-Request, and Class that of an Accounting-Request
abbrev pub carrier_code : Direction → ℕ
carrier_code Access = 24
carrier_code Accounting = 25

abbrev pub carries_session : Direction → List ℕ → Bool
carries_session Access value = is_some (read_state value)
carries_session Accounting value = is_some (read_class value)

abbrev pub is_carrier : Direction → AttributeParts → Bool
is_carrier direction a = a.code == carrier_code direction && carries_session direction a.value

-- the first that carries a session gives nothing, since the request is of that session; any other State or Class
-- is copied
abbrev pub carrier_avps : Direction → List AttributeParts → ℕ → AttributeParts → List AvpParts
carrier_avps direction all k a =
    if is_carrier direction a && is_first (is_carrier direction) k all then [] else plain_avp a.code a.value ∷ []

-- ---- vendors

-- a part with its vendor: V set, M clear
abbrev pub vendor_avp : VendorPart → AvpParts
vendor_avp part = made part.code (Some part.vendor) false part.body

abbrev pub vendor_avps : Option (List VendorPart) → List AvpParts
vendor_avps None = []
vendor_avps (Some parts) = map vendor_avp parts

-- ---- tunnels

abbrev pub is_some_tagged : ℕ → Option TaggedParts → Bool
is_some_tagged tag None = false
is_some_tagged tag (Some t) = has_tag tag t

-- an attribute that is tagged with this tag
abbrev pub is_tagged : ℕ → AttributeParts → Bool
is_tagged tag a = is_some_tagged tag (reading a.code a.value)

-- the group of a tag stands at the first attribute that is tagged with it
abbrev pub group_avps : List AttributeParts → ℕ → TaggedParts → List AvpParts
group_avps all k t = if is_first (is_tagged t.tag) k all then group t.tag all ∷ [] else []

-- ---- rows

abbrev pub image_avps : Row → Result (List ℕ) RowFault → List AvpParts
image_avps row (Ok octets) = plain_avp row.avp octets ∷ []
image_avps row (Err fault) = []

-- the image of a value whose row goes in this direction
abbrev pub row_avps : Direction → Option Row → List ℕ → List AvpParts
row_avps direction None value = []
row_avps direction (Some row) value = if goes direction row then image_avps row (forward_image row value) else []

-- ---- together

abbrev pub tunnel_or_row : Direction → List AttributeParts → ℕ → AttributeParts → Option TaggedParts → List AvpParts
tunnel_or_row direction all k a (Some t) = group_avps all k t
tunnel_or_row direction all k a None = row_avps direction (row_of a.code) a.value

-- What the attribute at place k of all gives in a request, where no map says otherwise: a carrier, the parts of a
-- Vendor-Specific attribute, a group, the image by its row, or nothing.
unfoldable pub common_piece : Direction → List AttributeParts → ℕ → AttributeParts → List AvpParts
common_piece direction all k a =
    if a.code == carrier_code direction then carrier_avps direction all k a
    else if a.code == 26 then vendor_avps (vendor_parts a.value)
    else tunnel_or_row direction all k a (reading a.code a.value)
