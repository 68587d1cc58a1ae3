-- The same in one pass over the attributes, which keeps what it saw.
use Rattle.std.specs.Prelude.{ℕ, Bool, false, true, ◌==◌, not, ◌&&◌, ◌||◌, List, [], ◌∷◌, ◌++◌, Option, Some, None, replicate, slice_index_or, slice_set, if◌then◌else◌}
use Rattle.radius_packet.specs.Packet.{AttributeParts}
use Rattle.diameter_avp.specs.Avps.{AvpParts}
use Rattle.diameter_message.specs.PlainAvps.{plain_avp}
use Rattle.tunnel_map.specs.Tagged.{TaggedParts, reading}
use Rattle.tunnel_map.specs.Groups.{group}
use Rattle.attribute_table.specs.Rows.{row_of}
use Rattle.attribute_table.specs.Vendors.{vendor_parts}
use Rattle.translation.specs.declared.direction.Direction.{Direction}
use Rattle.translation.specs.declared.seen.Seen.{Seen}
use Rattle.translation.specs.Images.{carrier_code, carries_session, vendor_avps, row_avps}

-- what all attributes give, by what was seen before each of them
abbrev pub pieces_after : {S A : Type 0} → (S → A → List AvpParts) → (S → A → S) → S → List A → List AvpParts
pieces_after piece noted seen [] = []
pieces_after piece noted seen (a ∷ rest) = piece seen a ++ pieces_after piece noted (noted seen a) rest

-- ---- carriers

abbrev pub carrier_after : Bool → Bool → AttributeParts → List AvpParts
carrier_after before carries a = if carries && not before then [] else plain_avp a.code a.value ∷ []

-- ---- tunnels

abbrev pub has_seen : List Bool → ℕ → Bool
has_seen tags tag = slice_index_or tags tag false

abbrev pub group_after : List AttributeParts → List Bool → ℕ → List AvpParts
group_after all tags tag = if has_seen tags tag then [] else group tag all ∷ []

-- ---- together

abbrev pub tunnel_or_row_after : Direction → List AttributeParts → List Bool → AttributeParts → Option TaggedParts → List AvpParts
tunnel_or_row_after direction all tags a (Some t) = group_after all tags t.tag
tunnel_or_row_after direction all tags a None = row_avps direction (row_of a.code) a.value

unfoldable pub common_after : Direction → List AttributeParts → Seen → AttributeParts → List AvpParts
common_after direction all seen a =
    if a.code == carrier_code direction then carrier_after seen.carrier (carries_session direction a.value) a
    else if a.code == 26 then vendor_avps (vendor_parts a.value)
    else tunnel_or_row_after direction all seen.tags a (reading a.code a.value)

-- ---- what is seen: before the first attribute, and with one more

abbrev pub nothing : Seen
nothing = record { carrier = false; tags = replicate 32 false }

abbrev pub tags_with : List Bool → Option TaggedParts → List Bool
tags_with tags None = tags
tags_with tags (Some t) = slice_set tags t.tag true

unfoldable pub noted : Direction → Seen → AttributeParts → Seen
noted direction seen a =
    if a.code == carrier_code direction then record seen { carrier = seen.carrier || carries_session direction a.value }
    else if a.code == 26 then seen
    else record seen { tags = tags_with seen.tags (reading a.code a.value) }
