-- How long the AVPs are that attributes give.
use Rattle.std.proofs.Common.{◌≡◌, ℕ, zero, suc, ◌+◌, ◌-◌, ◌*◌, ◌≤◌, ◌<◌, Bool, true, false, cond, eqb, not, ◌&&◌, inl, inr, List, [], ◌∷◌, ◌++◌, length, set, take, Option, Some, None, Result, Ok, Err, refl, ap, ◌∙◌, arith, get_or-set_same, get_or-set_other}
use Rattle.std.specs.Prelude.{map, filter, drop, nat_le, nat_lt}
use Rattle.std.specs.List.{cons_option, list_all}
use Rattle.std.proofs.lemmas.Bool.{cases_Bool, and_parts, leb-true}
use Rattle.std.proofs.lemmas.Bool.Decides.{eqb_tells}
use Rattle.std.proofs.lemmas.List.{length-append, length-drop, length-take}
use Rattle.wire_core.specs.Numbers.{number, octets_at}
use Rattle.radius_packet.specs.Packet.{AttributeParts, attribute_text, attributes_text}
use Rattle.diameter_avp.specs.Avps.{AvpParts, avp_text, avps_text}
use Rattle.diameter_avp.proofs.CallerLemmas.{avps_text-append, length-avp_text, length-avps_text}
use Rattle.diameter_message.specs.PlainAvps.{plain_avp}
use Rattle.tunnel_map.specs.Tagged.{TaggedParts, reading, tagged_in}
use Rattle.tunnel_map.specs.Groups.{member, has_tag, members, group}
use Rattle.attribute_table.specs.declared.row.Row.{Row}
use Rattle.attribute_table.specs.Rows.{row_of}
use Rattle.attribute_table.specs.Images.{forward_image}
use Rattle.attribute_table.specs.Vendors.{VendorPart, are_parts, parts_behind, vendor_parts}
use Rattle.attribute_table.specs.declared.image.RowFault.{RowFault}
use Rattle.attribute_table.proofs.Table.{images_keep_length}
use Rattle.translation.specs.declared.direction.Direction.{Direction}
use Rattle.translation.specs.declared.seen.Seen.{Seen}
use Rattle.translation.specs.Direction.{goes}
use Rattle.translation.specs.Images.{vendor_avp, vendor_avps, image_avps, row_avps, carrier_code, carries_session}
use Rattle.translation.specs.Passing.{pieces_after, has_seen, carrier_after, group_after, tunnel_or_row_after, common_after, tags_with, noted, nothing}
use Rattle.translation.proofs.TagLemmas.{tags-size, reading-tag, member-length}

abbrev pub size : List AvpParts → ℕ
size avps = length (avps_text avps)

pub size-cons : (a : AvpParts) (avps : List AvpParts) → size (a ∷ avps) ≡ length (avp_text a) + size avps
unfolding avps_text
size-cons a avps = length-append (avp_text a) (avps_text avps)

pub size-append : (first second : List AvpParts) → size (first ++ second) ≡ size first + size second
size-append first second = ap length (avps_text-append first second) ∙ length-append (avps_text first) (avps_text second)

pub size-nil : size [] ≡ 0
unfolding avps_text
size-nil = refl

-- a header of eight octets, and up to three of padding
pub size-plain : (code : ℕ) (body : List ℕ) → size (plain_avp code body ∷ []) ≤ length body + 11
size-plain code body = omega (arith, size-cons (plain_avp code body) [], size-nil, length-avp_text (plain_avp code body))

-- ---- a pass

-- What a pass owes for AVPs that stand at a first place, and what each attribute pays for itself: so many octets for each
-- of its own. Some fact is kept of what was seen.
pub record Pays {S : Type 0} (piece : S → AttributeParts → List AvpParts) (noted : S → AttributeParts → S) (fits : AttributeParts → Bool) (Keeps : S → Type 0) (owed : S → ℕ) (most : ℕ) : Type 0 where
  pub keeps : (seen : S) (a : AttributeParts) → Keeps seen → Keeps (noted seen a)
  pub pays : (seen : S) (a : AttributeParts) → Keeps seen → fits a ≡ true → size (piece seen a) + owed (noted seen a) ≤ owed seen + most * length (attribute_text a)

pub pieces-size : {S : Type 0} (piece : S → AttributeParts → List AvpParts) (noted : S → AttributeParts → S) (fits : AttributeParts → Bool) (Keeps : S → Type 0) (owed : S → ℕ) (most : ℕ)
    → Pays piece noted fits Keeps owed most
    → (seen : S) (rest : List AttributeParts) → Keeps seen → list_all fits rest ≡ true
    → size (pieces_after piece noted seen rest) ≤ owed seen + most * length (attributes_text rest)
pieces-size piece noted fits Keeps owed most pass seen [] kept all = omega (arith, size-nil)
pieces-size piece noted fits Keeps owed most pass seen (a ∷ rest) kept all =
    let each = and_parts (fits a) (list_all fits rest) all in
    omega (
      arith,
      size-append (piece seen a) (pieces_after piece noted (noted seen a) rest),
      pass.pays seen a kept each.0,
      pieces-size piece noted fits Keeps owed most pass (noted seen a) rest (pass.keeps seen a kept) each.1,
      ap (λ n. most * n) (length-append (attribute_text a) (attributes_text rest)),
    )

-- ---- rows and carriers

image-size : (row : Row) (r : Result (List ℕ) RowFault) (value : List ℕ) → forward_image row value ≡ r → size (image_avps row r) ≤ length value + 11
image-size row (Ok octets) value e = omega (arith, size-plain row.avp octets, images_keep_length row value octets e)
image-size row (Err fault) value e = omega (arith, size-nil)

row-size : (direction : Direction) (r : Option Row) (value : List ℕ) → size (row_avps direction r value) ≤ length value + 11
row-size direction None value = omega (arith, size-nil)
row-size direction (Some row) value =
    elim (cases_Bool (goes direction row)) [
      | inl there ↦ rw there (image-size row (forward_image row value) value refl)
      | inr not ↦ rw not (omega (arith, size-nil))
    ]

carrier-size : (before carries : Bool) (a : AttributeParts) → size (carrier_after before carries a) ≤ length a.value + 11
carrier-size before false a = size-plain a.code a.value
carrier-size true true a = size-plain a.code a.value
carrier-size false true a = omega (arith, size-nil)

-- ---- vendors

vendor-size : (part : VendorPart) → length (avp_text (vendor_avp part)) ≤ 15 + length part.body
vendor-size part = omega (arith, length-avp_text (vendor_avp part))

parts-size : (vendor n : ℕ) (octets : List ℕ) → size (map vendor_avp (parts_behind vendor n octets)) + 8 * (length octets - (length octets - n)) ≤ 8 * length octets
unfolding parts_behind
parts-size vendor n [] = omega (arith, size-nil)
parts-size vendor (suc n) (x ∷ octets) = omega (arith, parts-size vendor n octets)
parts-size vendor zero (code ∷ []) = omega (arith, size-nil)
parts-size vendor zero (code ∷ octet ∷ octets) =
    elim (cases_Bool (nat_le 2 octet && nat_le (octet - 2) (length octets))) [
      | inl whole ↦ (let both = and_parts (nat_le 2 octet) (nat_le (octet - 2) (length octets)) whole in
          let part : VendorPart = record { vendor = vendor; code = code; body = take (octet - 2) octets } in
          rw whole (omega (arith, leb-true _ _ both.0, leb-true _ _ both.1, size-cons (vendor_avp part) (map vendor_avp (parts_behind vendor (octet - 2) octets)), vendor-size part, length-take (octet - 2) octets, parts-size vendor (octet - 2) octets)))
      | inr broken ↦ rw broken (omega (arith, size-nil))
    ]

vendors-size : (value : List ℕ) → size (vendor_avps (vendor_parts value)) ≤ 8 * length value
unfolding vendor_parts
vendors-size value =
    elim (cases_Bool (nat_lt 4 (length value) && are_parts 0 (drop 4 value))) [
      | inl whole ↦ rw whole (omega (arith, parts-size (number (octets_at value 0 4)) 0 (drop 4 value), length-drop 4 value))
      | inr broken ↦ rw broken (omega (arith, size-nil))
    ]

-- ---- tunnels

-- how long the member of an attribute is in the group of a tag
abbrev member_in : ℕ → Option TaggedParts → ℕ
member_in tag None = 0
member_in tag (Some t) = cond (eqb t.tag tag) (length (avp_text (member t))) 0

-- and while its tag isn't seen, as it is owed
abbrev owed_by : List Bool → Option TaggedParts → ℕ
owed_by tags None = 0
owed_by tags (Some t) = cond (has_seen tags t.tag) 0 (length (avp_text (member t)))

abbrev members_in : ℕ → List AttributeParts → ℕ
members_in tag [] = 0
members_in tag (a ∷ rest) = member_in tag (reading a.code a.value) + members_in tag rest

-- what is owed for tunnels: the members of the groups of the tags that weren't seen
abbrev pub owed : List AttributeParts → List Bool → ℕ
owed [] tags = 0
owed (a ∷ rest) tags = owed_by tags (reading a.code a.value) + owed rest tags

members-cons : (tag : ℕ) (r : Option TaggedParts) (rest : List TaggedParts) → size (map member (filter (has_tag tag) (cons_option r rest))) ≡ member_in tag r + size (map member (filter (has_tag tag) rest))
members-cons tag None rest = omega arith
members-cons tag (Some t) rest =
    elim (cases_Bool (eqb t.tag tag)) [
      | inl same ↦ rw same (size-cons (member t) (map member (filter (has_tag tag) rest)))
      | inr other ↦ rw other (omega arith)
    ]

members-size : (tag : ℕ) (all : List AttributeParts) → size (members tag all) ≡ members_in tag all
members-size tag [] = size-nil
members-size tag (a ∷ rest) =
    members-cons tag (reading a.code a.value) (tagged_in rest) ∙ ap (λ n. member_in tag (reading a.code a.value) + n) (members-size tag rest)

-- members fill words of four octets
group-size : (tag : ℕ) (all : List AttributeParts) → size (group tag all ∷ []) ≡ 8 + members_in tag all
group-size tag all =
    omega (arith, size-cons (group tag all) [], size-nil, length-avp_text (group tag all), length-avps_text (members tag all), members-size tag all)

-- a tag that is seen
paid_by : (tags : List Bool) (tag : ℕ) (r : Option TaggedParts) → tag < length tags → has_seen tags tag ≡ false → member_in tag r + owed_by (set tags tag true) r ≤ owed_by tags r
paid_by tags tag None inside unseen = omega arith
paid_by tags tag (Some t) inside unseen =
    elim (eqb_tells t.tag tag) [
      | inl same ↦ (let here : has_seen tags t.tag ≡ false = ap (has_seen tags) same.1 ∙ unseen in
          let now : has_seen (set tags tag true) t.tag ≡ true = ap (has_seen (set tags tag true)) same.1 ∙ get_or-set_same tags tag true false inside in
          rw (same.0, here, now) (omega arith))
      | inr differs ↦ (let now : has_seen (set tags tag true) t.tag ≡ has_seen tags t.tag = get_or-set_other tags tag t.tag true false differs.1 in
          rw (differs.0, now) (omega arith))
    ]

kept_by : (tags : List Bool) (tag : ℕ) (r : Option TaggedParts) → tag < length tags → owed_by (set tags tag true) r ≤ owed_by tags r
kept_by tags tag None inside = omega arith
kept_by tags tag (Some t) inside =
    elim (eqb_tells t.tag tag) [
      | inl same ↦ (let now : has_seen (set tags tag true) t.tag ≡ true = ap (has_seen (set tags tag true)) same.1 ∙ get_or-set_same tags tag true false inside in
          rw now (omega arith))
      | inr differs ↦ (let now : has_seen (set tags tag true) t.tag ≡ has_seen tags t.tag = get_or-set_other tags tag t.tag true false differs.1 in
          rw now (omega arith))
    ]

paid : (all : List AttributeParts) (tags : List Bool) (tag : ℕ) → tag < length tags → has_seen tags tag ≡ false → members_in tag all + owed all (set tags tag true) ≤ owed all tags
paid [] tags tag inside unseen = omega arith
paid (a ∷ all) tags tag inside unseen = omega (arith, paid_by tags tag (reading a.code a.value) inside unseen, paid all tags tag inside unseen)

kept : (all : List AttributeParts) (tags : List Bool) (tag : ℕ) → tag < length tags → owed all (set tags tag true) ≤ owed all tags
kept [] tags tag inside = omega arith
kept (a ∷ all) tags tag inside = omega (arith, kept_by tags tag (reading a.code a.value) inside, kept all tags tag inside)

group-pays : (all : List AttributeParts) (tags : List Bool) (tag : ℕ) → tag < length tags → size (group_after all tags tag) + owed all (set tags tag true) ≤ owed all tags + 8
group-pays all tags tag inside =
    elim (cases_Bool (has_seen tags tag)) [
      | inl seen ↦ rw seen (omega (arith, size-nil, kept all tags tag inside))
      | inr unseen ↦ rw unseen (omega (arith, group-size tag all, paid all tags tag inside unseen))
    ]

owed_by-least : (tags : List Bool) (code : ℕ) (value : List ℕ) (r : Option TaggedParts) → reading code value ≡ r → owed_by tags r ≤ 6 * (2 + length value)
owed_by-least tags code value None e = omega arith
owed_by-least tags code value (Some t) e =
    elim (cases_Bool (has_seen tags t.tag)) [
      | inl seen ↦ rw seen (omega arith)
      | inr unseen ↦ rw unseen (omega (arith, length-avp_text (member t), member-length code value t e))
    ]

pub owed-most : (all : List AttributeParts) (tags : List Bool) → owed all tags ≤ 6 * length (attributes_text all)
owed-most [] tags = omega arith
owed-most (a ∷ all) tags =
    omega (arith, owed_by-least tags a.code a.value (reading a.code a.value) refl, owed-most all tags, length-append (attribute_text a) (attributes_text all))

-- ---- together

tags-pay : (direction : Direction) (all : List AttributeParts) (tags : List Bool) (a : AttributeParts) (r : Option TaggedParts) → reading a.code a.value ≡ r → length tags ≡ 32
    → size (tunnel_or_row_after direction all tags a r) + owed all (tags_with tags r) ≤ owed all tags + (length a.value + 11)
tags-pay direction all tags a None e size = omega (arith, row-size direction (row_of a.code) a.value)
tags-pay direction all tags a (Some t) e size =
    let inside : t.tag < length tags = omega (arith, reading-tag a.code a.value t e) in
    omega (arith, group-pays all tags t.tag inside)

-- there is a place for each tag
abbrev pub HasTags : Seen → Type 0
HasTags seen = length seen.tags ≡ 32

-- what is owed after this
abbrev pub owed_after : List AttributeParts → Seen → ℕ
owed_after all seen = owed all seen.tags

-- what an attribute gives, and what is owed then
pub common-pays : (direction : Direction) (all : List AttributeParts) (seen : Seen) (a : AttributeParts) → HasTags seen
    → size (common_after direction all seen a) + owed_after all (noted direction seen a) ≤ owed_after all seen + 8 * length (attribute_text a)
unfolding common_after noted
common-pays direction all seen a size =
    elim (cases_Bool (eqb a.code (carrier_code direction))) [
      | inl carrier ↦ rw carrier (omega (arith, carrier-size seen.carrier (carries_session direction a.value) a))
      | inr plain ↦
          elim (cases_Bool (eqb a.code 26)) [
            | inl vendor ↦ rw (plain, vendor) (omega (arith, vendors-size a.value))
            | inr other ↦ rw (plain, other) (omega (arith, tags-pay direction all seen.tags a (reading a.code a.value) refl size))
          ]
    ]

pub common-keeps : (direction : Direction) (seen : Seen) (a : AttributeParts) → HasTags seen → HasTags (noted direction seen a)
unfolding noted
common-keeps direction seen a size =
    elim (cases_Bool (eqb a.code (carrier_code direction))) [
      | inl carrier ↦ rw carrier size
      | inr plain ↦
          elim (cases_Bool (eqb a.code 26)) [
            | inl vendor ↦ rw (plain, vendor) size
            | inr other ↦ rw (plain, other) (tags-size seen.tags (reading a.code a.value) ∙ size)
          ]
    ]

pub nothing-keeps : HasTags nothing
nothing-keeps = refl

-- before the first attribute no more is owed than this
pub owed_after-most : (all : List AttributeParts) (seen : Seen) → owed_after all seen ≤ 6 * length (attributes_text all)
owed_after-most all seen = owed-most all seen.tags
