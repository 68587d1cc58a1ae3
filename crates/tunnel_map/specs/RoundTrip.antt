-- Groups that are written and read back.
use Rattle.std.specs.Prelude.{◌≡◌, ℕ, ◌≤◌, Bool, ◌==◌, not, ◌&&◌, List, [], ◌∷◌, length, map, filter, Some, None, is_none, Ok}
use Rattle.std.specs.List.{AllByRecursion, flat_map, enumerate_from}
use Rattle.radius_packet.specs.Packet.{AttributeParts}
use Rattle.diameter_avp.specs.Avps.{AvpParts, avps_text, read_avps}
use Rattle.tunnel_map.specs.Tagged.{TaggedParts, reading, tagged_in}
use Rattle.tunnel_map.specs.Groups.{has_tag, group, group_fault, group_attributes}

-- the tags of these attributes, each once, in the order of its first place
abbrev pub tags_of : List TaggedParts → List ℕ
tags_of [] = []
tags_of (t ∷ rest) = t.tag ∷ filter (λ tag. not (tag == t.tag)) (tags_of rest)

-- one group for each tag, in that order
abbrev pub groups : List AttributeParts → List AvpParts
groups attributes = map (λ tag. group tag attributes) (tags_of (tagged_in attributes))

-- a Tunneling AVP
abbrev pub is_group : AvpParts → Bool
is_group a = is_none a.vendor && a.code == 401

-- the groups among these AVPs, each with its tag: the k-th, from 1, has tag k (profile)
abbrev pub numbered_groups : List AvpParts → List (ℕ × AvpParts)
numbered_groups avps = enumerate_from 1 (filter is_group avps)

-- a tagged attribute, with this tag in place of its own
abbrev pub retagged : ℕ → TaggedParts → AttributeParts
retagged tag t = record { code = t.code; value = tag ∷ t.body }

-- the tagged attributes by tag: those of the first tag with tag 1, those of the second with tag 2, and so on
abbrev pub by_tag : List TaggedParts → List AttributeParts
by_tag tagged = flat_map (λ p. map (retagged p.0) (filter (has_tag p.1) tagged)) (enumerate_from 1 (tags_of tagged))

-- texts of at most 252 octets, as fit behind a tag
abbrev pub AreShort : List TaggedParts → Type 0
AreShort tagged = AllByRecursion (λ t. length t.body ≤ 252) tagged

-- ---- the laws

-- The groups that are written of these attributes are read, none is faulty, and they give the tagged attributes by tag.
pub record AreReadBack (attributes : List AttributeParts) : Type 0 where
  pub read : read_avps (avps_text (groups attributes)) ≡ Ok (groups attributes)
  pub accepted : AllByRecursion (λ p. group_fault p.0 p.1.body ≡ None) (numbered_groups (groups attributes))
  pub attributes_back : flat_map (λ p. group_attributes p.0 p.1.body) (numbered_groups (groups attributes)) ≡ by_tag (tagged_in attributes)

-- This holds of every list of attributes with at most 31 tags and no long text, whose groups fit in a message.
abbrev pub GroupsAreReadBack : Type 0
GroupsAreReadBack =
    (attributes : List AttributeParts)
    → length (tags_of (tagged_in attributes)) ≤ 31 → AreShort (tagged_in attributes) → length (avps_text (groups attributes)) ≤ 65516
    → AreReadBack attributes

-- A group that is written of short texts isn't faulty, whatever tag it is to have, and gives back its attributes.
abbrev pub WrittenGroupsAreAccepted : Type 0
WrittenGroupsAreAccepted =
    (tag new : ℕ) (attributes : List AttributeParts)
    → new ≤ 31 → AreShort (filter (has_tag tag) (tagged_in attributes))
    → (group_fault new (group tag attributes).body ≡ None)
    × (group_attributes new (group tag attributes).body ≡ map (retagged new) (filter (has_tag tag) (tagged_in attributes)))

-- What a tagged attribute says is also said by the same attribute with another tag, but for the tag.
abbrev pub TagsAreReadBack : Type 0
TagsAreReadBack =
    (code tag : ℕ) (value : List ℕ) (t : TaggedParts)
    → tag ≤ 31 → reading code value ≡ Some t
    → reading (retagged tag t).code (retagged tag t).value ≡ Some (record t { tag = tag })
