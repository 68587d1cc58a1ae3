-- Groups that are written are read back.
use Rattle.std.proofs.Common.{◌≡◌, ℕ, ◌+◌, ◌<◌, ◌≤◌, ◌^◌, Bool, true, false, cond, ◌&&◌, List, [], ◌∷◌, ◌++◌, length, map, filter, Option, Some, None, refl, ap, ap₂, ◌∙◌, arith}
use Rattle.std.specs.Prelude.{nat_le, nat_lt, find, IfSome}
use Rattle.std.specs.List.{AllByRecursion, cons_option, flat_map, enumerate_from}
use Rattle.std.proofs.lemmas.List.{length-append}
use Rattle.std.proofs.lemmas.Bool.{le-leb, lt-leb, eq-eqb, eqb-true}
use Rattle.std.proofs.lemmas.Bool.Decides.{nat_tests}
use Rattle.radius_packet.specs.Packet.{AttributeParts}
use Rattle.diameter_avp.specs.Avps.{AvpParts, avp_length, avp_text, avps_text, is_mandatory, IsAvp, IsAvps}
use Rattle.diameter_avp.proofs.TextLemmas.{read_avps-IsAvps, readable_avps-IsAvps}
use Rattle.diameter_avp.proofs.CallerLemmas.{length-avp_text}
use Rattle.diameter_avp.proofs.WriterLemmas.{IsAvp-made, IsAvps-append, IsAvps-one}
use Rattle.tunnel_map.specs.declared.kind.Kind.{Kind}
use Rattle.tunnel_map.specs.declared.kind.Kind.TheVariants.{Number, Text}
use Rattle.tunnel_map.specs.Tagged.{TaggedParts, kind_of, reading_as, reading, tagged_in}
use Rattle.tunnel_map.specs.Groups.{member, has_tag, group, attribute_body, body_in, is_unknown, has_bad_size, group_fault, attribute_of, attributes_of, group_attributes}
use Rattle.tunnel_map.specs.RoundTrip.{tags_of, groups, is_group, retagged, AreShort, GroupsAreReadBack, WrittenGroupsAreAccepted}

-- ---- what is tagged

-- a tagged attribute is a number of three octets, or a text
pub data Is (t : TaggedParts) : Type 0 where
  IsNumber : kind_of t.code ≡ Some Number → t.number ≡ true → length t.body ≡ 3 → Is t
  IsText : kind_of t.code ≡ Some Text → t.number ≡ false → Is t

number_by : (code tag : ℕ) (body : List ℕ) (b : Bool) → kind_of code ≡ Some Number → (b ≡ true → length body ≡ 3) → (let t : TaggedParts = record { code = code; tag = tag; number = true; body = body } in IfSome (cond b (Some t) None) Is)
number_by code tag body true kind three = IsNumber kind refl (three refl)
number_by code tag body false kind three = tt

text_by : (code tag : ℕ) (body : List ℕ) (b : Bool) → kind_of code ≡ Some Text → Is (cond b (record { code = code; tag = tag; number = false; body = body }) (record { code = code; tag = 0; number = false; body = tag ∷ body }))
text_by code tag body true kind = IsText kind refl
text_by code tag body false kind = IsText kind refl

and-second : (a b : Bool) → (a && b) ≡ true → b ≡ true
and-second true b e = e
and-second false b e = absurd cc

reading-by : (kind : Option Kind) (code : ℕ) (value : List ℕ) → kind_of code ≡ kind → IfSome (reading_as kind code value) Is
reading-by None code value e = tt
reading-by (Some Number) code [] e = tt
reading-by (Some Number) code (tag ∷ body) e = number_by code tag body _ e (λ both. eqb-true _ _ (and-second (nat_le tag 31) _ both))
reading-by (Some Text) code [] e = IsText e refl
reading-by (Some Text) code (tag ∷ body) e = text_by code tag body (nat_le tag 31) e

cons-all : (t : Option TaggedParts) (rest : List TaggedParts) → IfSome t Is → AllByRecursion Is rest → AllByRecursion Is (cons_option t rest)
cons-all None rest is are = are
cons-all (Some t) rest is are = (is, are)

tagged_in-all : (attributes : List AttributeParts) → AllByRecursion Is (tagged_in attributes)
tagged_in-all [] = tt
tagged_in-all (a ∷ attributes) = cons-all (reading a.code a.value) (tagged_in attributes) (reading-by (kind_of a.code) a.code a.value refl) (tagged_in-all attributes)

-- ---- one member

-- a tagged attribute whose text is short, as a member
record Goes (t : TaggedParts) : Type 0 where
  pub avp : IsAvp (member t)
  pub known : is_unknown (member t) ≡ false
  pub sized : has_bad_size (member t) ≡ false
  pub back : (tag : ℕ) → attribute_of tag (member t) ≡ Some (retagged tag t)

kind_of-small : (code : ℕ) (kind : Kind) → kind_of code ≡ Some kind → code < 256
kind_of-small code kind e = grind (arith, nat_tests)

-- what is known of a member whose body has a value
goes-by : (t : TaggedParts) (kind : Kind) → kind_of t.code ≡ Some kind → length (member t).body ≤ 253 → body_in kind (member t).body ≡ Some t.body → Goes t
goes-by t kind e short value =
    let body : attribute_body (member t) ≡ Some t.body = rw e value in
    record {
      avp = IsAvp-made t.code None true (member t).body (omega (arith, kind_of-small t.code kind e)) tt (omega arith);
      known = rw e refl;
      sized = rw (body, e) refl;
      back = λ tag. rw body refl;
    }

goes : (t : TaggedParts) → Is t → length t.body ≤ 252 → Goes t
goes t (IsNumber kind number three) short =
    let three-true = eq-eqb (length t.body) 3 three in
    goes-by t Number kind (rw number (omega arith)) (rw (number, three-true) refl)
goes t (IsText kind number) short =
    let short-true = le-leb (length t.body) 252 short in
    goes-by t Text kind (rw number (omega arith)) (rw (number, short-true) refl)

-- ---- the members of a group

all-go : (tagged : List TaggedParts) → AllByRecursion Is tagged → AreShort tagged → AllByRecursion Goes tagged
all-go [] is short = tt
all-go (t ∷ tagged) is short = (goes t is.0 short.0, all-go tagged is.1 short.1)

all-kept : (P : TaggedParts → Type 0) (b : Bool) (t : TaggedParts) (rest : List TaggedParts) → P t → AllByRecursion P rest → AllByRecursion P (cond b (t ∷ rest) rest)
all-kept P true t rest is are = (is, are)
all-kept P false t rest is are = are

all-filter : (P : TaggedParts → Type 0) (p : TaggedParts → Bool) (tagged : List TaggedParts) → AllByRecursion P tagged → AllByRecursion P (filter p tagged)
all-filter P p [] are = tt
all-filter P p (t ∷ tagged) are = all-kept P (p t) t (filter p tagged) are.0 (all-filter P p tagged are.1)

-- AVPs are read from their text
IsAvps-text : (avps : List AvpParts) → AllByRecursion IsAvp avps → IsAvps (avps_text avps) avps
unfolding IsAvps avps_text
IsAvps-text [] are = refl
IsAvps-text (a ∷ avps) are = IsAvps-append (avp_text a) (avps_text avps) (a ∷ []) avps (IsAvps-one a are.0) (IsAvps-text avps are.1)

all-avps : (tagged : List TaggedParts) → AllByRecursion Goes tagged → AllByRecursion IsAvp (map member tagged)
all-avps [] go = tt
all-avps (t ∷ tagged) go = (go.0.avp, all-avps tagged go.1)

none-unknown : (tagged : List TaggedParts) → AllByRecursion Goes tagged → find (λ a. is_mandatory a && is_unknown a) (map member tagged) ≡ None
none-unknown [] go = refl
none-unknown (t ∷ tagged) go = rw go.0.known (none-unknown tagged go.1)

none-oversized : (tagged : List TaggedParts) → AllByRecursion Goes tagged → find (λ a. is_mandatory a && has_bad_size a) (map member tagged) ≡ None
none-oversized [] go = refl
none-oversized (t ∷ tagged) go = rw go.0.sized (none-oversized tagged go.1)

attributes_of-members : (tag : ℕ) (tagged : List TaggedParts) → AllByRecursion Goes tagged → attributes_of tag (map member tagged) ≡ map (retagged tag) tagged
attributes_of-members tag [] go = refl
attributes_of-members tag (t ∷ tagged) go = rw (go.0.back tag) (ap (λ (rest : List AttributeParts). retagged tag t ∷ rest) (attributes_of-members tag tagged go.1))

members-accepted : (tag : ℕ) (tagged : List TaggedParts) → tag ≤ 31 → AllByRecursion Goes tagged → group_fault tag (avps_text (map member tagged)) ≡ None
members-accepted tag tagged low go =
    let read = read_avps-IsAvps _ _ (IsAvps-text (map member tagged) (all-avps tagged go)) in
    let fits : nat_lt 31 tag ≡ false = lt-leb _ _ (omega arith) in
    let u = none-unknown tagged go in
    let s = none-oversized tagged go in
    rw (fits, read, u, s) refl

members-back : (tag : ℕ) (tagged : List TaggedParts) → AllByRecursion Goes tagged → group_attributes tag (avps_text (map member tagged)) ≡ map (retagged tag) tagged
members-back tag tagged go =
    ap (attributes_of tag) (readable_avps-IsAvps _ _ (IsAvps-text (map member tagged) (all-avps tagged go))) ∙ attributes_of-members tag tagged go

pub written_groups_are_accepted : WrittenGroupsAreAccepted
written_groups_are_accepted tag new attributes low short =
    let tagged = filter (has_tag tag) (tagged_in attributes) in
    let go = all-go tagged (all-filter Is (has_tag tag) (tagged_in attributes) (tagged_in-all attributes)) short in
    (members-accepted new tagged low go, members-back new tagged go)

-- ---- the groups of all tags

module _ (attributes : List AttributeParts) where
  abbrev one : ℕ → AvpParts
  one tag = group tag attributes

  abbrev tagged : ℕ → List TaggedParts
  tagged tag = filter (has_tag tag) (tagged_in attributes)

  groups-avps : (tags : List ℕ) → length (avps_text (map one tags)) ≤ 65516 → AllByRecursion IsAvp (map one tags)
  unfolding avps_text
  groups-avps [] fits = tt
  groups-avps (tag ∷ tags) fits =
      let long = length-append (avp_text (one tag)) (avps_text (map one tags)) in
      let counted : avp_length (one tag) < 2 ^ 24 = omega (arith, long, length-avp_text (one tag)) in
      (IsAvp-made 401 None true (one tag).body (omega arith) tt counted, groups-avps tags (omega (arith, long)))

  all-groups : (tags : List ℕ) → filter is_group (map one tags) ≡ map one tags
  all-groups [] = refl
  all-groups (tag ∷ tags) = ap (λ (rest : List AvpParts). one tag ∷ rest) (all-groups tags)

  module _ (short : AreShort (tagged_in attributes)) where
    go : (tag : ℕ) → AllByRecursion Goes (tagged tag)
    go tag =
        all-go (tagged tag)
        (all-filter Is (has_tag tag) (tagged_in attributes) (tagged_in-all attributes))
        (all-filter (λ t. length t.body ≤ 252) (has_tag tag) (tagged_in attributes) short)

    accepted-from : (new : ℕ) (tags : List ℕ) → new + length tags ≤ 32 → AllByRecursion (λ p. group_fault p.0 p.1.body ≡ None) (enumerate_from new (map one tags))
    accepted-from new [] few = tt
    accepted-from new (tag ∷ tags) few =
        (members-accepted new (tagged tag) (omega arith) (go tag), accepted-from (new + 1) tags (omega arith))

    back-from : (new : ℕ) (tags : List ℕ) → flat_map (λ p. group_attributes p.0 p.1.body) (enumerate_from new (map one tags)) ≡ flat_map (λ p. map (retagged p.0) (tagged p.1)) (enumerate_from new tags)
    back-from new [] = refl
    back-from new (tag ∷ tags) = ap₂ (λ (first rest : List AttributeParts). first ++ rest) (members-back new (tagged tag) (go tag)) (back-from (new + 1) tags)

pub groups_are_read_back : GroupsAreReadBack
groups_are_read_back attributes few short fits =
    let tags = tags_of (tagged_in attributes) in
    let all = all-groups attributes tags in
    record {
      read = read_avps-IsAvps _ _ (IsAvps-text (groups attributes) (groups-avps attributes tags fits));
      accepted = rw all (accepted-from attributes short 1 tags (omega arith));
      attributes_back = rw all (back-from attributes short 1 tags);
    }
