-- A seal is found where it stands, and what is tested in place is what the definition says.
use Rattle.std.proofs.Common.{◌≡◌, ℕ, suc, ◌+◌, ◌-◌, ◌≤◌, Bool, true, false, cond, List, [], ◌∷◌, ◌++◌, length, get_or, take, drop, map, filter, replicate, Option, Some, None, refl, sym, ap, ◌∙◌, append_assoc, inl, inr, arith}
use Rattle.std.specs.Prelude.{◌⊎◌, ◌||◌, nat_eq}
use Rattle.std.specs.List.{list_any}
use Rattle.std.specs.Cmp.Lexicographic.{pointwise}
use Rattle.std.proofs.lemmas.Bool.{eqb-true}
use Rattle.std.proofs.lemmas.List.{drop_at, take_at, drop-drop, drop-take, take-take, take-append-drop, length-append, length-drop, length-take-le, get_or-drop, map-append}
use Rattle.std.proofs.lemmas.List.Concat.{flat_map-append}
use Rattle.std.proofs.lemmas.List.Elements.{filter-append}
use Rattle.std.proofs.lemmas.Slice.Eq.{bytes_eq-Decides}
use Rattle.hmac_md5.specs.Hmac.{hmac_of}
use Rattle.hmac_md5.proofs.Lengths.{length-hmac_of}
use Rattle.wire_core.specs.Numbers.{u16, octets_at}
use Rattle.wire_core.proofs.NumberLemmas.{length-u16}
use Rattle.radius_packet.specs.Packet.{AttributeParts, PacketParts, attribute_text, attributes_text, packet_text, IsPacket}
use Rattle.radius_packet.specs.Seals.{seal}
use Rattle.radius_packet.specs.Checks.{is_seal, blanked, seal_value, IsSealRight, seal_result, seal_of, seal_place, SealAt, with_authenticator}
use Rattle.radius_packet.specs.declared.checking.Seal.TheVariants.{Absent, Right, Wrong}
use Rattle.radius_packet.proofs.Packets.{drop-packet_text}
use Rattle.radius_packet.proofs.Signing.{authenticator_put, value_put}

-- ---- which attributes are seals

keeps_none : {A : Type 0} (b : Bool) (x : A) (xs : List A) → cond b (x ∷ xs) xs ≡ [] → (b ≡ false) × (xs ≡ [])
keeps_none true x xs e = absurd cc
keeps_none false x xs e = (refl, e)

is_seal_of : (a : AttributeParts) → is_seal a ≡ true → a ≡ seal a.value
is_seal_of a e = ap (λ (n : ℕ). let b : AttributeParts = record { code = n; value = a.value } in b) (eqb-true a.code 80 e)

blank_none : (list : List AttributeParts) → filter is_seal list ≡ [] → map blanked list ≡ list
blank_none [] e = refl
blank_none (a ∷ list) e =
    let k = keeps_none (is_seal a) a (filter is_seal list) e in
    rw (k.0, blank_none list k.1) refl

none_sealed : (list : List AttributeParts) → list_any is_seal list ≡ false → filter is_seal list ≡ []
none_sealed [] e = refl
none_sealed (a ∷ list) e = elim (is_seal a) as (λ b. ((b || list_any is_seal list) ≡ false) → cond b (a ∷ filter is_seal list) (filter is_seal list) ≡ []) [
  | true ↦ λ h. absurd cc
  | false ↦ λ h. none_sealed list h
] e

record More (list : List AttributeParts) : Type 0 where
  first : AttributeParts
  others : List AttributeParts
  are : filter is_seal list ≡ first ∷ others

some_first : (a : AttributeParts) (list : List AttributeParts) (b : Bool) → is_seal a ≡ b → (b || list_any is_seal list) ≡ true → (list_any is_seal list ≡ true → More list) → More (a ∷ list)
some_first a list true is e later = record { first = a; others = filter is_seal list; are = rw is refl }
some_first a list false is e later =
    let m = later e in
    record { first = m.first; others = m.others; are = rw is m.are }

some_sealed : (list : List AttributeParts) → list_any is_seal list ≡ true → More list
some_sealed [] e = absurd cc
some_sealed (a ∷ list) e = some_first a list (is_seal a) refl e (some_sealed list)

-- ---- finding the first one

pick_some : (b : Bool) (here place : ℕ) (rest : Option ℕ) → cond b (Some here) rest ≡ Some place → ((b ≡ true) × (here ≡ place)) ⊎ ((b ≡ false) × (rest ≡ Some place))
pick_some true here place rest e = inl (refl, cc)
pick_some false here place rest e = inr (refl, e)

pick_none : (b : Bool) (here : ℕ) (rest : Option ℕ) → cond b (Some here) rest ≡ None → (b ≡ false) × (rest ≡ None)
pick_none true here rest e = absurd cc
pick_none false here rest e = (refl, e)

pub unfound : (list : List AttributeParts) (from : ℕ) → seal_place list from ≡ None → filter is_seal list ≡ []
unfound [] from e = refl
unfound (a ∷ list) from e =
    let k = pick_none (is_seal a) from (seal_place list (from + 2 + length a.value)) e in
    rw k.0 (unfound list _ k.1)

record Found (list : List AttributeParts) (from place : ℕ) : Type 0 where
  before : List AttributeParts
  value : List ℕ
  after : List AttributeParts
  list_is : list ≡ before ++ seal value ∷ after
  first : filter is_seal before ≡ []
  place_is : place ≡ from + length (attributes_text before)

found_here : (a : AttributeParts) (list : List AttributeParts) (from place : ℕ) → is_seal a ≡ true → from ≡ place → Found (a ∷ list) from place
found_here a list from place is e = record {
  before = [];
  value = a.value;
  after = list;
  list_is = ap (λ (b : AttributeParts). b ∷ list) (is_seal_of a is);
  first = refl;
  place_is = omega arith;
}

found_later : (a : AttributeParts) (list : List AttributeParts) (from place : ℕ) → is_seal a ≡ false → Found list (from + 2 + length a.value) place → Found (a ∷ list) from place
found_later a list from place is f = record {
  before = a ∷ f.before;
  value = f.value;
  after = f.after;
  list_is = ap (λ (others : List AttributeParts). a ∷ others) f.list_is;
  first = rw is f.first;
  place_is = omega (arith, f.place_is, length-append a.value (attributes_text f.before));
}

found : (list : List AttributeParts) (from place : ℕ) → seal_place list from ≡ Some place → Found list from place
found [] from place e = absurd cc
found (a ∷ list) from place e =
    elim (pick_some (is_seal a) from place (seal_place list (from + 2 + length a.value)) e) [
      | inl here ↦ found_here a list from place here.0 here.1
      | inr later ↦ found_later a list from place later.0 (found list (from + 2 + length a.value) place later.1)
    ]

pub seal_at : (octets : List ℕ) (p : PacketParts) (before place : ℕ) → IsPacket octets p → seal_place p.attributes 0 ≡ Some before → place ≡ 20 + before → SealAt octets p place
seal_at octets p before place packet e at =
    let f = found p.attributes 0 before e in
    record {
      packet = packet;
      before = f.before;
      value = f.value;
      after = f.after;
      attributes = f.list_is;
      first = f.first;
      place_is = omega (arith, f.place_is);
    }

-- ---- the octets about it

tail_at : (octets : List ℕ) (p : PacketParts) (place : ℕ) (s : SealAt octets p place) → drop place octets ≡ 80 ∷ (length s.value + 2) ∷ (s.value ++ attributes_text s.after)
tail_at octets p place s =
    let whole : drop 20 octets ≡ attributes_text s.before ++ attributes_text (seal s.value ∷ s.after) =
    ap (λ xs. drop 20 xs) s.packet.text ∙ drop-packet_text p s.packet.authenticator ∙ ap attributes_text s.attributes
    ∙ flat_map-append attribute_text s.before (seal s.value ∷ s.after) in
    ap (λ (n : ℕ). drop n octets) s.place_is
    ∙ sym (drop-drop (length (attributes_text s.before)) 20 octets)
    ∙ ap (λ xs. drop (length (attributes_text s.before)) xs) whole
    ∙ drop_at (attributes_text s.before) (attributes_text (seal s.value ∷ s.after)) (length (attributes_text s.before)) refl

pub size_at : (octets : List ℕ) (p : PacketParts) (place : ℕ) (s : SealAt octets p place) → get_or octets (place + 1) 0 ≡ length s.value + 2
size_at octets p place s = sym (get_or-drop place octets 1 0) ∙ ap (λ xs. get_or xs 1 0) (tail_at octets p place s)

-- all of it lies inside
pub room_at : (octets : List ℕ) (p : PacketParts) (place : ℕ) (s : SealAt octets p place) → place + 2 + length s.value + length (attributes_text s.after) ≡ length octets
room_at octets p place s =
    omega (arith, ap length (tail_at octets p place s), length-drop place octets, length-append s.value (attributes_text s.after))

pub after_at : (octets : List ℕ) (p : PacketParts) (place end : ℕ) (s : SealAt octets p place) → end ≡ place + (length s.value + 2) → drop end octets ≡ attributes_text s.after
after_at octets p place end s e =
    let at : end ≡ place + suc (suc (length s.value)) = omega arith in
    ap (λ (n : ℕ). drop n octets) at
    ∙ sym (drop-drop (suc (suc (length s.value))) place octets)
    ∙ ap (λ xs. drop (suc (suc (length s.value))) xs) (tail_at octets p place s)
    ∙ drop_at s.value (attributes_text s.after) (length s.value) refl

pub value_at : (octets : List ℕ) (p : PacketParts) (place : ℕ) (s : SealAt octets p place) → length s.value ≡ 16 → octets_at octets (place + 2) 16 ≡ s.value
value_at octets p place s e =
    ap (λ xs. take 16 xs) (sym (drop-drop 2 place octets) ∙ ap (λ xs. drop 2 xs) (tail_at octets p place s))
    ∙ take_at s.value (attributes_text s.after) 16 e

-- ---- zeros in place of its value

-- all that stands before the attribute, where the packet has so many octets
abbrev front : PacketParts → ℕ → List AttributeParts → List ℕ
front p n before = (p.code ∷ p.id ∷ u16 n) ++ p.authenticator ++ attributes_text before

front_length : (p : PacketParts) (n : ℕ) (before : List AttributeParts) → length p.authenticator ≡ 16 → length (front p n before) ≡ 20 + length (attributes_text before)
front_length p n before e =
    omega (arith, length-append ((p.code ∷ p.id ∷ u16 n) ++ p.authenticator) (attributes_text before), length-append (p.code ∷ p.id ∷ u16 n) p.authenticator, length-u16 n)

abbrev put_at : PacketParts → List AttributeParts → List ℕ → List AttributeParts → PacketParts
put_at p before value after = record p { attributes = before ++ seal value ∷ after }

size_of : (before : List AttributeParts) (value : List ℕ) (after : List AttributeParts)
    → length (attributes_text (before ++ seal value ∷ after)) ≡ length (attributes_text before) + 2 + length value + length (attributes_text after)
size_of before value after =
    omega (arith, ap length (flat_map-append attribute_text before (seal value ∷ after)), length-append (attributes_text before) (attributes_text (seal value ∷ after)), length-append value (attributes_text after))

text_of : (p : PacketParts) (before : List AttributeParts) (value : List ℕ) (after : List AttributeParts) (n : ℕ)
    → n ≡ 20 + length (attributes_text (before ++ seal value ∷ after)) → length value ≡ 16
    → packet_text (put_at p before value after) ≡ front p n before ++ (80 ∷ 18 ∷ (value ++ attributes_text after))
unfolding packet_text
text_of p before value after n e size =
    let head : List ℕ = (p.code ∷ p.id ∷ u16 n) ++ p.authenticator in
    let same : (p.code ∷ p.id ∷ u16 (20 + length (attributes_text (before ++ seal value ∷ after)))) ++ p.authenticator ≡ head =
    ap (λ (k : ℕ). (p.code ∷ p.id ∷ u16 k) ++ p.authenticator) (sym e) in
    let two : length value + 2 ≡ 18 = omega arith in
    ap (λ (xs : List ℕ). xs ++ attributes_text (before ++ seal value ∷ after)) same
    ∙ ap (λ (xs : List ℕ). head ++ xs) (flat_map-append attribute_text before (seal value ∷ after))
    ∙ sym (append_assoc head (attributes_text before) (attributes_text (seal value ∷ after)))
    ∙ ap (λ (k : ℕ). front p n before ++ (80 ∷ k ∷ (value ++ attributes_text after))) two

pub blank_at : (octets : List ℕ) (p : PacketParts) (place : ℕ) (s : SealAt octets p place) → length s.value ≡ 16
    → take (place + 2) octets ++ replicate 16 0 ++ drop (place + 18) octets ≡ packet_text (put_at p s.before (replicate 16 0) s.after)
blank_at octets p place s size =
    let n : ℕ = 20 + length (attributes_text (s.before ++ seal s.value ∷ s.after)) in
    let same : n ≡ 20 + length (attributes_text (s.before ++ seal (replicate 16 0) ∷ s.after)) =
    omega (arith, size_of s.before s.value s.after, size_of s.before (replicate 16 0) s.after) in
    let text : octets ≡ front p n s.before ++ (80 ∷ 18 ∷ (s.value ++ attributes_text s.after)) =
    s.packet.text ∙ ap (λ (list : List AttributeParts). packet_text (record p { attributes = list })) s.attributes ∙ text_of p s.before s.value s.after n refl size in
    ap (λ (xs : List ℕ). take (place + 2) xs ++ replicate 16 0 ++ drop (place + 18) xs) text
    ∙ value_put (front p n s.before) s.value (replicate 16 0) (attributes_text s.after) place (front_length p n s.before s.packet.authenticator ∙ sym s.place_is) size
    ∙ sym (text_of p s.before (replicate 16 0) s.after n same refl)

-- ---- what the seals say

not_true : (b : Bool) → (b ≡ true → ⊥) → b ≡ false
not_true true no_way = absurd (no_way refl)
not_true false no_way = refl

length-seal_value : (secret : List ℕ) (p : PacketParts) (list : List AttributeParts) → length (seal_value secret p list) ≡ 16
unfolding seal_value
length-seal_value secret p list = length-hmac_of secret _

blanked_list : (list before : List AttributeParts) (value : List ℕ) (after : List AttributeParts) → list ≡ before ++ seal value ∷ after
    → filter is_seal before ≡ [] → filter is_seal after ≡ [] → map blanked list ≡ before ++ seal (replicate 16 0) ∷ after
blanked_list list before value after e none_before none_after =
    ap (λ xs. map blanked xs) e ∙ map-append blanked before (seal value ∷ after)
    ∙ ap (λ xs. xs ++ (seal (replicate 16 0) ∷ map blanked after)) (blank_none before none_before)
    ∙ ap (λ xs. before ++ (seal (replicate 16 0) ∷ xs)) (blank_none after none_after)

seals_list : (list before : List AttributeParts) (value : List ℕ) (after : List AttributeParts) → list ≡ before ++ seal value ∷ after
    → filter is_seal before ≡ [] → filter is_seal list ≡ seal value ∷ filter is_seal after
seals_list list before value after e none_before =
    ap (λ xs. filter is_seal xs) e ∙ filter-append is_seal before (seal value ∷ after)
    ∙ ap (λ xs. xs ++ (seal value ∷ filter is_seal after)) none_before

verdict_wrong : (right : List ℕ) (a : AttributeParts) (others : List AttributeParts) → (a.value ≡ right → ⊥) → seal_result right (a ∷ others) ≡ Wrong
verdict_wrong right a [] differs = rw (not_true (pointwise nat_eq a.value right) (λ h. differs ((bytes_eq-Decides a.value right).0 h))) refl
verdict_wrong right a (b ∷ others) differs = refl

-- a value of another size is wrong
pub wrong_size : (secret octets a : List ℕ) (p : PacketParts) (place : ℕ) (s : SealAt octets p place) → (length s.value ≡ 16 → ⊥) → Wrong ≡ seal_of secret (with_authenticator a p)
wrong_size secret octets a p place s differs =
    let q : PacketParts = with_authenticator a p in
    let right : List ℕ = seal_value secret q (map blanked p.attributes) in
    sym (ap (λ (xs : List AttributeParts). seal_result right xs) (seals_list p.attributes s.before s.value s.after s.attributes s.first)
    ∙ verdict_wrong right (seal s.value) (filter is_seal s.after) (λ h. differs (ap length h ∙ length-seal_value secret q (map blanked p.attributes))))

-- where another one follows, none is right
pub another : (secret octets a : List ℕ) (p : PacketParts) (place : ℕ) (s : SealAt octets p place) → list_any is_seal s.after ≡ true → Wrong ≡ seal_of secret (with_authenticator a p)
another secret octets a p place s e =
    let m = some_sealed s.after e in
    let right : List ℕ = seal_value secret (with_authenticator a p) (map blanked p.attributes) in
    sym (ap (λ (xs : List AttributeParts). seal_result right xs) (seals_list p.attributes s.before s.value s.after s.attributes s.first
    ∙ ap (λ (xs : List AttributeParts). seal s.value ∷ xs) m.are))

-- octets at the front of a front, and what follows it
apart : (octets rest a : List ℕ) (n : ℕ) → 20 ≤ n → n ≤ length octets
    → take 4 (take n octets ++ rest) ++ a ++ drop 20 (take n octets ++ rest) ≡ take 4 octets ++ a ++ (octets_at octets 20 (n - 20) ++ rest)
apart octets rest a n low inside =
    let f : List ℕ = take n octets in
    let len : length f ≡ n = length-take-le n octets inside in
    let split : n ≡ 20 + (n - 20) = omega arith in
    let front : take 4 (f ++ rest) ≡ take 4 octets =
    ap (λ (xs : List ℕ). take 4 (xs ++ rest)) (sym (take-append-drop 4 f)) ∙ ap (λ (xs : List ℕ). take 4 xs) (append_assoc (take 4 f) (drop 4 f) rest)
    ∙ take_at (take 4 f) (drop 4 f ++ rest) 4 (length-take-le 4 f (omega arith)) ∙ take-take 4 n octets (omega arith) in
    let back : drop 20 (f ++ rest) ≡ octets_at octets 20 (n - 20) ++ rest =
    ap (λ (xs : List ℕ). drop 20 (xs ++ rest)) (sym (take-append-drop 20 f)) ∙ ap (λ (xs : List ℕ). drop 20 xs) (append_assoc (take 20 f) (drop 20 f) rest)
    ∙ drop_at (take 20 f) (drop 20 f ++ rest) 20 (length-take-le 20 f (omega arith))
    ∙ ap (λ (xs : List ℕ). xs ++ rest) (ap (λ (k : ℕ). drop 20 (take k octets)) split ∙ drop-take 20 (n - 20) octets) in
    ap (λ (xs : List ℕ). xs ++ a ++ drop 20 (f ++ rest)) front ∙ ap (λ (xs : List ℕ). take 4 octets ++ a ++ xs) back

-- another authenticator, and zeros in place of the value
blank_with : (octets a : List ℕ) (p : PacketParts) (place : ℕ) (s : SealAt octets p place) → length s.value ≡ 16
    → take 4 octets ++ a ++ octets_at octets 20 (place + 2 - 20) ++ replicate 16 0 ++ drop (place + 2 + 16) octets
    ≡ packet_text (put_at (with_authenticator a p) s.before (replicate 16 0) s.after)
blank_with octets a p place s size =
    let q : PacketParts = put_at p s.before (replicate 16 0) s.after in
    let rest : List ℕ = drop (place + 2 + 16) octets in
    let at : place + 2 + 16 ≡ place + 18 = omega arith in
    let text : take (place + 2) octets ++ replicate 16 0 ++ rest ≡ packet_text q =
    ap (λ (n : ℕ). take (place + 2) octets ++ replicate 16 0 ++ drop n octets) at ∙ blank_at octets p place s size in
    append_assoc (take 4 octets ++ a ++ octets_at octets 20 (place + 2 - 20)) (replicate 16 0) rest
    ∙ append_assoc (take 4 octets ++ a) (octets_at octets 20 (place + 2 - 20)) (replicate 16 0 ++ rest)
    ∙ sym (apart octets (replicate 16 0 ++ rest) a (place + 2) (omega (arith, s.place_is)) (omega (arith, room_at octets p place s)))
    ∙ ap (λ (xs : List ℕ). take 4 xs ++ a ++ drop 20 xs) (sym (append_assoc (take (place + 2) octets) (replicate 16 0) rest) ∙ text)
    ∙ authenticator_put q a s.packet.authenticator

-- the one of sixteen octets is compared in place
pub alone : (secret octets a : List ℕ) (p : PacketParts) (place : ℕ) (s : SealAt octets p place) → list_any is_seal s.after ≡ false → length s.value ≡ 16
    → cond (pointwise nat_eq (octets_at octets (place + 2) 16)
    (hmac_of secret (take 4 octets ++ a ++ octets_at octets 20 (place + 2 - 20) ++ replicate 16 0 ++ drop (place + 2 + 16) octets))) Right Wrong ≡ seal_of secret (with_authenticator a p)
unfolding seal_value
alone secret octets a p place s e size =
    let none = none_sealed s.after e in
    let q : PacketParts = with_authenticator a p in
    let right : List ℕ = seal_value secret q (map blanked p.attributes) in
    let same : right ≡ hmac_of secret (take 4 octets ++ a ++ octets_at octets 20 (place + 2 - 20) ++ replicate 16 0 ++ drop (place + 2 + 16) octets) =
    ap (λ (xs : List AttributeParts). hmac_of secret (packet_text (record q { attributes = xs }))) (blanked_list p.attributes s.before s.value s.after s.attributes s.first none)
    ∙ ap (λ (xs : List ℕ). hmac_of secret xs) (sym (blank_with octets a p place s size)) in
    rw (value_at octets p place s size, ← same)
    (sym (ap (λ (xs : List AttributeParts). seal_result right xs) (seals_list p.attributes s.before s.value s.after s.attributes s.first
    ∙ ap (λ (xs : List AttributeParts). seal s.value ∷ xs) none)))

pub absent : (secret : List ℕ) (p : PacketParts) → seal_place p.attributes 0 ≡ None → Absent ≡ seal_of secret p
absent secret p e = sym (ap (λ (xs : List AttributeParts). seal_result (seal_value secret p (map blanked p.attributes)) xs) (unfound p.attributes 0 e))

-- ---- the test and the relation

keeps_one : {A : Type 0} (b : Bool) (x a : A) (xs : List A) → cond b (x ∷ xs) xs ≡ a ∷ [] → ((b ≡ true) × (x ≡ a) × (xs ≡ [])) ⊎ ((b ≡ false) × (xs ≡ a ∷ []))
keeps_one true x a xs e = inl (refl, cc, cc)
keeps_one false x a xs e = inr (refl, e)

record Lone (list : List AttributeParts) (a : AttributeParts) : Type 0 where
  before : List AttributeParts
  after : List AttributeParts
  list_is : list ≡ before ++ a ∷ after
  none_before : filter is_seal before ≡ []
  none_after : filter is_seal after ≡ []
  is : is_seal a ≡ true

lone_here : (x a : AttributeParts) (list : List AttributeParts) → is_seal x ≡ true → x ≡ a → filter is_seal list ≡ [] → Lone (x ∷ list) a
lone_here x a list is e none = record {
  before = [];
  after = list;
  list_is = ap (λ (b : AttributeParts). b ∷ list) e;
  none_before = refl;
  none_after = none;
  is = ap is_seal (sym e) ∙ is;
}

lone_later : (x a : AttributeParts) (list : List AttributeParts) → is_seal x ≡ false → Lone list a → Lone (x ∷ list) a
lone_later x a list is l = record {
  before = x ∷ l.before;
  after = l.after;
  list_is = ap (λ (others : List AttributeParts). x ∷ others) l.list_is;
  none_before = rw is l.none_before;
  none_after = l.none_after;
  is = l.is;
}

lone : (list : List AttributeParts) (a : AttributeParts) → filter is_seal list ≡ a ∷ [] → Lone list a
lone [] a e = absurd cc
lone (x ∷ list) a e =
    elim (keeps_one (is_seal x) x a (filter is_seal list) e) [
      | inl here ↦ lone_here x a list here.0 here.1 here.2
      | inr later ↦ lone_later x a list later.0 (lone list a later.1)
    ]

chosen : (b : Bool) → cond b Right Wrong ≡ Right → b ≡ true
chosen true e = refl
chosen false e = absurd cc

verdict_right : (right : List ℕ) (list : List AttributeParts) → seal_result right list ≡ Right → (a : AttributeParts) × (list ≡ a ∷ []) × (a.value ≡ right)
verdict_right right [] e = absurd cc
verdict_right right (a ∷ []) e = (a, refl, (bytes_eq-Decides a.value right).0 (chosen (pointwise nat_eq a.value right) e))
verdict_right right (a ∷ b ∷ others) e = absurd cc

pub right_is : (secret : List ℕ) (p : PacketParts) → seal_of secret p ≡ Right → IsSealRight secret p
right_is secret p e =
    let right : List ℕ = seal_value secret p (map blanked p.attributes) in
    let v = verdict_right right (filter is_seal p.attributes) e in
    let l = lone p.attributes v.0 v.1 in
    let list_is : p.attributes ≡ l.before ++ seal v.0.value ∷ l.after = l.list_is ∙ ap (λ (a : AttributeParts). l.before ++ a ∷ l.after) (is_seal_of v.0 l.is) in
    record {
      before = l.before;
      value = v.0.value;
      after = l.after;
      attributes = list_is;
      alone = filter-append is_seal l.before l.after ∙ ap (λ (xs : List AttributeParts). xs ++ filter is_seal l.after) l.none_before ∙ l.none_after;
      size = ap length v.2 ∙ length-seal_value secret p (map blanked p.attributes);
      right = v.2 ∙ ap (λ (xs : List AttributeParts). seal_value secret p xs) (blanked_list p.attributes l.before v.0.value l.after list_is l.none_before l.none_after);
    }

both_nil : {A : Type 0} (xs ys : List A) → xs ++ ys ≡ [] → (xs ≡ []) × (ys ≡ [])
both_nil [] ys e = (refl, e)
both_nil (x ∷ xs) ys e = absurd cc

pub is_right : (secret : List ℕ) (p : PacketParts) → IsSealRight secret p → seal_of secret p ≡ Right
is_right secret p r =
    let right : List ℕ = seal_value secret p (map blanked p.attributes) in
    let none = both_nil (filter is_seal r.before) (filter is_seal r.after) (sym (filter-append is_seal r.before r.after) ∙ r.alone) in
    let same : r.value ≡ right = r.right ∙ ap (λ (xs : List AttributeParts). seal_value secret p xs) (sym (blanked_list p.attributes r.before r.value r.after r.attributes none.0 none.1)) in
    let test : pointwise nat_eq r.value right ≡ true = (bytes_eq-Decides r.value right).1 same in
    ap (λ (xs : List AttributeParts). seal_result right xs) (seals_list p.attributes r.before r.value r.after r.attributes none.0
    ∙ ap (λ (xs : List AttributeParts). seal r.value ∷ xs) none.1)
    ∙ ap (λ (b : Bool). cond b Right Wrong) test
