-- Attributes that are pushed one after the other.
use Rattle.std.proofs.Common.{◌≡◌, ℕ, ◌+◌, ◌<◌, ◌≤◌, Bool, true, false, cond, ◌&&◌, ◌⊎◌, inl, inr, List, [], ◌∷◌, ◌++◌, length, take, Option, Some, None, Result, Ok, Err, is_ok, IsErr, OnOk, OnErr, IfSome, refl, sym, ap, ◌∙◌, append_assoc, add-one, arith}
use Rattle.std.specs.Prelude.{nat_le, nat_eq}
use Rattle.std.specs.List.{cons_option}
use Rattle.std.proofs.lemmas.List.{length-append, append-nil, take_at}
use Rattle.std.proofs.lemmas.Bool.{leb-true, leb-false, le-leb, lt-leb, eqb-true}
use Rattle.std.proofs.lemmas.Grind.{flat_map-append}
use Rattle.radius_packet.specs.Packet.{AttributeParts, attribute_text, attributes_text}
use Rattle.radius_packet.specs.Seals.{ReplyParts, reply_length, has_room}
use Rattle.radius_packet.specs.declared.answering.Full.{Full}
use Rattle.diameter_avp.specs.Avps.{AvpParts}
use Rattle.tunnel_map.specs.declared.kind.Kind.{Kind}
use Rattle.tunnel_map.specs.declared.kind.Kind.TheVariants.{Number, Text}
use Rattle.tunnel_map.specs.Groups.{body_in, body_as, member_kind, attribute_body, attribute_of, attributes_of, with_attributes, has_room_for, PushedInPart}
use Rattle.tunnel_map.specs.Pushing.{has_room_for_own, with_own}

-- of these attributes some were pushed, and the rest are left
pub record Pushed (old new : ReplyParts) (attributes rest : List AttributeParts) : Type 0 where
  pub first : List AttributeParts
  pub split : attributes ≡ first ++ rest
  pub pushed : new ≡ with_attributes old first
  pub room : (first ≡ []) ⊎ (reply_length new ≤ 4096)

-- ---- the attribute of one member

abbrev attribute : ℕ → List ℕ → AttributeParts
attribute code value = record { code = code; value = value }

pub own_pushed : (r new : ReplyParts) (a : AvpParts) (tag : ℕ) (body value : List ℕ) (result : Result (Unit {0}) Full) → Some body ≡ attribute_body a → value ≡ tag ∷ body → OnOk result (new ≡ with_attributes r (attribute a.code value ∷ [])) → OnOk result (new ≡ with_own r (attribute_of tag a))
own_pushed r new a tag body value (Ok u) found e pushed = rw (← found, ← e) pushed
own_pushed r new a tag body value (Err full) found e pushed = tt

-- the octets that were written at the front of a longer list
pub front_taken : (tag : ℕ) (body new more : List ℕ) → new ≡ body → take (length body + 1) (tag ∷ new ++ more) ≡ tag ∷ body
front_taken tag body new more e =
    rw (e, add-one) (ap (λ (t : List ℕ). tag ∷ t) (take_at body more (length body) refl))

-- ---- a body fits behind a tag

if_some : (b : Bool) (x value : List ℕ) → cond b (Some x) None ≡ Some value → (b ≡ true) × (x ≡ value)
if_some true x value e = (refl, cc)
if_some false x value e = absurd cc

both : (a b : Bool) → (a && b) ≡ true → (a ≡ true) × (b ≡ true)
both true true e = (refl, refl)
both true false e = absurd cc
both false b e = absurd cc

length-body_in : (kind : Kind) (body value : List ℕ) → body_in kind body ≡ Some value → length value ≤ 252
length-body_in Number [] value e = absurd cc
length-body_in Number (first ∷ body) value e =
    let r = if_some _ body value e in
    let b = both (nat_eq first 0) (nat_eq (length body) 3) r.0 in
    omega (arith, ap length r.1, eqb-true _ _ b.1)
length-body_in Text body value e =
    let r = if_some _ body value e in
    omega (arith, ap length r.1, leb-true _ _ r.0)

length-body_as : (kind : Option Kind) (body value : List ℕ) → body_as kind body ≡ Some value → length value ≤ 252
length-body_as None body value e = absurd cc
length-body_as (Some kind) body value e = length-body_in kind body value e

short-by : (tag : ℕ) (a : AvpParts) (body : Option (List ℕ)) → body ≡ attribute_body a → IfSome (attribute_of tag a) (λ x. length x.value ≤ 253)
short-by tag a None e = rw (← e) tt
short-by tag a (Some value) e =
    let short = length-body_as (member_kind a) a.body value (sym e) in
    rw (← e) (omega arith)

-- ---- how many octets

length-with_attributes : (r : ReplyParts) (attributes : List AttributeParts) → reply_length (with_attributes r attributes) ≡ reply_length r + length (attributes_text attributes)
length-with_attributes r attributes =
    omega (arith, ap length (flat_map-append attribute_text r.attributes attributes), length-append (attributes_text r.attributes) (attributes_text attributes))

length-first : (a : AttributeParts) (rest : List AttributeParts) → length (attributes_text (a ∷ rest)) ≡ 2 + length a.value + length (attributes_text rest)
length-first a rest = omega (arith, length-append a.value (attributes_text rest))

room-true : (r : ReplyParts) (a : AttributeParts) → has_room r a.value ≡ true → reply_length r + 2 + length a.value ≤ 4096
room-true r a e = leb-true _ _ (both _ _ e).1

room-false : (r : ReplyParts) (a : AttributeParts) → length a.value ≤ 253 → has_room r a.value ≡ false → 4096 < reply_length r + 2 + length a.value
room-false r a short e =
    let fits : nat_le (length a.value) 253 ≡ true = le-leb _ _ short in
    leb-false _ _ (rw fits at e)

-- ---- one after the other

pub none_pushed : (r : ReplyParts) (attributes : List AttributeParts) → Pushed r r attributes attributes
none_pushed r attributes =
    record { first = []; split = refl; pushed = ap (λ (list : List AttributeParts). let x : ReplyParts = record r { attributes = list } in x) (sym (append-nil r.attributes)); room = inl refl }

one_pushed : (old mid new : ReplyParts) (attributes : List AttributeParts) (own : Option AttributeParts) (rest : List AttributeParts) → Pushed old mid attributes (cons_option own rest) → new ≡ with_own mid own → has_room_for_own mid own ≡ true → Pushed old new attributes rest
one_pushed old mid new attributes None rest p e room = rw e p
one_pushed old mid new attributes (Some a) rest p e room =
    let fits = room-true mid a room in
    record {
      first = p.first ++ a ∷ [];
      split = p.split ∙ sym (append_assoc p.first (a ∷ []) rest);
      pushed =
          e
          ∙ ap (λ (r : ReplyParts). with_attributes r (a ∷ [])) p.pushed
          ∙ ap (λ (list : List AttributeParts). let x : ReplyParts = record old { attributes = list } in x) (append_assoc old.attributes p.first (a ∷ []));
      room = inr (rw e (omega (arith, length-with_attributes mid (a ∷ []), length-first a [])));
    }

pub member_pushed : (old mid new : ReplyParts) (attributes : List AttributeParts) (tag : ℕ) (a : AvpParts) (before after : List AvpParts) → Pushed old mid attributes (attributes_of tag before) → before ≡ a ∷ after → new ≡ with_own mid (attribute_of tag a) → has_room_for_own mid (attribute_of tag a) ≡ true → Pushed old new attributes (attributes_of tag after)
member_pushed old mid new attributes tag a before after p split e room =
    one_pushed old mid new attributes (attribute_of tag a) (attributes_of tag after) (rw split at p) e room

-- ---- the end

-- whether there is room, for more than no attribute
room_for : (r : ReplyParts) (attributes first rest : List AttributeParts) (a : AttributeParts) → attributes ≡ first ++ a ∷ rest → has_room_for r attributes ≡ nat_le (reply_length r + length (attributes_text attributes)) 4096
room_for r attributes [] rest a e = rw e refl
room_for r attributes (x ∷ first) rest a e = rw e refl

room-all : (r : ReplyParts) (attributes : List AttributeParts) → (attributes ≡ []) ⊎ (reply_length r + length (attributes_text attributes) ≤ 4096) → true ≡ has_room_for r attributes
room-all r [] room = refl
room-all r (a ∷ attributes) (inl e) = absurd cc
room-all r (a ∷ attributes) (inr short) = sym (le-leb _ _ short)

-- no attribute was pushed, or the packet with them is short enough
room-pushed : (old new : ReplyParts) (attributes : List AttributeParts) → new ≡ with_attributes old attributes → (attributes ≡ []) ⊎ (reply_length new ≤ 4096) → (attributes ≡ []) ⊎ (reply_length old + length (attributes_text attributes) ≤ 4096)
room-pushed old new attributes e (inl none) = inl none
room-pushed old new attributes e (inr short) = inr (omega (arith, ap reply_length e, length-with_attributes old attributes))

pub all_pushed : (old new : ReplyParts) (attributes : List AttributeParts) → Pushed old new attributes [] → (new ≡ with_attributes old attributes) × (true ≡ has_room_for old attributes)
all_pushed old new attributes p =
    let all : p.first ≡ attributes = sym (append-nil p.first) ∙ sym p.split in
    let pushed : new ≡ with_attributes old attributes = rw all at p.pushed in
    (pushed, room-all old attributes (room-pushed old new attributes pushed (rw all at p.room)))

pub some_pushed : (old mid new : ReplyParts) (attributes : List AttributeParts) (own : Option AttributeParts) (rest : List AttributeParts) → Pushed old mid attributes (cons_option own rest) → new ≡ mid → has_room_for_own mid own ≡ false → IfSome own (λ a. length a.value ≤ 253) → PushedInPart old new attributes × (false ≡ has_room_for old attributes)
some_pushed old mid new attributes None rest p e room short = absurd cc
some_pushed old mid new attributes (Some a) rest p e room short =
    let over = room-false mid a short room in
    let long : length (attributes_text attributes) ≡ length (attributes_text p.first) + (2 + length a.value + length (attributes_text rest)) =
    omega (arith, ap (λ (list : List AttributeParts). length (attributes_text list)) p.split, ap length (flat_map-append attribute_text p.first (a ∷ rest)), length-append (attributes_text p.first) (attributes_text (a ∷ rest)), length-first a rest) in
    let past : 4096 < reply_length old + length (attributes_text attributes) =
    omega (arith, over, long, ap reply_length p.pushed, length-with_attributes old p.first) in (
      record { first = p.first; next = a; rest = rest; split = p.split; pushed = e ∙ p.pushed; full = rw e room },
      sym (room_for old attributes p.first rest a p.split ∙ lt-leb _ _ past),
    )

pub member_refused : (old mid new : ReplyParts) (attributes : List AttributeParts) (tag : ℕ) (a : AvpParts) (before after : List AvpParts) → Pushed old mid attributes (attributes_of tag before) → before ≡ a ∷ after → new ≡ mid → has_room_for_own mid (attribute_of tag a) ≡ false → PushedInPart old new attributes × (false ≡ has_room_for old attributes)
member_refused old mid new attributes tag a before after p split e room =
    some_pushed old mid new attributes (attribute_of tag a) (attributes_of tag after) (rw split at p) e room (short-by tag a (attribute_body a) refl)

-- ---- the answer

pub err_room : (result : Result (Unit {0}) Full) (room : Bool) → IsErr result → false ≡ room → is_ok result ≡ room
err_room (Ok u) room err e = absurd cc
err_room (Err full) room err e = e

pub on_err : (result : Result (Unit {0}) Full) (P : Type 0) → P → OnErr result P
on_err (Ok u) P p = tt
on_err (Err full) P p = p
