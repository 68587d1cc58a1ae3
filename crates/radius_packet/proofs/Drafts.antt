-- A reply that is being made: its octets, and what they hold.
use Rattle.std.proofs.Common.{◌≡◌, ℕ, ◌+◌, ◌≤◌, Bool, true, false, cond, List, [], ◌∷◌, ◌++◌, length, drop, replicate, refl, sym, ap, subst, ◌∙◌, append_assoc, arith}
use Rattle.std.specs.List.{AllByRecursion}
use Rattle.std.proofs.lemmas.List.{take_at, drop_at, drop-drop, append-nil, length-append, flat_map_more}
use Rattle.std.proofs.lemmas.Grind.{flat_map-append}
use Rattle.radius_packet.specs.Packet.{AttributeParts, attribute_text, attributes_text}
use Rattle.radius_packet.specs.Seals.{ReplyParts, roomy_attributes, draft_text, draft_in, reply_length, IsDraft}
use Rattle.radius_packet.proofs.Reading.{attributes_in-text}

pub drop_past : (p q : List ℕ) (n m : ℕ) → length p ≡ n → drop (n + m) (p ++ q) ≡ drop m q
drop_past p q n m e = sym (drop-drop m n (p ++ q)) ∙ ap (λ (xs : List ℕ). drop m xs) (drop_at p q n e)

-- what the octets of a draft hold is the draft
holds : (code id : ℕ) (request : List ℕ) (sealed : Bool) (list : List AttributeParts) → length request ≡ 16
    → draft_in sealed (draft_text (record { code = code; id = id; request = request; sealed = sealed; attributes = list })) ≡ record { code = code; id = id; request = request; sealed = sealed; attributes = list }
holds code id request true list e =
    rw (take_at request (attributes_text (roomy_attributes true list)) 16 e, drop_past request (attributes_text (roomy_attributes true list)) 16 18 e, attributes_in-text list) refl
holds code id request false list e =
    rw (take_at request (attributes_text list) 16 e, drop_at request (attributes_text list) 16 e, attributes_in-text list) refl

pub draft_in-text : (r : ReplyParts) → length r.request ≡ 16 → draft_in r.sealed (draft_text r) ≡ r
draft_in-text r e = holds r.code r.id r.request r.sealed r.attributes e

long : (sealed : Bool) (list : List AttributeParts) → length (attributes_text (roomy_attributes sealed list)) ≡ cond sealed 18 0 + length (attributes_text list)
long true list = omega arith
long false list = omega arith

pub length-draft_text : (r : ReplyParts) → length r.request ≡ 16 → length (draft_text r) ≡ reply_length r
length-draft_text r e = omega (arith, length-append r.request (attributes_text (roomy_attributes r.sealed r.attributes)), long r.sealed r.attributes)

-- octets of this text are a draft
pub record Drafts (r : ReplyParts) (octets : List ℕ) : Type 0 where
  pub draft : IsDraft r.sealed octets
  pub held : draft_in r.sealed octets ≡ r

pub drafts : (r : ReplyParts) (octets : List ℕ) → octets ≡ draft_text r → length r.request ≡ 16 → AllByRecursion (λ a. length a.value ≤ 253) r.attributes → length octets ≤ 4096 → Drafts r octets
drafts r octets text e values most =
    let held : draft_in r.sealed octets ≡ r = ap (draft_in r.sealed) text ∙ draft_in-text r e in
    record {
      draft = record {
        text = text ∙ ap draft_text (sym held);
        request = ap (λ (q : ReplyParts). length q.request) held ∙ e;
        values = subst (λ (q : ReplyParts). AllByRecursion (λ a. length a.value ≤ 253) q.attributes) (sym held) values;
        most = most;
      };
      held = held;
    }

-- ---- one more attribute

values_push : (list : List AttributeParts) (a : AttributeParts) → AllByRecursion (λ x. length x.value ≤ 253) list → length a.value ≤ 253 → AllByRecursion (λ x. length x.value ≤ 253) (list ++ a ∷ [])
values_push [] a values h = (h, tt)
values_push (x ∷ list) a values h = (values.0, values_push list a values.1 h)

roomy_push : (sealed : Bool) (list : List AttributeParts) (a : AttributeParts) → roomy_attributes sealed list ++ a ∷ [] ≡ roomy_attributes sealed (list ++ a ∷ [])
roomy_push true list a = refl
roomy_push false list a = refl

abbrev pub with_more : ReplyParts → AttributeParts → ReplyParts
with_more r a = record r { attributes = r.attributes ++ a ∷ [] }

text_push : (r : ReplyParts) (a : AttributeParts) → draft_text r ++ attribute_text a ≡ draft_text (with_more r a)
text_push r a =
    flat_map_more attribute_text (r.code ∷ r.id ∷ 0 ∷ 0 ∷ r.request) (roomy_attributes r.sealed r.attributes) a
    ∙ ap (λ (list : List AttributeParts). r.code ∷ r.id ∷ 0 ∷ 0 ∷ r.request ++ attributes_text list) (roomy_push r.sealed r.attributes a)

pub drafts_push : (sealed : Bool) (octets next value : List ℕ) (code size : ℕ) → IsDraft sealed octets → next ≡ octets ++ (code ∷ size ∷ []) ++ value → size ≡ length value + 2 → length value ≤ 253
    → length octets + 2 + length value ≤ 4096 → Drafts (with_more (draft_in sealed octets) (record { code = code; value = value })) next
drafts_push sealed octets next value code size draft e es short fits =
    let a : AttributeParts = record { code = code; value = value } in
    let r : ReplyParts = draft_in sealed octets in
    let joined : next ≡ octets ++ attribute_text a = e ∙ append_assoc octets (code ∷ size ∷ []) value ∙ ap (λ (n : ℕ). octets ++ code ∷ n ∷ value) es in
    drafts (with_more r a) next (joined ∙ ap (λ (xs : List ℕ). xs ++ attribute_text a) draft.text ∙ text_push r a) draft.request
    (values_push r.attributes a draft.values short) (omega (arith, ap length joined, length-append octets (attribute_text a)))

-- ---- further attributes

values_joined : (list more : List AttributeParts) → AllByRecursion (λ x. length x.value ≤ 253) list → AllByRecursion (λ x. length x.value ≤ 253) more → AllByRecursion (λ x. length x.value ≤ 253) (list ++ more)
values_joined [] more values others = others
values_joined (x ∷ list) more values others = (values.0, values_joined list more values.1 others)

roomy_joined : (sealed : Bool) (list more : List AttributeParts) → roomy_attributes sealed list ++ more ≡ roomy_attributes sealed (list ++ more)
roomy_joined true list more = refl
roomy_joined false list more = refl

abbrev pub with_joined : ReplyParts → List AttributeParts → ReplyParts
with_joined r more = record r { attributes = r.attributes ++ more }

text_joined : (r : ReplyParts) (more : List AttributeParts) → draft_text r ++ attributes_text more ≡ draft_text (with_joined r more)
text_joined r more =
    let front : List ℕ = r.code ∷ r.id ∷ 0 ∷ 0 ∷ r.request in
    append_assoc front (attributes_text (roomy_attributes r.sealed r.attributes)) (attributes_text more)
    ∙ ap (λ (xs : List ℕ). front ++ xs) (sym (flat_map-append attribute_text (roomy_attributes r.sealed r.attributes) more))
    ∙ ap (λ (list : List AttributeParts). front ++ attributes_text list) (roomy_joined r.sealed r.attributes more)

pub drafts_joined : (sealed : Bool) (octets next : List ℕ) (more : List AttributeParts) → IsDraft sealed octets → next ≡ octets ++ attributes_text more → AllByRecursion (λ x. length x.value ≤ 253) more
    → length octets + length (attributes_text more) ≤ 4096 → Drafts (with_joined (draft_in sealed octets) more) next
drafts_joined sealed octets next more draft e values fits =
    let r : ReplyParts = draft_in sealed octets in
    drafts (with_joined r more) next (e ∙ ap (λ (xs : List ℕ). xs ++ attributes_text more) draft.text ∙ text_joined r more) draft.request
    (values_joined r.attributes more draft.values values) (omega (arith, ap length e, length-append octets (attributes_text more)))

-- ---- the beginning

pub begun : (code id : ℕ) (request octets : List ℕ) → length request ≡ 16 → octets ≡ (code ∷ id ∷ 0 ∷ 0 ∷ []) ++ request
    → Drafts (record { code = code; id = id; request = request; sealed = false; attributes = [] }) octets
begun code id request octets e text =
    drafts (record { code = code; id = id; request = request; sealed = false; attributes = [] }) octets (text ∙ sym (append-nil _)) e tt
    (omega (arith, ap length text))

pub begun_sealed : (code id : ℕ) (request octets : List ℕ) → length request ≡ 16 → octets ≡ (((code ∷ id ∷ 0 ∷ 0 ∷ []) ++ request) ++ 80 ∷ 18 ∷ []) ++ replicate 16 0
    → Drafts (record { code = code; id = id; request = request; sealed = true; attributes = [] }) octets
begun_sealed code id request octets e text =
    let joined : octets ≡ ((code ∷ id ∷ 0 ∷ 0 ∷ []) ++ request) ++ (80 ∷ 18 ∷ replicate 16 0) = text ∙ append_assoc ((code ∷ id ∷ 0 ∷ 0 ∷ []) ++ request) (80 ∷ 18 ∷ []) (replicate 16 0) in
    drafts (record { code = code; id = id; request = request; sealed = true; attributes = [] }) octets joined e tt
    (omega (arith, ap length joined, length-append request (80 ∷ 18 ∷ replicate 16 0)))
