-- Attributes that are pushed one after the other.
use Rattle.std.proofs.Common.{◌≡◌, ℕ, ◌+◌, ◌≤◌, Bool, true, false, ◌&&◌, ◌||◌, List, [], ◌∷◌, ◌++◌, length, take, set, length-set, Result, Ok, Err, is_ok, IsErr, OnOk, refl, sym, ap, ◌∙◌, append_assoc, arith}
use Rattle.std.specs.Prelude.{nat_le, not}
use Rattle.std.proofs.lemmas.List.{length-append, append-nil}
use Rattle.std.proofs.lemmas.Bool.{leb-true, leb-false, le-leb, lt-leb}
use Rattle.std.proofs.lemmas.Grind.{flat_map-append}
use Rattle.std.proofs.lemmas.Slice.{take-put_mid}
use borrow.Rule.Slice.PartMut.{put_mid}
use Rattle.wire_core.specs.Numbers.{u32}
use Rattle.diameter_avp.specs.Avps.{AvpParts}
use Rattle.radius_packet.specs.Packet.{AttributeParts, attribute_text, attributes_text}
use Rattle.radius_packet.specs.Seals.{ReplyParts, reply_length, has_room}
use Rattle.radius_packet.specs.declared.answering.Full.{Full}
use Rattle.tunnel_map.specs.Groups.{with_attributes}
use Rattle.translation.specs.Replies.{vendor_value}
use Rattle.translation.specs.Pushing.{Pushes, fits}

-- ---- how many octets

length-attributes : (first second : List AttributeParts) → length (attributes_text (first ++ second)) ≡ length (attributes_text first) + length (attributes_text second)
length-attributes first second =
    ap length (flat_map-append attribute_text first second) ∙ length-append (attributes_text first) (attributes_text second)

length-with : (r : ReplyParts) (attributes : List AttributeParts) → reply_length (with_attributes r attributes) ≡ reply_length r + length (attributes_text attributes)
length-with r attributes = omega (arith, length-attributes r.attributes attributes)

pub length-one : (a : AttributeParts) → length (attributes_text (a ∷ [])) ≡ 2 + length a.value
length-one a = omega (arith, length-append a.value [])

-- ---- nothing

with-none : (r : ReplyParts) → r ≡ with_attributes r []
with-none r = ap (λ (list : List AttributeParts). let x : ReplyParts = record r { attributes = list } in x) (sym (append-nil r.attributes))

fits-none : (r : ReplyParts) → reply_length r ≤ 4096 → fits r [] ≡ true
fits-none r short = le-leb _ _ (omega arith)

-- nothing is pushed, and nothing is at fault or something is
pub pushes_none : (r : ReplyParts) (good : Bool) → reply_length r ≤ 4096 → Pushes r r good good []
pushes_none r true short = record { succeeds = sym (fits-none r short); pushed = λ e. with-none r }
pushes_none r false short = record { succeeds = refl; pushed = λ e. absurd cc }

pub pushes_nothing : (old new : ReplyParts) (ok good : Bool) → new ≡ old → ok ≡ good → reply_length old ≤ 4096 → Pushes old new ok good []
pushes_nothing old new ok good e f short = rw (e, f) (pushes_none old good short)

-- nothing is pushed, since something is at fault
pub pushes_refused : (old new : ReplyParts) (attributes : List AttributeParts) → Pushes old new false false attributes
pushes_refused old new attributes = record { succeeds = refl; pushed = λ e. absurd cc }

-- ---- one after the other

pub pushes_short : (old new : ReplyParts) (good : Bool) (attributes : List AttributeParts) → Pushes old new true good attributes → reply_length new ≤ 4096
pushes_short old new true attributes p =
    omega (arith, leb-true _ _ (sym p.succeeds), ap reply_length (p.pushed refl), length-with old attributes)
pushes_short old new false attributes p = absurd (let e = p.succeeds in cc)

with-both : (r : ReplyParts) (first second : List AttributeParts) → with_attributes (with_attributes r first) second ≡ with_attributes r (first ++ second)
with-both r first second = ap (λ (list : List AttributeParts). let x : ReplyParts = record r { attributes = list } in x) (append_assoc r.attributes first second)

fits-both : (r : ReplyParts) (first second : List AttributeParts) → fits (with_attributes r first) second ≡ fits r (first ++ second)
fits-both r first second =
    let same : reply_length (with_attributes r first) + length (attributes_text second) ≡ reply_length r + length (attributes_text (first ++ second)) =
    omega (arith, length-with r first, length-attributes first second) in
    ap (λ (n : ℕ). nat_le n 4096) same

fits-longer : (r : ReplyParts) (first second : List AttributeParts) → fits r first ≡ false → fits r (first ++ second) ≡ false
fits-longer r first second e = lt-leb _ _ (omega (arith, leb-false _ _ e, length-attributes first second))

pub pushes_then : (old mid new : ReplyParts) (ok good further : Bool) (first second : List AttributeParts) → Pushes old mid true good first → Pushes mid new ok further second → Pushes old new ok (good && further) (first ++ second)
pushes_then old mid new ok true further first second p q =
    let was = p.pushed refl in
    record {
      succeeds = q.succeeds ∙ ap (λ (b : Bool). further && b) (ap (λ (r : ReplyParts). fits r second) was ∙ fits-both old first second);
      pushed = λ e. q.pushed e ∙ ap (λ (r : ReplyParts). with_attributes r second) was ∙ with-both old first second;
    }
pushes_then old mid new ok false further first second p q = absurd (let e = p.succeeds in cc)

both-false : (b : Bool) → (b && false) ≡ false
both-false true = refl
both-false false = refl

pub pushes_stop : (old new : ReplyParts) (good further : Bool) (first second : List AttributeParts) → Pushes old new false good first → Pushes old new false (good && further) (first ++ second)
pushes_stop old new true further first second p =
    record { succeeds = sym (ap (λ (b : Bool). further && b) (fits-longer old first second (sym p.succeeds)) ∙ both-false further); pushed = λ e. absurd cc }
pushes_stop old new false further first second p = record { succeeds = refl; pushed = λ e. absurd cc }

-- an error is no success
pub err_false : {T E : Type 0} (result : Result T E) → IsErr result → is_ok result ≡ false
err_false (Ok x) err = absurd cc
err_false (Err e) err = refl

-- ---- what Reply does

pub pushes_one : (old new : ReplyParts) (result : Result (Unit {0}) Full) (a : AttributeParts) → length a.value ≤ 253 → is_ok result ≡ has_room old a.value → OnOk result (new ≡ with_attributes old (a ∷ [])) → Pushes old new (is_ok result) true (a ∷ [])
pushes_one old new (Ok u) a short room pushed =
    let fit : nat_le (length a.value) 253 ≡ true = le-leb _ _ short in
    let all : reply_length old + 2 + length a.value ≡ reply_length old + length (attributes_text (a ∷ [])) = omega (arith, length-one a) in
    record { succeeds = rw (fit, all) at room; pushed = λ e. pushed }
pushes_one old new (Err full) a short room pushed =
    let fit : nat_le (length a.value) 253 ≡ true = le-leb _ _ short in
    let all : reply_length old + 2 + length a.value ≡ reply_length old + length (attributes_text (a ∷ [])) = omega (arith, length-one a) in
    record { succeeds = rw (fit, all) at room; pushed = λ e. absurd cc }

-- ---- from a beginning to an end

-- what was pushed so far, and then the rest, is all; and nothing so far is at fault
pub record Leads (old mid : ReplyParts) (good left : Bool) (attributes rest : List AttributeParts) : Type 0 where
  pub list : with_attributes mid rest ≡ with_attributes old attributes
  pub same : left ≡ good
  pub short : reply_length mid ≤ 4096

same_fits : (old mid : ReplyParts) (attributes rest : List AttributeParts) → with_attributes mid rest ≡ with_attributes old attributes → fits mid rest ≡ fits old attributes
same_fits old mid attributes rest e =
    let same : reply_length mid + length (attributes_text rest) ≡ reply_length old + length (attributes_text attributes) =
    omega (arith, ap reply_length e, length-with mid rest, length-with old attributes) in
    ap (λ (n : ℕ). nat_le n 4096) same

pub leads_begin : (r : ReplyParts) (good : Bool) (attributes : List AttributeParts) → reply_length r ≤ 4096 → Leads r r good good attributes attributes
leads_begin r good attributes short = record { list = refl; same = refl; short = short }

pub leads_end : (old mid : ReplyParts) (good : Bool) (attributes : List AttributeParts) → Leads old mid good true attributes [] → Pushes old mid true good attributes
leads_end old mid good attributes l =
    record {
      succeeds = sym (ap (λ (b : Bool). b && fits old attributes) (sym l.same) ∙ sym (same_fits old mid attributes [] l.list) ∙ fits-none mid l.short);
      pushed = λ e. with-none mid ∙ l.list;
    }

pub leads_step : (old mid new : ReplyParts) (good own left : Bool) (attributes first rest : List AttributeParts) → Leads old mid good (own && left) attributes (first ++ rest) → Pushes mid new true own first → Leads old new good left attributes rest
leads_step old mid new good true left attributes first rest l p =
    record {
      list = ap (λ (r : ReplyParts). with_attributes r rest) (p.pushed refl) ∙ with-both mid first rest ∙ l.list;
      same = l.same;
      short = pushes_short mid new true first p;
    }
leads_step old mid new good false left attributes first rest l p = absurd (let e = p.succeeds in cc)

pub leads_stop : (old mid new other : ReplyParts) (good own left : Bool) (attributes first rest : List AttributeParts) → Leads old mid good (own && left) attributes (first ++ rest) → Pushes mid new false own first → Pushes old other false good attributes
leads_stop old mid new other good own left attributes first rest l p =
    let stopped = pushes_stop mid new own left first rest p in
    record {
      succeeds = stopped.succeeds ∙ ap (λ (b : Bool). (own && left) && b) (same_fits old mid attributes (first ++ rest) l.list) ∙ ap (λ (b : Bool). b && fits old attributes) l.same;
      pushed = λ e. absurd cc;
    }

-- ---- tests

-- what must be right splits into what must be right of one AVP and of the rest
pub strict_split : (strict m f rest : Bool) → not (strict && ((m && f) || rest)) ≡ (not ((strict && m) && f) && not (strict && rest))
strict_split false m f rest = refl
strict_split true false f rest = refl
strict_split true true false rest = refl
strict_split true true true rest = refl

pub plain_split : (must timeout value group : Bool) → true ≡ not (must && timeout) → not (must && (timeout || value || group)) ≡ (not (must && value) && not (must && group))
plain_split false timeout value group e = refl
plain_split true true value group e = absurd cc
plain_split true false true group e = refl
plain_split true false false group e = refl

pub strict_none : (strict : Bool) → not (strict && false) ≡ true
strict_none true = refl
strict_none false = refl

-- ---- a Vendor-Specific attribute

-- what was written at the front of a longer list
pub vendor_written : (vendor k n : ℕ) (a : AvpParts) (put more copied : List ℕ) → put ≡ u32 vendor ++ 0 ∷ 0 ∷ more → copied ≡ a.body → n ≡ 6 + length a.body → take n (put_mid 6 k (set (set put 4 a.code) 5 (length a.body + 2)) copied) ≡ vendor_value vendor a
unfolding u32
vendor_written vendor k n a put more copied p c e =
    take-put_mid 6 k (set (set put 4 a.code) 5 (length a.body + 2)) copied n (omega (arith, ap length c)) (omega (arith, length-set {A = ℕ}, ap length p))
    ∙ rw (p, c) refl

pub and_thrice : (b : Bool) → b ≡ (b && true && true && true)
and_thrice true = refl
and_thrice false = refl
