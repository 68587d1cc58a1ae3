-- What is pushed is the packet.
use Rattle.std.proofs.Common.{◌≡◌, ℕ, ◌+◌, ◌≤◌, Bool, true, false, ◌&&◌, ◌||◌, List, [], ◌∷◌, ◌++◌, length, replicate, Some, Ok, refl, sym, ap, subst, ◌∙◌}
use Rattle.std.specs.Prelude.{nat_lt, not}
use Rattle.std.specs.List.{flat_map, list_any, AllByRecursion}
use Rattle.std.proofs.lemmas.Bool.{leb-true, le-ltb}
use Rattle.md5.proofs.StandardFacts.{length-md5}
use Rattle.wire_core.specs.Numbers.{u32}
use Rattle.radius_packet.specs.Packet.{AttributeParts, PacketParts, attributes_text, packet_text, IsPacket}
use Rattle.radius_packet.specs.Seals.{ReplyParts, reply_length, reply_text}
use Rattle.radius_packet.proofs.Signing.{signature_put, authenticator_put, sealed_parts}
use Rattle.diameter_avp.specs.Avps.{AvpParts}
use Rattle.tunnel_map.specs.Groups.{with_attributes}
use Rattle.translation.specs.declared.direction.Direction.{Direction}
use Rattle.translation.specs.declared.direction.Direction.TheVariants.{Accounting}
use Rattle.translation.specs.Pushing.{Pushes}
use Rattle.translation.specs.Replies.{attribute}
use Rattle.translation.proofs.PushingLemmas.{Leads}
use Rattle.reverse_map.specs.Attempts.{keyless_image}
use Rattle.reverse_map.specs.Requests.{image, is_bad, is_unclear, status_in, request_attributes, request_packet, request_length, accounting_packet, accounting_authenticator}

-- ---- one turn of the loop

not_or : (f rest : Bool) → not (f || rest) ≡ (not f && not rest)
not_or true rest = refl
not_or false rest = refl

pub images_turn : (old mid : ReplyParts) (good : Bool) (direction : Direction) (random secret : List ℕ) (all : List AttributeParts) (list rest : List AvpParts) (a : AvpParts)
    → Leads old mid good (not (list_any (is_bad direction) list)) all (flat_map (image direction random secret) list) → list ≡ a ∷ rest
    → Leads old mid good (not (is_bad direction a) && not (list_any (is_bad direction) rest)) all (image direction random secret a ++ flat_map (image direction random secret) rest)
images_turn old mid good direction random secret all list rest a l e =
    let turned = subst (λ (avps : List AvpParts). Leads old mid good (not (list_any (is_bad direction) avps)) all (flat_map (image direction random secret) avps)) e l in
    subst (λ (b : Bool). Leads old mid good b all (image direction random secret a ++ flat_map (image direction random secret) rest))
    (not_or (is_bad direction a) (list_any (is_bad direction) rest)) turned

-- ---- what was pushed fits

-- how many octets the packet has then
abbrev whole_length : ReplyParts → List AttributeParts → ℕ
whole_length r attributes = reply_length r + length (attributes_text attributes)

-- what was pushed
record Fits (old new : ReplyParts) (bad : Bool) (attributes : List AttributeParts) : Type 0 where
  sound : bad ≡ false
  short : nat_lt 4096 (whole_length old attributes) ≡ false
  list : new ≡ with_attributes old attributes

pushed-fits : (old new : ReplyParts) (bad : Bool) (attributes : List AttributeParts) → Pushes old new true (not bad) attributes → Fits old new bad attributes
pushed-fits old new true attributes p = absurd (let e = p.succeeds in cc)
pushed-fits old new false attributes p = record {
  sound = refl;
  short = le-ltb _ _ (leb-true _ _ (sym p.succeeds));
  list = p.pushed refl;
}

-- ---- Accounting-Requests

abbrev pub begun_accounting : ℕ → ReplyParts
begun_accounting id = record { code = 4; id = id; request = replicate 16 0; sealed = false; attributes = [] }

-- the reply to sixteen zeros is the request
reply_text-accounting : (id : ℕ) (secret : List ℕ) (attributes : List AttributeParts)
    → reply_text secret (replicate 16 0) 4 id false attributes ≡ packet_text (accounting_packet id attributes (accounting_authenticator id secret attributes))
unfolding reply_text
reply_text-accounting id secret attributes =
    let p : PacketParts = accounting_packet id attributes (replicate 16 0) in
    sym (signature_put secret p refl) ∙ authenticator_put p (accounting_authenticator id secret attributes) refl

-- what is pushed for a record of this status
abbrev pub record_attributes : ℕ → List ℕ → List ℕ → List AvpParts → List AttributeParts
record_attributes status random secret avps = attribute 40 (u32 status) ∷ flat_map (image Accounting random secret) avps

record_is : (random secret : List ℕ) (avps : List AvpParts) (status : ℕ) → Some status ≡ status_in avps
    → record_attributes status random secret avps ≡ request_attributes Accounting random secret avps
record_is random secret avps status e = rw (sym e) refl

pub accounting_made : (id : ℕ) (random secret text : List ℕ) (avps : List AvpParts) (status : ℕ) (begun new : ReplyParts) → Some status ≡ status_in avps
    → begun ≡ begun_accounting id → Pushes begun new true (not (list_any (is_bad Accounting) avps)) (record_attributes status random secret avps)
    → text ≡ reply_text secret new.request new.code new.id new.sealed new.attributes
    → keyless_image Accounting id random secret avps ≡ Ok text
accounting_made id random secret text avps status begun new e b p made =
    let attributes : List AttributeParts = request_attributes Accounting random secret avps in
    let fit = pushed-fits _ _ _ _ (subst (λ (list : List AttributeParts). Pushes begun new true (not (list_any (is_bad Accounting) avps)) list) (record_is random secret avps status e) p) in
    let short : nat_lt 4096 (request_length Accounting random secret avps) ≡ false = rw b at fit.short in
    let list : new ≡ with_attributes (begun_accounting id) attributes = fit.list ∙ ap (λ (r : ReplyParts). with_attributes r attributes) b in
    let octets : text ≡ packet_text (request_packet Accounting id random secret avps) =
    made ∙ ap (λ (r : ReplyParts). reply_text secret r.request r.code r.id r.sealed r.attributes) list ∙ reply_text-accounting id secret attributes in
    let clear : is_unclear Accounting avps ≡ false = rw (sym e) refl in
    rw (clear, fit.sound, short) (ap Ok (sym octets))

-- the packet that a text is that is the packet with some authenticator
pub same_packet : (text : List ℕ) (p q : PacketParts) → IsPacket text p → text ≡ packet_text q → length q.authenticator ≡ 16 → q.attributes ≡ p.attributes → IsPacket text q
same_packet text p q packet e long same = record {
  text = e;
  authenticator = long;
  values = subst (λ (list : List AttributeParts). AllByRecursion (λ (a : AttributeParts). length a.value ≤ 253) list) (sym same) packet.values;
  most = packet.most;
}

pub accounting_packet_made : (id : ℕ) (random secret text authenticator : List ℕ) (avps : List AvpParts) (status : ℕ) (begun new : ReplyParts) (good : Bool) → Some status ≡ status_in avps
    → begun ≡ begun_accounting id → Pushes begun new true good (record_attributes status random secret avps)
    → text ≡ reply_text secret new.request new.code new.id new.sealed new.attributes
    → IsPacket text (sealed_parts secret new.request new.code new.id new.sealed new.attributes authenticator)
    → IsPacket text (request_packet Accounting id random secret avps)
accounting_packet_made id random secret text authenticator avps status begun new good e b p made packet =
    let attributes : List AttributeParts = request_attributes Accounting random secret avps in
    let list : new ≡ with_attributes (begun_accounting id) attributes =
    p.pushed refl ∙ ap (λ (r : ReplyParts). with_attributes r (record_attributes status random secret avps)) b ∙ ap (with_attributes (begun_accounting id)) (record_is random secret avps status e) in
    let octets : text ≡ packet_text (request_packet Accounting id random secret avps) =
    made ∙ ap (λ (r : ReplyParts). reply_text secret r.request r.code r.id r.sealed r.attributes) list ∙ reply_text-accounting id secret attributes in
    let whole : IsPacket text (accounting_packet id attributes authenticator) =
    subst (λ (r : ReplyParts). IsPacket text (sealed_parts secret r.request r.code r.id r.sealed r.attributes authenticator)) list packet in
    same_packet text (accounting_packet id attributes authenticator) (request_packet Accounting id random secret avps) whole octets (length-md5 _) refl
