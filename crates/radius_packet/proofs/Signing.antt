-- A draft, with its Length, its seal and its authenticator filled in, is the signed packet.
use Rattle.std.proofs.Common.{◌≡◌, ℕ, ◌+◌, ◌≤◌, Bool, true, false, cond, List, [], ◌∷◌, ◌++◌, length, take, drop, replicate, refl, sym, ap, subst, ◌∙◌, append_assoc, arith}
use Rattle.std.specs.List.{AllByRecursion}
use Rattle.std.proofs.lemmas.List.{take_at, drop_at, drop-drop, length-append}
use Rattle.std.proofs.Math.Seq.{take-append-add}
use Rattle.md5.specs.Md5.{md5}
use Rattle.md5.proofs.StandardFacts.{length-md5}
use Rattle.hmac_md5.specs.Hmac.{hmac_of}
use Rattle.hmac_md5.proofs.Lengths.{length-hmac_of}
use Rattle.wire_core.specs.Numbers.{u16, octets_at}
use Rattle.wire_core.proofs.NumberLemmas.{length-u16}
use Rattle.radius_packet.specs.Packet.{AttributeParts, PacketParts, attributes_text, packet_text, IsPacket}
use Rattle.radius_packet.specs.Seals.{Signed, IsSealed, response_authenticator, signed_text, unsigned_text, sealed_attributes, reply_text, ReplyParts, request_parts, request_text, seal, roomy_attributes, draft_text, draft_in, IsDraft}
use Rattle.radius_packet.proofs.Packets.{length-packet_text, take-packet_text, authenticator-packet_text, drop-packet_text}
use Rattle.radius_packet.proofs.Drafts.{drop_past, length-draft_text}

take_past : (p q : List ℕ) (n m : ℕ) → length p ≡ n → take (n + m) (p ++ q) ≡ p ++ take m q
take_past p q n m e = ap (λ (k : ℕ). take (k + m) (p ++ q)) (sym e) ∙ take-append-add p q m

-- ---- Length

pub length_put : (r : ReplyParts) → length r.request ≡ 16
    → take 2 (draft_text r) ++ u16 (length (draft_text r)) ++ drop 4 (draft_text r) ≡ unsigned_text r.request r.code r.id (roomy_attributes r.sealed r.attributes)
unfolding packet_text
length_put r e =
    let text : List ℕ = attributes_text (roomy_attributes r.sealed r.attributes) in
    let len : length (draft_text r) ≡ 20 + length text = omega (arith, length-append r.request text) in
    ap (λ (n : ℕ). (r.code ∷ r.id ∷ []) ++ u16 n ++ (r.request ++ text)) len ∙ sym (append_assoc (r.code ∷ r.id ∷ u16 (20 + length text)) r.request text)

-- ---- the seal

seal_text : (h : List ℕ) (list : List AttributeParts) → length h ≡ 16 → attributes_text (seal h ∷ list) ≡ 80 ∷ 18 ∷ (h ++ attributes_text list)
seal_text h list e = rw e refl

-- a value of sixteen octets in place of another one, in an attribute that begins at a place
pub value_put : (front zeros h rest : List ℕ) (place : ℕ) → length front ≡ place → length zeros ≡ 16
    → take (place + 2) (front ++ (80 ∷ 18 ∷ (zeros ++ rest))) ++ h ++ drop (place + 18) (front ++ (80 ∷ 18 ∷ (zeros ++ rest))) ≡ front ++ (80 ∷ 18 ∷ (h ++ rest))
value_put front zeros h rest place ef ez =
    let tail : List ℕ = 80 ∷ 18 ∷ (zeros ++ rest) in
    rw (take_past front tail place 2 ef, drop_past front tail place 18 ef, drop_at zeros rest 16 ez)
    (append_assoc (front ++ 80 ∷ 18 ∷ []) h rest ∙ append_assoc front (80 ∷ 18 ∷ []) (h ++ rest))

-- the header with the request's authenticator
abbrev front_of : ℕ → ℕ → ℕ → List ℕ → List ℕ
front_of code id n request = (code ∷ id ∷ u16 n) ++ request

front_length : (code id n : ℕ) (request : List ℕ) → length request ≡ 16 → length (front_of code id n request) ≡ 20
front_length code id n request e = omega (arith, length-append (code ∷ id ∷ u16 n) request, length-u16 n)

seal_size : (h : List ℕ) (list : List AttributeParts) → length h ≡ 16 → length (attributes_text (seal h ∷ list)) ≡ 18 + length (attributes_text list)
seal_size h list e = omega (arith, length-append h (attributes_text list))

pub seal_put : (request h : List ℕ) (code id : ℕ) (list : List AttributeParts) → length request ≡ 16 → length h ≡ 16
    → take 22 (unsigned_text request code id (seal (replicate 16 0) ∷ list)) ++ h ++ drop 38 (unsigned_text request code id (seal (replicate 16 0) ∷ list)) ≡ unsigned_text request code id (seal h ∷ list)
unfolding packet_text
seal_put request h code id list e eh =
    let n : ℕ = 20 + length (attributes_text (seal (replicate 16 0) ∷ list)) in
    let m : ℕ = 20 + length (attributes_text (seal h ∷ list)) in
    let same : n ≡ m = omega (arith, seal_size (replicate 16 0) list refl, seal_size h list eh) in
    value_put (front_of code id n request) (replicate 16 0) h (attributes_text list) 20 (front_length code id n request e) refl
    ∙ ap (λ (k : ℕ). front_of code id k request ++ (80 ∷ 18 ∷ (h ++ attributes_text list))) same
    ∙ ap (λ (xs : List ℕ). front_of code id m request ++ xs) (sym (seal_text h list eh))

-- ---- the authenticator

pub whole_text : (p : PacketParts) → length p.authenticator ≡ 16 → take 4 (packet_text p) ++ p.authenticator ++ drop 20 (packet_text p) ≡ packet_text p
unfolding packet_text u16
whole_text p e = rw (drop_at p.authenticator (attributes_text p.attributes) 16 e) refl

pub signature_put : (secret : List ℕ) (p : PacketParts) → length p.authenticator ≡ 16
    → take 4 (packet_text p) ++ md5 (packet_text p ++ secret) ++ drop 20 (packet_text p) ≡ signed_text secret p.authenticator (packet_text p)
signature_put secret p e = ap (λ (xs : List ℕ). take 4 (packet_text p) ++ md5 (xs ++ secret) ++ drop 20 (packet_text p)) (sym (whole_text p e))

-- ---- all of it

-- what the seal's step does
abbrev pub Seals : Bool → List ℕ → List ℕ → List ℕ → Type 0
Seals true secret put middle = middle ≡ take 22 put ++ hmac_of secret put ++ drop 38 put
Seals false secret put middle = middle ≡ put

middle_is : (secret request put middle : List ℕ) (code id : ℕ) (sealed : Bool) (list : List AttributeParts) → length request ≡ 16
    → put ≡ unsigned_text request code id (roomy_attributes sealed list) → Seals sealed secret put middle
    → middle ≡ unsigned_text request code id (sealed_attributes secret request code id sealed list)
middle_is secret request put middle code id true list e ep em =
    em ∙ ap (λ (xs : List ℕ). take 22 xs ++ hmac_of secret xs ++ drop 38 xs) ep ∙ seal_put request _ code id list e (length-hmac_of secret _)
middle_is secret request put middle code id false list e ep em = em ∙ ep

-- the request that keeps its authenticator
pub completed : (secret octets put middle : List ℕ) (r : ReplyParts) → octets ≡ draft_text r → length r.request ≡ 16
    → put ≡ take 2 octets ++ u16 (length octets) ++ drop 4 octets → Seals r.sealed secret put middle → middle ≡ request_text secret r
completed secret octets put middle r text e ep em =
    let put_is : put ≡ unsigned_text r.request r.code r.id (roomy_attributes r.sealed r.attributes) =
    ep ∙ ap (λ (xs : List ℕ). take 2 xs ++ u16 (length xs) ++ drop 4 xs) text ∙ length_put r e in
    middle_is secret r.request put middle r.code r.id r.sealed r.attributes e put_is em

pub filled : (secret middle signed : List ℕ) (r : ReplyParts) → length r.request ≡ 16
    → middle ≡ request_text secret r → signed ≡ take 4 middle ++ md5 (middle ++ secret) ++ drop 20 middle
    → signed ≡ reply_text secret r.request r.code r.id r.sealed r.attributes
unfolding reply_text
filled secret middle signed r e all es =
    es ∙ ap (λ (xs : List ℕ). take 4 xs ++ md5 (xs ++ secret) ++ drop 20 xs) all ∙ signature_put secret (request_parts secret r) e

-- ---- the signed packet

abbrev pub sealed_parts : List ℕ → List ℕ → ℕ → ℕ → Bool → List AttributeParts → List ℕ → PacketParts
sealed_parts secret request code id sealed list authenticator =
    record { code = code; id = id; authenticator = authenticator; attributes = sealed_attributes secret request code id sealed list }

pub authenticator_put : (p : PacketParts) (a : List ℕ) → length p.authenticator ≡ 16 → take 4 (packet_text p) ++ a ++ drop 20 (packet_text p) ≡ packet_text (record p { authenticator = a })
unfolding packet_text u16
authenticator_put p a e = rw (drop_at p.authenticator (attributes_text p.attributes) 16 e) refl

sealed_values : (secret request : List ℕ) (code id : ℕ) (sealed : Bool) (list : List AttributeParts) → AllByRecursion (λ a. length a.value ≤ 253) list
    → AllByRecursion (λ a. length a.value ≤ 253) (sealed_attributes secret request code id sealed list)
sealed_values secret request code id true list values = (omega (arith, length-hmac_of secret (unsigned_text request code id (seal (replicate 16 0) ∷ list))), values)
sealed_values secret request code id false list values = values

sealed_size : (secret request : List ℕ) (code id : ℕ) (sealed : Bool) (list : List AttributeParts)
    → length (attributes_text (sealed_attributes secret request code id sealed list)) ≡ cond sealed 18 0 + length (attributes_text list)
sealed_size secret request code id true list = seal_size _ list (length-hmac_of secret _)
sealed_size secret request code id false list = omega arith

-- the octets of a signed reply
pub record Filled (secret request : List ℕ) (code id : ℕ) (sealed : Bool) (list : List AttributeParts) (octets : List ℕ) : Type 0 where
  pub authenticator : List ℕ
  pub is_md5 : authenticator ≡ response_authenticator secret request octets
  pub packet : IsPacket octets (sealed_parts secret request code id sealed list authenticator)

pub reply_filled : (secret request : List ℕ) (code id : ℕ) (sealed : Bool) (list : List AttributeParts) → length request ≡ 16 → AllByRecursion (λ a. length a.value ≤ 253) list
    → 20 + cond sealed 18 0 + length (attributes_text list) ≤ 4096 → Filled secret request code id sealed list (reply_text secret request code id sealed list)
unfolding reply_text
reply_filled secret request code id sealed list e values most =
    let p : PacketParts = sealed_parts secret request code id sealed list request in
    let a : List ℕ = response_authenticator secret request (packet_text p) in
    let q : PacketParts = record p { authenticator = a } in
    let len : length a ≡ 16 = length-md5 _ in
    let text : signed_text secret request (packet_text p) ≡ packet_text q = authenticator_put p a e in
    let front : take 4 (signed_text secret request (packet_text p)) ≡ take 4 (packet_text p) = ap (λ (xs : List ℕ). take 4 xs) text ∙ take-packet_text q ∙ sym (take-packet_text p) in
    let back : drop 20 (signed_text secret request (packet_text p)) ≡ drop 20 (packet_text p) = ap (λ (xs : List ℕ). drop 20 xs) text ∙ drop-packet_text q len ∙ sym (drop-packet_text p e) in
    record {
      authenticator = a;
      is_md5 = ap (λ (xs : List ℕ). md5 (xs ++ request ++ drop 20 (packet_text p) ++ secret)) (sym front)
          ∙ ap (λ (xs : List ℕ). md5 (take 4 (signed_text secret request (packet_text p)) ++ request ++ xs ++ secret)) (sym back);
      packet = record {
        text = text;
        authenticator = len;
        values = sealed_values secret request code id sealed list values;
        most = omega (arith, ap length text, length-packet_text q len, sealed_size secret request code id sealed list);
      };
    }

-- the octets under the seal, part by part
under_seal : (request : List ℕ) (code id n : ℕ) (list : List AttributeParts) → n ≡ 20 + length (attributes_text (seal (replicate 16 0) ∷ list))
    → (code ∷ id ∷ u16 n) ++ request ++ (80 ∷ 18 ∷ []) ++ replicate 16 0 ++ attributes_text list ≡ unsigned_text request code id (seal (replicate 16 0) ∷ list)
unfolding packet_text
under_seal request code id n list e =
    append_assoc (front_of code id n request ++ 80 ∷ 18 ∷ []) (replicate 16 0) (attributes_text list)
    ∙ append_assoc (front_of code id n request) (80 ∷ 18 ∷ []) (replicate 16 0 ++ attributes_text list)
    ∙ ap (λ (k : ℕ). front_of code id k request ++ (80 ∷ 18 ∷ (replicate 16 0 ++ attributes_text list))) e

is_sealed : (octets secret request authenticator : List ℕ) (code id : ℕ) (list : List AttributeParts)
    → IsPacket octets (sealed_parts secret request code id true list authenticator) → IsSealed secret request octets
is_sealed octets secret request authenticator code id list packet =
    let rest : List ℕ = attributes_text list in
    let h : List ℕ = hmac_of secret (unsigned_text request code id (seal (replicate 16 0) ∷ list)) in
    let eh : length h ≡ 16 = length-hmac_of secret _ in
    let q : PacketParts = sealed_parts secret request code id true list authenticator in
    let n : ℕ = 20 + length (attributes_text (seal h ∷ list)) in
    let same : n ≡ 20 + length (attributes_text (seal (replicate 16 0) ∷ list)) = omega (arith, seal_size h list eh, seal_size (replicate 16 0) list refl) in
    let front : take 4 octets ≡ code ∷ id ∷ u16 n = ap (λ (xs : List ℕ). take 4 xs) packet.text ∙ take-packet_text q in
    let tail : drop 20 octets ≡ 80 ∷ 18 ∷ (h ++ rest) = ap (λ (xs : List ℕ). drop 20 xs) packet.text ∙ drop-packet_text q packet.authenticator ∙ seal_text h list eh in
    let header : octets_at octets 20 2 ≡ 80 ∷ 18 ∷ [] = ap (λ (xs : List ℕ). take 2 xs) tail in
    let value : octets_at octets 22 16 ≡ h = ap (λ (xs : List ℕ). take 16 xs) (sym (drop-drop 2 20 octets) ∙ ap (λ (xs : List ℕ). drop 2 xs) tail) ∙ take_at h rest 16 eh in
    let end : drop 38 octets ≡ rest = sym (drop-drop 18 20 octets) ∙ ap (λ (xs : List ℕ). drop 18 xs) tail ∙ drop_at h rest 16 eh in
    record {
      header = header;
      value = value ∙ rw (front, header, end) (ap (hmac_of secret) (sym (under_seal request code id n list same)));
    }

pub reply_signed : (secret request : List ℕ) (code id : ℕ) (sealed : Bool) (list : List AttributeParts) → length request ≡ 16 → AllByRecursion (λ a. length a.value ≤ 253) list
    → 20 + cond sealed 18 0 + length (attributes_text list) ≤ 4096 → Signed secret request sealed (reply_text secret request code id sealed list)
reply_signed secret request code id true list e values most =
    let f = reply_filled secret request code id true list e values most in
    let a : octets_at (reply_text secret request code id true list) 4 16 ≡ f.authenticator = ap (λ (xs : List ℕ). octets_at xs 4 16) f.packet.text ∙ authenticator-packet_text _ f.packet.authenticator in
    record {
      packet = (sealed_parts secret request code id true list f.authenticator, f.packet);
      authenticator = a ∙ f.is_md5;
      seal = λ _. is_sealed _ secret request f.authenticator code id list f.packet;
    }
reply_signed secret request code id false list e values most =
    let f = reply_filled secret request code id false list e values most in
    let a : octets_at (reply_text secret request code id false list) 4 16 ≡ f.authenticator = ap (λ (xs : List ℕ). octets_at xs 4 16) f.packet.text ∙ authenticator-packet_text _ f.packet.authenticator in
    record {
      packet = (sealed_parts secret request code id false list f.authenticator, f.packet);
      authenticator = a ∙ f.is_md5;
      seal = λ h. absurd cc;
    }

-- ---- a draft that is finished

pub record Finished (secret : List ℕ) (r : ReplyParts) (octets : List ℕ) : Type 0 where
  pub signed : Signed secret r.request r.sealed octets
  pub packet : (authenticator : List ℕ) × IsPacket octets (sealed_parts secret r.request r.code r.id r.sealed r.attributes authenticator)

finishes : (secret octets : List ℕ) (sealed : Bool) → IsDraft sealed octets
    → Finished secret (draft_in sealed octets) (reply_text secret (draft_in sealed octets).request (draft_in sealed octets).code (draft_in sealed octets).id sealed (draft_in sealed octets).attributes)
finishes secret octets sealed draft =
    let r : ReplyParts = draft_in sealed octets in
    let len = length-draft_text r draft.request in
    let size = ap length draft.text in
    let most = draft.most in
    let f = reply_filled secret r.request r.code r.id sealed r.attributes draft.request draft.values (omega arith) in
    record {
      signed = reply_signed secret r.request r.code r.id sealed r.attributes draft.request draft.values (omega arith);
      packet = (f.authenticator, f.packet);
    }

pub finished : (secret octets text : List ℕ) (sealed : Bool) (r : ReplyParts) → IsDraft sealed octets → draft_in sealed octets ≡ r
    → text ≡ reply_text secret r.request r.code r.id r.sealed r.attributes → Finished secret r text
finished secret octets text sealed r draft e et =
    subst (λ (xs : List ℕ). Finished secret r xs) (sym et)
    (subst (λ (q : ReplyParts). Finished secret q (reply_text secret q.request q.code q.id q.sealed q.attributes)) e (finishes secret octets sealed draft))

-- a draft that is made a request is a packet
completes : (secret octets : List ℕ) (sealed : Bool) → IsDraft sealed octets → IsPacket (request_text secret (draft_in sealed octets)) (request_parts secret (draft_in sealed octets))
completes secret octets sealed draft =
    let r : ReplyParts = draft_in sealed octets in
    let len = length-draft_text r draft.request in
    let size = ap length draft.text in
    let most = draft.most in
    record {
      text = refl;
      authenticator = draft.request;
      values = sealed_values secret r.request r.code r.id r.sealed r.attributes draft.values;
      most = omega (arith, length-packet_text (request_parts secret r) draft.request, sealed_size secret r.request r.code r.id r.sealed r.attributes);
    }

pub completed_packet : (secret octets text : List ℕ) (sealed : Bool) (r : ReplyParts) → IsDraft sealed octets → draft_in sealed octets ≡ r → text ≡ request_text secret r
    → IsPacket text (request_parts secret r)
completed_packet secret octets text sealed r draft e et =
    subst (λ (xs : List ℕ). IsPacket xs (request_parts secret r)) (sym et)
    (subst (λ (q : ReplyParts). IsPacket (request_text secret q) (request_parts secret q)) e (completes secret octets sealed draft))
