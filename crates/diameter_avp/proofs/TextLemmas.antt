-- Octets that are AVPs are read as them, and what is read is what the octets are.
use Rattle.std.proofs.Common.{◌≡◌, ℕ, zero, suc, ◌+◌, ◌-◌, ◌^◌, ◌<◌, ◌≤◌, Bool, true, false, cond, List, [], ◌∷◌, ◌++◌, length, get_or, drop, map, replicate, Option, Some, None, Result, Ok, Err, refl, sym, ap, subst, ◌∙◌, append_assoc, arith}
use Rattle.std.specs.Prelude.{is_some, IfSome}
use Rattle.std.specs.Result.{ok_prefix}
use Rattle.std.proofs.lemmas.List.{length-append, length-drop, length-take, take-append-drop, drop-drop, take_at, drop_at, drop_more, length-replicate}
use Rattle.std.proofs.lemmas.List.Elements.{All-get_or, All-from_get_or, All-drop}
use Rattle.wire_core.specs.Numbers.{number, octets_at, u24, u32, AreOctets}
use Rattle.wire_core.proofs.NumberLemmas.{octets_at-3, octets_at-4, number-3, number-4, number-u24, number-u32, u24-number, u32-number, length-u24, length-u32}
use Rattle.diameter_avp.specs.declared.fault.AvpFault.{AvpFault}
use Rattle.diameter_avp.specs.Avps.{AvpParts, has_vendor, header_length, avp_length, padding, vendor_text, bare_text, IsAvp, BeginsWith, IsAvps, flags_of, length_of, vendor_of, parts_of, span, read_avp, items_at, avp_items, fault_of, avps_fault, readable_avps, read_avps, avp_text, avps_text}
use Rattle.diameter_avp.proofs.ItemLemmas.{Reads, Reads-from_ok, header_length-least, span-least, read_avp-ok, items_at-none, items_at-ok, items_at-err}

-- what is known of a slice of octets
pub AreOctets-from : (octets : List ℕ) → ((i : ℕ) → get_or octets i 0 < 256) → AreOctets octets
AreOctets-from octets below = All-from_get_or (λ x. x < 256) octets 0 (λ i inside. below i)

-- ---- numbers at a place

pub u32-at : (octets : List ℕ) (p : ℕ) → AreOctets octets → p + 4 ≤ length octets → (u32 (number (octets_at octets p 4)) ≡ octets_at octets p 4) × (number (octets_at octets p 4) < 2 ^ 32)
u32-at octets p are inside =
    let a = All-get_or (λ x. x < 256) octets p 0 (omega arith) are in
    let b = All-get_or (λ x. x < 256) octets (p + 1) 0 (omega arith) are in
    let c = All-get_or (λ x. x < 256) octets (p + 2) 0 (omega arith) are in
    let d = All-get_or (λ x. x < 256) octets (p + 3) 0 (omega arith) are in
    rw (octets_at-4 octets p (p + 1) (p + 2) (p + 3) (omega arith) refl (omega arith) (omega arith))
    (u32-number _ _ _ _ a b c d, omega (arith, number-4 (get_or octets p 0) (get_or octets (p + 1) 0) (get_or octets (p + 2) 0) (get_or octets (p + 3) 0)))

pub u24-at : (octets : List ℕ) (p : ℕ) → AreOctets octets → p + 3 ≤ length octets → (u24 (number (octets_at octets p 3)) ≡ octets_at octets p 3) × (number (octets_at octets p 3) < 2 ^ 24)
u24-at octets p are inside =
    let a = All-get_or (λ x. x < 256) octets p 0 (omega arith) are in
    let b = All-get_or (λ x. x < 256) octets (p + 1) 0 (omega arith) are in
    let c = All-get_or (λ x. x < 256) octets (p + 2) 0 (omega arith) are in
    rw (octets_at-3 octets p (p + 1) (p + 2) (omega arith) refl (omega arith))
    (u24-number _ _ _ a b c, omega (arith, number-3 (get_or octets p 0) (get_or octets (p + 1) 0) (get_or octets (p + 2) 0)))

-- ---- texts are read

pub padding-header : (vendor : Option ℕ) (n : ℕ) → padding (header_length vendor + n) ≡ padding n
padding-header None n = omega arith
padding-header (Some v) n = omega arith

pub length-vendor_text : (vendor : Option ℕ) → 8 + length (vendor_text vendor) ≡ header_length vendor
length-vendor_text None = refl
length-vendor_text (Some v) = omega (arith, length-u32 v)

pub length-bare_text : (a : AvpParts) → length (bare_text a) ≡ avp_length a
unfolding bare_text
length-bare_text a =
    let n = avp_length a in
    simp length-append (omega (arith, length-u32 a.code, length-u24 n, length-vendor_text a.vendor))

abbrev parts : ℕ → ℕ → Option ℕ → List ℕ → AvpParts
parts code flags vendor body = record { code = code; flags = flags; vendor = vendor; body = body }

same_parts : (a b : AvpParts) → a.code ≡ b.code → a.flags ≡ b.flags → a.vendor ≡ b.vendor → a.body ≡ b.body → a ≡ b
same_parts a b e f g h =
    ap (λ (x : ℕ). parts x a.flags a.vendor a.body) e
    ∙ ap (λ (x : ℕ). parts b.code x a.vendor a.body) f
    ∙ ap (λ (x : Option ℕ). parts b.code b.flags x a.body) g
    ∙ ap (λ (x : List ℕ). parts b.code b.flags b.vendor x) h

-- what is read of a text
record ReadsText (octets : List ℕ) (a : AvpParts) : Type 0 where
  pub counts : length_of octets ≡ avp_length a
  pub code : number (octets_at octets 0 4) ≡ a.code
  pub flags : flags_of octets ≡ a.flags
  pub vendor : vendor_of octets ≡ a.vendor
  pub body : octets_at octets (header_length a.vendor) (length a.body) ≡ a.body

-- the vendor where the V flag is known
vendor_by : (b : Bool) (v : ℕ) (w : Option ℕ) → b ≡ is_some w → IfSome w (λ x. v ≡ x) → cond b (Some v) None ≡ w
vendor_by true v (Some w) e f = ap (λ x. Some x) f
vendor_by true v None e f = absurd cc
vendor_by false v (Some w) e f = absurd cc
vendor_by false v None e f = refl

reads-text : (code flags : ℕ) (vendor : Option ℕ) (body tail : List ℕ) → (let a : AvpParts = record { code = code; flags = flags; vendor = vendor; body = body } in IsAvp a → ReadsText (bare_text a ++ tail) a)
unfolding bare_text u32 u24
reads-text code flags None body tail is =
    let a : AvpParts = record { code = code; flags = flags; vendor = None; body = body } in
    record {
      counts = number-u24 (avp_length a) is.counted;
      code = number-u32 code is.code;
      flags = refl;
      vendor = vendor_by _ _ _ is.vendor_flag tt;
      body = take_at body tail (length body) refl;
    }
reads-text code flags (Some v) body tail is =
    let a : AvpParts = record { code = code; flags = flags; vendor = Some v; body = body } in
    record {
      counts = number-u24 (avp_length a) is.counted;
      code = number-u32 code is.code;
      flags = refl;
      vendor = vendor_by _ _ _ is.vendor_flag (number-u32 v is.vendor);
      body = take_at body tail (length body) refl;
    }

parts_of-text : (octets : List ℕ) (a : AvpParts) → ReadsText octets a → parts_of octets ≡ a
parts_of-text octets a r =
    let header = ap header_length r.vendor in
    let counts : length_of octets - header_length (vendor_of octets) ≡ length a.body = omega (arith, r.counts, header) in
    same_parts (parts_of octets) a r.code r.flags r.vendor (rw (counts, header) r.body)

-- an AVP at the front is read, and reading goes on behind its padding
pub record ReadsFront (place : ℕ) (octets : List ℕ) (a : AvpParts) (rest : List ℕ) : Type 0 where
  pub read : read_avp place octets ≡ Ok a
  pub left : drop (span octets) octets ≡ rest

pub ReadsFront-from_BeginsWith : (place : ℕ) (octets : List ℕ) (a : AvpParts) (rest : List ℕ) → BeginsWith octets a rest → ReadsFront place octets a rest
ReadsFront-from_BeginsWith place octets a rest begins =
    let pad = begins.pad in
    let regrouped : octets ≡ bare_text a ++ (pad ++ rest) = begins.text ∙ append_assoc (bare_text a) pad rest in
    let r : ReadsText octets a = rw regrouped (reads-text a.code a.flags a.vendor a.body (pad ++ rest) begins.avp) in
    let header = ap header_length r.vendor in
    let whole : span octets ≡ length (bare_text a ++ pad) =
    rw (r.counts, padding-header a.vendor (length a.body)) (omega (arith, length-append (bare_text a) pad, length-bare_text a, begins.padded)) in
    let long : length octets ≡ length (bare_text a ++ pad) + length rest = rw begins.text (length-append (bare_text a ++ pad) rest) in
    let least = header_length-least a.vendor in
    let bare : length (bare_text a ++ pad) ≡ avp_length a + length pad = omega (arith, length-append (bare_text a) pad, length-bare_text a) in
    record {
      read = read_avp-ok place octets (omega arith) (omega arith) (omega arith) ∙ ap (λ (x : AvpParts). Ok x) (parts_of-text octets a r);
      left = rw (whole, begins.text) (drop_at (bare_text a ++ pad) rest _ refl);
    }

-- ---- lists of AVPs are read

pub items_at-IsAvps : (place : ℕ) (octets : List ℕ) (avps : List AvpParts) → IsAvps octets avps → items_at place octets ≡ map (λ a. Ok a) avps
unfolding IsAvps
items_at-IsAvps place octets [] e = items_at-none place octets (ap length e)
items_at-IsAvps place octets (a ∷ avps) is =
    let rest = is.0 in
    let r = ReadsFront-from_BeginsWith place octets a rest is.1 in
    let e : items_at (place + span octets) (drop (span octets) octets) ≡ map (λ a. Ok a) avps =
    rw r.left (items_at-IsAvps (place + span octets) rest avps is.2) in
    items_at-ok place octets a r.read ∙ ap (λ (items : List (Result AvpParts AvpFault)). Ok a ∷ items) e

-- ---- what is read is what the octets are

-- a list from a place on begins with the octets there
cut : (octets : List ℕ) (p count q : ℕ) → q ≡ p + count → drop p octets ≡ octets_at octets p count ++ drop q octets
cut octets p count q e = rw (e, ← drop-drop count p octets) (sym (take-append-drop count (drop p octets)))

-- the vendor at its place, where the header holds it
vendor-at : (octets : List ℕ) (b : Bool) → AreOctets octets → (let vendor = cond b (Some (number (octets_at octets 8 4))) None in header_length vendor ≤ length octets → (IfSome vendor (λ v. v < 2 ^ 32)) × (vendor_text vendor ≡ octets_at octets 8 (header_length vendor - 8)) × (b ≡ is_some vendor))
vendor-at octets true are inside =
    let r = u32-at octets 8 are inside in
    (r.1, r.0, refl)
vendor-at octets false are inside = (tt, refl, refl)

regroup : (a b c d e f : List ℕ) → a ++ (b ++ (c ++ (d ++ (e ++ f)))) ≡ a ++ b ++ c ++ d ++ e ++ f
regroup a b c d e f = simp append_assoc

-- a list cut at the ends of an AVP's fields: the header's, the body's, the padding's
fields : (octets : List ℕ) (header size whole : ℕ) (code counts vendor : List ℕ) → 8 ≤ length octets → 8 ≤ header → header ≤ size → size ≤ whole → code ≡ octets_at octets 0 4 → counts ≡ octets_at octets 5 3 → vendor ≡ octets_at octets 8 (header - 8)
    → octets ≡ code ++ flags_of octets ∷ counts ++ vendor ++ octets_at octets header (size - header) ++ octets_at octets size (whole - size) ++ drop whole octets
fields octets header size whole code counts vendor long low middle high e f g =
    let o = octets in
    let first = cut o 0 4 4 refl in
    let second = drop_more o 4 0 (omega arith) in
    let third = cut o 5 3 8 refl in
    let fourth = cut o 8 (header - 8) header (omega arith) in
    let fifth = cut o header (size - header) size (omega arith) in
    let sixth = cut o size (whole - size) whole (omega arith) in
    rw (e, f, g)
    (first
    ∙ ap (λ (t : List ℕ). octets_at o 0 4 ++ t) (second
    ∙ ap (λ (t : List ℕ). get_or o 4 0 ∷ t) (third
    ∙ ap (λ (t : List ℕ). octets_at o 5 3 ++ t) (fourth
    ∙ ap (λ (t : List ℕ). octets_at o 8 (header - 8) ++ t) (fifth
    ∙ ap (λ (t : List ℕ). octets_at o header (size - header) ++ t) sixth))))
    ∙ regroup (octets_at o 0 4) (get_or o 4 0 ∷ octets_at o 5 3) (octets_at o 8 (header - 8)) (octets_at o header (size - header)) (octets_at o size (whole - size)) (drop whole o))

pub BeginsWith-from_Reads : (octets : List ℕ) (a : AvpParts) → AreOctets octets → Reads octets a → BeginsWith octets a (drop (span octets) octets)
unfolding bare_text
BeginsWith-from_Reads octets a are r =
    let o = octets in
    let n = length_of o in
    let h = header_length (vendor_of o) in
    let least = header_length-least (vendor_of o) in
    let code = u32-at o 0 are (omega arith) in
    let counts = u24-at o 5 are (omega arith) in
    let vendor = vendor-at o (has_vendor (flags_of o)) are (omega arith) in
    let flags = All-get_or (λ x. x < 256) o 4 0 (omega arith) are in
    let body : length (octets_at o h (n - h)) ≡ n - h = omega (arith, length-take (n - h) (drop h o), length-drop h o) in
    let size : avp_length (parts_of o) ≡ n = omega arith in
    let pads : padding (n - h) ≡ padding n = sym (padding-header (vendor_of o) (n - h)) ∙ ap padding (omega arith) in
    subst (λ x. BeginsWith o x (drop (span o) o)) r.parts
    (record {
      avp = record {
        code = code.1;
        flags = flags;
        vendor_flag = vendor.2;
        vendor = vendor.0;
        counted = rw size counts.1;
      };
      pad = octets_at o n (span o - n);
      padded = rw (body, pads) (omega (arith, length-take (span o - n) (drop n o), length-drop n o));
      text = fields o h n (span o) _ _ _ (omega arith) (omega arith) (omega arith) (omega arith) code.0 (rw size counts.0) vendor.1;
    })

some≢none : (fault : AvpFault) → (let x : Option AvpFault = Some fault in let y : Option AvpFault = None in x ≡ y) → ⊥
some≢none fault e = cc

module _ (place : ℕ) (octets : List ℕ) (are : AreOctets octets) where
  abbrev after : List (Result AvpParts AvpFault)
  after = items_at (place + span octets) (drop (span octets) octets)

  -- one AVP more, or a fault
  IsAvps-step : (r : Result AvpParts AvpFault) → read_avp place octets ≡ r → 0 < length octets → (8 ≤ span octets → fault_of after ≡ None → IsAvps (drop (span octets) octets) (ok_prefix after)) → fault_of (items_at place octets) ≡ None → IsAvps octets (ok_prefix (items_at place octets))
  unfolding IsAvps
  IsAvps-step (Ok a) e some more none =
      let items = items_at-ok place octets a e in
      let rest : fault_of after ≡ None = rw items at none in
      rw items (drop (span octets) octets, BeginsWith-from_Reads octets a are (Reads-from_ok place octets a e), more (span-least place octets a e) rest)
  IsAvps-step (Err fault) e some more none =
      absurd (some≢none fault (rw (items_at-err place octets fault some e) at none))

IsAvps-from : (m place : ℕ) (octets : List ℕ) → length octets ≤ m → AreOctets octets → fault_of (items_at place octets) ≡ None → IsAvps octets (ok_prefix (items_at place octets))
unfolding IsAvps
IsAvps-from m place [] p are none = rw (items_at-none place [] refl) refl
IsAvps-from zero place (x ∷ octets) p are none = absurd (omega arith)
IsAvps-from (suc m) place (x ∷ octets) p are none =
    let o : List ℕ = x ∷ octets in
    IsAvps-step place o are (read_avp place o) refl (omega arith)
    (λ least rest. IsAvps-from m (place + span o) (drop (span o) o) (omega (arith, length-drop (span o) o)) (All-drop (λ y. y < 256) (span o) o are) rest)
    none

-- ---- the laws

fault_of-all_ok : (avps : List AvpParts) → fault_of (map (λ a. Ok a) avps) ≡ None
fault_of-all_ok [] = refl
fault_of-all_ok (a ∷ avps) = fault_of-all_ok avps

ok_prefix-all_ok : (avps : List AvpParts) → ok_prefix {E = AvpFault} (map (λ a. Ok a) avps) ≡ avps
ok_prefix-all_ok [] = refl
ok_prefix-all_ok (a ∷ avps) = ap (λ (others : List AvpParts). a ∷ others) (ok_prefix-all_ok avps)

pub avp_items-IsAvps : (octets : List ℕ) (avps : List AvpParts) → IsAvps octets avps → avp_items octets ≡ map (λ a. Ok a) avps
unfolding avp_items
avp_items-IsAvps octets avps is = items_at-IsAvps 0 octets avps is

pub avps_fault-IsAvps : (octets : List ℕ) (avps : List AvpParts) → IsAvps octets avps → avps_fault octets ≡ None
unfolding avp_items
avps_fault-IsAvps octets avps is = rw (items_at-IsAvps 0 octets avps is) (fault_of-all_ok avps)

pub readable_avps-IsAvps : (octets : List ℕ) (avps : List AvpParts) → IsAvps octets avps → readable_avps octets ≡ avps
unfolding avp_items
readable_avps-IsAvps octets avps is = rw (items_at-IsAvps 0 octets avps is) (ok_prefix-all_ok avps)

pub read_avps-IsAvps : (octets : List ℕ) (avps : List AvpParts) → IsAvps octets avps → read_avps octets ≡ Ok avps
unfolding read_avps
read_avps-IsAvps octets avps is = rw (avps_fault-IsAvps octets avps is, readable_avps-IsAvps octets avps is) refl

pub IsAvps-readable : (octets : List ℕ) → AreOctets octets → avps_fault octets ≡ None → IsAvps octets (readable_avps octets)
unfolding avp_items
IsAvps-readable octets are none = IsAvps-from (length octets) 0 octets (omega arith) are none

pub IsAvps-avps_text : (octets : List ℕ) (avps : List AvpParts) → IsAvps octets avps → IsAvps (avps_text avps) avps
unfolding IsAvps avps_text avp_text
IsAvps-avps_text octets [] is = refl
IsAvps-avps_text octets (a ∷ avps) is =
    (avps_text avps, record { avp = is.1.avp; pad = replicate (padding (length a.body)) 0; padded = length-replicate (padding (length a.body)) 0; text = refl }, IsAvps-avps_text is.0 avps is.2)
