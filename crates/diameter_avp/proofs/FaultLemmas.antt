-- The fault that reading finds is the one that stands at its place.
use Rattle.std.proofs.Common.{◌≡◌, ℕ, zero, suc, ◌+◌, ◌<◌, ◌≤◌, ◌⊎◌, inl, inr, Bool, true, false, cond, List, [], ◌∷◌, ◌++◌, map, length, take, drop, Option, Some, None, Result, Ok, Err, refl, sym, ap, subst, ◌∙◌, append_assoc, arith}
use Rattle.std.specs.Prelude.{nat_lt}
use Rattle.std.specs.Result.{ok_prefix}
use Rattle.std.proofs.lemmas.Bool.{ltb-true, ltb-false, lt-ltb, le-ltb}
use Rattle.std.proofs.lemmas.List.{length-append, length-drop, length-take-le, take-append-drop, drop-drop, take_at, drop_at}
use Rattle.std.proofs.lemmas.List.Elements.{All-drop}
use Rattle.std.proofs.Math.Seq.{take-append-add}
use Rattle.wire_core.specs.Numbers.{AreOctets}
use Rattle.diameter_avp.specs.declared.fault.AvpFault.{AvpFault}
use Rattle.diameter_avp.specs.declared.fault.AvpFault.TheVariants.{Short, BadLength}
use Rattle.diameter_avp.specs.Avps.{AvpParts, readable_avps, header_length, vendor_of, length_of, span, bare_text, BeginsWith, IsAvps, read_avp, items_at, avp_items, fault_of, avps_fault}
use Rattle.diameter_avp.specs.Faults.{Reaches, HasBadLength, HoldUpTo, IsFault, place_of}
use Rattle.diameter_avp.proofs.ItemLemmas.{Reads-from_ok, span-least, items_at-none, items_at-ok, items_at-err}
use Rattle.diameter_avp.proofs.TextLemmas.{BeginsWith-from_Reads, ReadsFront-from_BeginsWith}

-- so many octets further on, what stands there can't be read
record FailsAt (place : ℕ) (octets : List ℕ) (fault : AvpFault) : Type 0 where
  pub step : ℕ
  pub reaches : Reaches octets step
  pub some : 0 < length (drop step octets)
  pub fails : read_avp (place + step) (drop step octets) ≡ Err fault

some_is : (a b : AvpFault) → (let x : Option AvpFault = Some a in let y : Option AvpFault = Some b in x ≡ y) → a ≡ b
some_is a b e = cc

-- ---- one AVP

fault_by : (long header inside : Bool) (place : ℕ) (a : AvpParts) (fault : AvpFault) → (let r : Result AvpParts AvpFault = cond long (Err (Short place)) (cond header (Err (BadLength place)) (cond inside (Err (BadLength place)) (Ok a))) in r ≡ Err fault) → ((long ≡ true) × (fault ≡ Short place)) ⊎ ((long ≡ false) × (fault ≡ BadLength place) × ((header ≡ true) ⊎ (inside ≡ true)))
fault_by true header inside place a fault e = inl (refl, cc)
fault_by false true inside place a fault e = inr (refl, cc, inl refl)
fault_by false false true place a fault e = inr (refl, cc, inr refl)
fault_by false false false place a fault e = absurd cc

-- what is wrong with the octets at a place
abbrev Wrong : List ℕ → ℕ → AvpFault → Type 0
Wrong octets place (Short p) = (p ≡ place) × (length octets < 8)
Wrong octets place (BadLength p) = (p ≡ place) × (8 ≤ length octets) × HasBadLength octets

wrong-length : (octets : List ℕ) → ((nat_lt (length_of octets) (header_length (vendor_of octets)) ≡ true) ⊎ (nat_lt (length octets) (span octets) ≡ true)) → HasBadLength octets
wrong-length octets (inl e) = inl (ltb-true _ _ e)
wrong-length octets (inr e) = inr (ltb-true _ _ e)

wrong-by : (octets : List ℕ) (place : ℕ) (fault : AvpFault) → ((nat_lt (length octets) 8 ≡ true) × (fault ≡ Short place)) ⊎ ((nat_lt (length octets) 8 ≡ false) × (fault ≡ BadLength place) × ((nat_lt (length_of octets) (header_length (vendor_of octets)) ≡ true) ⊎ (nat_lt (length octets) (span octets) ≡ true))) → Wrong octets place fault
wrong-by octets place fault (inl p) = subst (λ (f : AvpFault). Wrong octets place f) (sym p.1) (refl, ltb-true _ _ p.0)
wrong-by octets place fault (inr p) = subst (λ (f : AvpFault). Wrong octets place f) (sym p.1) (refl, ltb-false _ _ p.0, wrong-length octets p.2)

Wrong-from_err : (octets : List ℕ) (place : ℕ) (fault : AvpFault) → read_avp place octets ≡ Err fault → Wrong octets place fault
unfolding read_avp
Wrong-from_err octets place fault e = wrong-by octets place fault (fault_by _ _ _ place _ fault e)

err-short : (octets : List ℕ) (place : ℕ) → length octets < 8 → read_avp place octets ≡ Err (Short place)
unfolding read_avp
err-short octets place short =
    let a = lt-ltb (length octets) 8 short in
    rw a refl

cond-same : (b : Bool) (x : Result AvpParts AvpFault) → cond b x x ≡ x
cond-same true x = refl
cond-same false x = refl

err-length : (octets : List ℕ) (place : ℕ) → 8 ≤ length octets → HasBadLength octets → read_avp place octets ≡ Err (BadLength place)
unfolding read_avp
err-length octets place long (inl bad) =
    let a = le-ltb (length octets) 8 long in
    let b = lt-ltb (length_of octets) (header_length (vendor_of octets)) bad in
    rw (a, b) refl
err-length octets place long (inr bad) =
    let a = le-ltb (length octets) 8 long in
    let b = lt-ltb (length octets) (span octets) bad in
    rw (a, b) (cond-same (nat_lt (length_of octets) (header_length (vendor_of octets))) (Err (BadLength place)))

-- ---- a list

-- AVPs further on are reached over one more
reaches-more : (octets : List ℕ) (a : AvpParts) (n step : ℕ) → n ≤ length octets → BeginsWith octets a (drop n octets) → Reaches (drop n octets) step → Reaches octets (n + step)
unfolding IsAvps
reaches-more octets a n step inside begins r =
    let first : List ℕ = bare_text a ++ begins.pad in
    let count : length first ≡ n = omega (arith, ap length begins.text, length-append first (drop n octets), length-drop n octets) in
    let text : take (n + step) octets ≡ first ++ take step (drop n octets) =
    ap (λ (o : List ℕ). take (n + step) o) begins.text
    ∙ ap (λ (k : ℕ). take (k + step) (first ++ drop n octets)) (sym count)
    ∙ take-append-add first (drop n octets) step in
    record {
      before = a ∷ r.before;
      avps = (take step (drop n octets), record { avp = begins.avp; pad = begins.pad; padded = begins.padded; text = text }, r.avps);
      inside = omega (arith, r.inside, length-drop n octets);
    }

reaches-none : (octets : List ℕ) → Reaches octets 0
unfolding IsAvps
reaches-none octets = record { before = []; avps = refl; inside = omega arith }

module _ (fault : AvpFault) where
  fails-step : (place : ℕ) (octets : List ℕ) (r : Result AvpParts AvpFault) → AreOctets octets → read_avp place octets ≡ r → 0 < length octets → (8 ≤ span octets → fault_of (items_at (place + span octets) (drop (span octets) octets)) ≡ Some fault → FailsAt (place + span octets) (drop (span octets) octets) fault) → fault_of (items_at place octets) ≡ Some fault → FailsAt place octets fault
  fails-step place octets (Ok a) are e some more found =
      let n = span octets in
      let read = Reads-from_ok place octets a e in
      let items = items_at-ok place octets a e in
      let rest : fault_of (items_at (place + n) (drop n octets)) ≡ Some fault = rw items at found in
      let f = more (span-least place octets a e) rest in
      let behind = drop-drop f.step n octets in
      record {
        step = n + f.step;
        reaches = reaches-more octets a n f.step read.inside (BeginsWith-from_Reads octets a are read) f.reaches;
        some = subst (λ (o : List ℕ). 0 < length o) behind f.some;
        fails =
            ap (λ (k : ℕ). read_avp k (drop (n + f.step) octets)) (let p : place + (n + f.step) ≡ place + n + f.step = omega arith in p)
            ∙ ap (λ (o : List ℕ). read_avp (place + n + f.step) o) (sym behind)
            ∙ f.fails;
      }
  fails-step place octets (Err other) are e some more found =
      let items = items_at-err place octets other some e in
      let here : (let x : Option AvpFault = Some other in x ≡ Some fault) = rw items at found in
      record {
        step = 0;
        reaches = reaches-none octets;
        some = some;
        fails =
            ap (λ (k : ℕ). read_avp k octets) (let p : place + 0 ≡ place = omega arith in p)
            ∙ e
            ∙ ap (λ (f : AvpFault). Err f) (some_is other fault here);
      }

  fails-from : (m place : ℕ) (octets : List ℕ) → length octets ≤ m → AreOctets octets → fault_of (items_at place octets) ≡ Some fault → FailsAt place octets fault
  fails-from m place [] p are found =
      let items = items_at-none place [] refl in
      let none : (let x : Option AvpFault = None in x ≡ Some fault) = rw items at found in
      absurd cc
  fails-from zero place (x ∷ octets) p are found = absurd (omega arith)
  fails-from (suc m) place (x ∷ octets) p are found =
      let o : List ℕ = x ∷ octets in
      fails-step place o (read_avp place o) are refl (omega arith)
      (λ least rest. fails-from m (place + span o) (drop (span o) o) (omega (arith, length-drop (span o) o)) (All-drop (λ y. y < 256) (span o) o are) rest)
      found

  -- AVPs up to a place, and what can't be read there
  items-up_to : (before : List AvpParts) (place : ℕ) (octets : List ℕ) (step : ℕ) → IsAvps (take step octets) before → step ≤ length octets → 0 < length (drop step octets) → read_avp (place + step) (drop step octets) ≡ Err fault → items_at place octets ≡ map (λ a. Ok a) before ++ Err fault ∷ []
  unfolding IsAvps
  items-up_to [] place octets step is inside some fails =
      let none : step ≡ 0 = omega (arith, ap length is, length-take-le step octets inside) in
      let here : read_avp (place + 0) octets ≡ Err fault = subst (λ (k : ℕ). read_avp (place + k) (drop k octets) ≡ Err fault) none fails in
      let at : read_avp place octets ≡ Err fault = ap (λ (k : ℕ). read_avp k octets) (let p : place ≡ place + 0 = omega arith in p) ∙ here in
      items_at-err place octets fault (omega (arith, length-drop step octets)) at
  items-up_to (a ∷ before) place octets step is inside some fails =
      let rest = is.0 in
      let tail = drop step octets in
      let text : octets ≡ bare_text a ++ is.1.pad ++ (rest ++ tail) =
      sym (take-append-drop step octets) ∙ ap (λ (o : List ℕ). o ++ tail) is.1.text ∙ append_assoc (bare_text a ++ is.1.pad) rest tail in
      let begins : BeginsWith octets a (rest ++ tail) = record { avp = is.1.avp; pad = is.1.pad; padded = is.1.padded; text = text } in
      let front = ReadsFront-from_BeginsWith place octets a (rest ++ tail) begins in
      let read = Reads-from_ok place octets a front.read in
      let n = span octets in
      let sum : place + n + length rest ≡ place + step =
      omega (arith, ap length front.left, length-append rest tail, length-drop step octets, length-drop n octets, read.inside) in
      let avps : IsAvps (take (length rest) (rest ++ tail)) before = subst (λ (o : List ℕ). IsAvps o before) (sym (take_at rest tail (length rest) refl)) is.2 in
      let behind = drop_at rest tail (length rest) refl in
      let fails' : read_avp (place + n + length rest) (drop (length rest) (rest ++ tail)) ≡ Err fault =
      ap (λ (k : ℕ). read_avp k (drop (length rest) (rest ++ tail))) sum ∙ ap (λ (o : List ℕ). read_avp (place + step) o) behind ∙ fails in
      let r = items-up_to before (place + n) (rest ++ tail) (length rest) avps (omega (arith, length-append rest tail)) (subst (λ (o : List ℕ). 0 < length o) (sym behind) some) fails' in
      items_at-ok place octets a front.read
      ∙ ap (λ (o : List ℕ). Ok a ∷ items_at (place + n) o) front.left
      ∙ ap (λ (items : List (Result AvpParts AvpFault)). Ok a ∷ items) r

-- ---- the laws

fault-stands : (octets : List ℕ) (fault : AvpFault) (step : ℕ) → Reaches octets step → 0 < length (drop step octets) → Wrong (drop step octets) (0 + step) fault → IsFault octets fault
fault-stands octets (Short p) step reaches some wrong =
    let e : step ≡ p = omega (arith, wrong.0) in
    subst (λ (k : ℕ). Reaches octets k × (0 < length (drop k octets)) × (length (drop k octets) < 8)) e (reaches, some, wrong.1)
fault-stands octets (BadLength p) step reaches some wrong =
    let e : step ≡ p = omega (arith, wrong.0) in
    subst (λ (k : ℕ). Reaches octets k × (8 ≤ length (drop k octets)) × HasBadLength (drop k octets)) e (reaches, wrong.1, wrong.2)

pub IsFault-from_found : (octets : List ℕ) (fault : AvpFault) → AreOctets octets → avps_fault octets ≡ Some fault → IsFault octets fault
unfolding avp_items
IsFault-from_found octets fault are found =
    let f = fails-from fault (length octets) 0 octets (omega arith) are found in
    fault-stands octets fault f.step f.reaches f.some (Wrong-from_err (drop f.step octets) (0 + f.step) fault f.fails)

fails-there : (octets : List ℕ) (fault : AvpFault) → IsFault octets fault → (0 < length (drop (place_of fault) octets)) × (read_avp (0 + place_of fault) (drop (place_of fault) octets) ≡ Err fault)
fails-there octets (Short p) is =
    let at : 0 + p ≡ p = omega arith in
    (is.1, ap (λ (k : ℕ). read_avp k (drop p octets)) at ∙ err-short (drop p octets) p is.2)
fails-there octets (BadLength p) is =
    let at : 0 + p ≡ p = omega arith in
    (omega (arith, is.1), ap (λ (k : ℕ). read_avp k (drop p octets)) at ∙ err-length (drop p octets) p is.1 is.2)

reaches-fault : (octets : List ℕ) (fault : AvpFault) → IsFault octets fault → Reaches octets (place_of fault)
reaches-fault octets (Short p) is = is.0
reaches-fault octets (BadLength p) is = is.0

pub HoldUpTo-from_IsFault : (octets : List ℕ) (fault : AvpFault) → IsFault octets fault → HoldUpTo octets fault (avp_items octets)
unfolding avp_items
HoldUpTo-from_IsFault octets fault is =
    let r = reaches-fault octets fault is in
    let f = fails-there octets fault is in
    record { before = r.before; avps = r.avps; held = items-up_to fault r.before 0 octets (place_of fault) r.avps r.inside f.0 f.1 }

fault_of-up_to : (before : List AvpParts) (fault : AvpFault) → fault_of (map (λ a. Ok a) before ++ Err fault ∷ []) ≡ Some fault
fault_of-up_to [] fault = refl
fault_of-up_to (a ∷ before) fault = fault_of-up_to before fault

ok_prefix-up_to : (before : List AvpParts) (fault : AvpFault) → ok_prefix (map (λ a. Ok a) before ++ Err fault ∷ []) ≡ before
ok_prefix-up_to [] fault = refl
ok_prefix-up_to (a ∷ before) fault = ap (λ (others : List AvpParts). a ∷ others) (ok_prefix-up_to before fault)

pub found-from_IsFault : (octets : List ℕ) (fault : AvpFault) → IsFault octets fault → avps_fault octets ≡ Some fault
found-from_IsFault octets fault is =
    let h = HoldUpTo-from_IsFault octets fault is in
    ap fault_of h.held ∙ fault_of-up_to h.before fault

pub IsAvps-before_fault : (octets : List ℕ) (fault : AvpFault) → IsFault octets fault → IsAvps (take (place_of fault) octets) (readable_avps octets)
IsAvps-before_fault octets fault is =
    let h = HoldUpTo-from_IsFault octets fault is in
    let e : readable_avps octets ≡ h.before = ap (λ (items : List (Result AvpParts AvpFault)). ok_prefix items) h.held ∙ ok_prefix-up_to h.before fault in
    subst (λ (avps : List AvpParts). IsAvps (take (place_of fault) octets) avps) (sym e) h.avps
