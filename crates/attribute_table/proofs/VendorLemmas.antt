-- The parts of a Vendor-Specific attribute, and in how many ways.
use Rattle.std.proofs.Common.{◌≡◌, ℕ, zero, suc, ◌+◌, ◌-◌, ◌^◌, ◌<◌, ◌≤◌, Bool, true, false, ◌&&◌, cond, List, [], ◌∷◌, ◌++◌, length, take, drop, get_or, Option, Some, None, refl, sym, ap, ◌∙◌, subst, inl, inr, arith}
use Rattle.std.specs.Prelude.{nat_le, nat_lt, IfSome, slice_index, All}
use Rattle.std.proofs.lemmas.Bool.{and_from, and_parts, cases_Bool, eqb-true, le-leb, leb-true, le-ltb, lt-ltb, ltb-true}
use Rattle.std.proofs.lemmas.Bool.Decides.{nat_tests}
use Rattle.std.proofs.lemmas.List.{length-append, length-drop, length-take, take_all, take_rest}
use Rattle.std.proofs.lemmas.List.Elements.{All-from_get_or}
use Rattle.std.proofs.lemmas.List.Elements.{All-cons, All-head, All-nil, All-tail}
use Rattle.std.proofs.Math.Seq.{drop-append_seam, take-append_seam}
use Rattle.wire_core.specs.Numbers.{AreOctets, number, octets_at, u32}
use Rattle.wire_core.proofs.NumberLemmas.{number-u32, number-4, u32-number}
use Rattle.attribute_table.specs.Vendors.{VendorPart, parts_text, IsPart, IsVendors, are_parts, parts_behind, part_size, vendor_parts, VendorsHaveOneReading}

pub AreOctets-from : (octets : List ℕ) → ((i : ℕ) → get_or octets i 0 < 256) → AreOctets octets
AreOctets-from octets below = All-from_get_or (λ x. x < 256) octets 0 (λ i inside. below i)

-- what a choice gives that gives something, or nothing
chosen : {A : Type 0} (b : Bool) (x y : A) → cond b (Some x) None ≡ Some y → (b ≡ true) × (x ≡ y)
chosen true x y e = (refl, cc)
chosen false x y e = absurd cc

passed_over : {A : Type 0} (b : Bool) (x : A) → cond b (Some x) None ≡ None → b ≡ false
passed_over true x e = absurd cc
passed_over false x e = refl

-- ---- octets that are passed over

are_parts-behind : (n : ℕ) (octets : List ℕ) → n ≤ length octets → are_parts n octets ≡ are_parts 0 (drop n octets)
unfolding are_parts
are_parts-behind zero octets h = refl
are_parts-behind (suc n) [] h = absurd (omega arith)
are_parts-behind (suc n) (x ∷ octets) h = are_parts-behind n octets (omega arith)

are_parts-short : (n : ℕ) (octets : List ℕ) → are_parts n octets ≡ true → n ≤ length octets
unfolding are_parts
are_parts-short zero octets h = omega arith
are_parts-short (suc n) [] h = omega (arith, eqb-true (suc n) 0 h)
are_parts-short (suc n) (x ∷ octets) h = let more = are_parts-short n octets h in omega arith

parts_behind-behind : (vendor n : ℕ) (octets : List ℕ) → parts_behind vendor n octets ≡ parts_behind vendor 0 (drop n octets)
unfolding parts_behind
parts_behind-behind vendor zero octets = refl
parts_behind-behind vendor (suc n) [] = refl
parts_behind-behind vendor (suc n) (x ∷ octets) = parts_behind-behind vendor n octets

drop-two : (n x y : ℕ) (octets : List ℕ) → 2 ≤ n → drop n (x ∷ y ∷ octets) ≡ drop (n - 2) octets
drop-two zero x y octets h = absurd (omega arith)
drop-two (suc zero) x y octets h = absurd (omega arith)
drop-two (suc (suc n)) x y octets h =
    let e : n ≡ suc (suc n) - 2 = omega arith in
    ap (λ m. drop m octets) e

-- ---- one part

-- a part that is whole has its size in its second octet, and as many octets
part_tests : (octets : List ℕ) (size : ℕ) → part_size octets ≡ Some size → (2 ≤ length octets) × (slice_index octets 1 ≡ size) × (2 ≤ size) × (size ≤ length octets)
part_tests octets size e =
    let is = chosen (nat_le 2 (length octets) && nat_le 2 (slice_index octets 1) && nat_le (slice_index octets 1) (length octets)) (slice_index octets 1) size e in
    let two = and_parts (nat_le 2 (length octets) && nat_le 2 (slice_index octets 1)) (nat_le (slice_index octets 1) (length octets)) is.0 in
    let one = and_parts (nat_le 2 (length octets)) (nat_le 2 (slice_index octets 1)) two.0 in
    let same = is.1 in
    let long = leb-true 2 (length octets) one.0 in
    let least = leb-true 2 (slice_index octets 1) one.1 in
    let inside = leb-true (slice_index octets 1) (length octets) two.1 in
    (long, same, omega arith, omega arith)

pub are_parts-some : (octets : List ℕ) (size : ℕ) → part_size octets ≡ Some size → are_parts 0 octets ≡ are_parts 0 (drop size octets)
unfolding are_parts
are_parts-some [] size e = absurd (omega (arith, (part_tests [] size e).0))
are_parts-some (code ∷ []) size e = absurd (omega (arith, (part_tests (code ∷ []) size e).0))
are_parts-some (code ∷ s ∷ rest) size e =
    let tests = part_tests (code ∷ s ∷ rest) size e in
    let same : s ≡ size = tests.1 in
    let least : 2 ≤ s = omega arith in
    let inside : s - 2 ≤ length rest = omega arith in
    ap (λ (b : Bool). b && are_parts (s - 2) rest) (le-leb 2 s least)
    ∙ are_parts-behind (s - 2) rest inside
    ∙ ap (λ (xs : List ℕ). are_parts 0 xs) (sym (drop-two s code s rest least))
    ∙ ap (λ n. are_parts 0 (drop n (code ∷ s ∷ rest))) same

pub are_parts-none : (octets : List ℕ) → part_size octets ≡ None → 0 < length octets → are_parts 0 octets ≡ false
unfolding are_parts
are_parts-none [] e some = absurd (omega arith)
are_parts-none (code ∷ []) e some = refl
are_parts-none (code ∷ s ∷ rest) e some =
    let failed = passed_over (nat_le 2 (length (code ∷ s ∷ rest)) && nat_le 2 s && nat_le s (length (code ∷ s ∷ rest))) s e in
    elim (cases_Bool (nat_le 2 s && are_parts (s - 2) rest)) [
      | inr broken ↦ broken
      | inl passed ↦
          let both = and_parts (nat_le 2 s) (are_parts (s - 2) rest) passed in
          let least = leb-true 2 s both.0 in
          let short = are_parts-short (s - 2) rest both.1 in
          let inside : s ≤ length (code ∷ s ∷ rest) = omega arith in
          let long : 2 ≤ length (code ∷ s ∷ rest) = omega arith in
          let right = and_from (nat_le 2 (length (code ∷ s ∷ rest)) && nat_le 2 s) (nat_le s (length (code ∷ s ∷ rest))) (and_from _ _ (le-leb _ _ long) both.0) (le-leb _ _ inside) in
          absurd (true_false (sym right ∙ failed))
    ]
  where
    true_false : true ≡ false → ⊥
    true_false h = cc

pub parts_behind-none : (vendor : ℕ) (octets : List ℕ) → part_size octets ≡ None → parts_behind vendor 0 octets ≡ []
unfolding parts_behind
parts_behind-none vendor [] e = refl
parts_behind-none vendor (code ∷ []) e = refl
parts_behind-none vendor (code ∷ s ∷ rest) e =
    let failed = passed_over (nat_le 2 (length (code ∷ s ∷ rest)) && nat_le 2 s && nat_le s (length (code ∷ s ∷ rest))) s e in
    let test : nat_le 2 s && nat_le (s - 2) (length rest) ≡ false = grind (arith, nat_tests) in
    rw test refl

pub parts_behind-some : (vendor : ℕ) (octets : List ℕ) (size : ℕ) → part_size octets ≡ Some size → parts_behind vendor 0 octets ≡ record { vendor = vendor; code = slice_index octets 0; body = take (size - 2) (drop 2 octets) } ∷ parts_behind vendor 0 (drop size octets)
unfolding parts_behind
parts_behind-some vendor [] size e = absurd (omega (arith, (part_tests [] size e).0))
parts_behind-some vendor (code ∷ []) size e = absurd (omega (arith, (part_tests (code ∷ []) size e).0))
parts_behind-some vendor (code ∷ s ∷ rest) size e =
    let tests = part_tests (code ∷ s ∷ rest) size e in
    let same : s ≡ size = tests.1 in
    let least : 2 ≤ s = omega arith in
    let inside : s - 2 ≤ length rest = omega arith in
    let test = and_from (nat_le 2 s) (nat_le (s - 2) (length rest)) (le-leb 2 s least) (le-leb (s - 2) (length rest) inside) in
    let part : ℕ → VendorPart = λ n. record { vendor = vendor; code = code; body = take (n - 2) rest } in
    ap (λ (b : Bool). cond b (part s ∷ parts_behind vendor (s - 2) rest) []) test
    ∙ ap (λ (ps : List VendorPart). part s ∷ ps) (parts_behind-behind vendor (s - 2) rest ∙ ap (λ (xs : List ℕ). parts_behind vendor 0 xs) (sym (drop-two s code s rest least)))
    ∙ ap (λ n. part n ∷ parts_behind vendor 0 (drop n (code ∷ s ∷ rest))) same

take-two : (n x y : ℕ) (octets : List ℕ) → 2 ≤ n → take n (x ∷ y ∷ octets) ≡ x ∷ y ∷ take (n - 2) octets
take-two zero x y octets h = absurd (omega arith)
take-two (suc zero) x y octets h = absurd (omega arith)
take-two (suc (suc n)) x y octets h =
    let e : n ≡ suc (suc n) - 2 = omega arith in
    ap (λ m. x ∷ y ∷ take m octets) e

-- a part as code cuts it from the octets in front
cut_part : ℕ → List ℕ → VendorPart
cut_part vendor front = record { vendor = vendor; code = slice_index front 0; body = take (length front - 2) (drop 2 front) }

cut_part-is : (vendor x y : ℕ) (body : List ℕ) → cut_part vendor (x ∷ y ∷ body) ≡ record { vendor = vendor; code = x; body = body }
unfolding cut_part
cut_part-is vendor x y body =
    let n : length (x ∷ y ∷ body) - 2 ≡ length body = omega arith in
    let part : List ℕ → VendorPart = λ b. record { vendor = vendor; code = x; body = b } in
    ap (λ m. part (take m body)) n ∙ ap part (take_all (length body) body (omega arith))

parts_behind-cut : (vendor : ℕ) (octets : List ℕ) (size : ℕ) (front back : List ℕ) → part_size octets ≡ Some size → front ≡ take size octets → back ≡ drop size octets → parts_behind vendor 0 octets ≡ cut_part vendor front ∷ parts_behind vendor 0 back
parts_behind-cut vendor [] size front back e f b = absurd (omega (arith, (part_tests [] size e).0))
parts_behind-cut vendor (code ∷ []) size front back e f b = absurd (omega (arith, (part_tests (code ∷ []) size e).0))
parts_behind-cut vendor (code ∷ s ∷ rest) size front back e f b =
    let tests = part_tests (code ∷ s ∷ rest) size e in
    let least : 2 ≤ size = tests.2 in
    let cut = ap (cut_part vendor) (f ∙ take-two size code s rest least) ∙ cut_part-is vendor code s (take (size - 2) rest) in
    parts_behind-some vendor (code ∷ s ∷ rest) size e
    ∙ ap (λ (p : VendorPart). p ∷ parts_behind vendor 0 (drop size (code ∷ s ∷ rest))) (sym cut)
    ∙ ap (λ (xs : List ℕ). cut_part vendor front ∷ parts_behind vendor 0 xs) (sym b)

-- the same, in the words of code's slices
pub parts_behind-next : (vendor : ℕ) (octets : List ℕ) (size : ℕ) (front back : List ℕ) → part_size octets ≡ Some size → front ≡ take size octets → back ≡ drop size octets → parts_behind vendor 0 octets ≡ record { vendor = vendor; code = slice_index front 0; body = take (length front - 2) (drop 2 front) } ∷ parts_behind vendor 0 back
unfolding cut_part
parts_behind-next vendor octets size front back e f b = parts_behind-cut vendor octets size front back e f b

pub are_parts-rest : (octets : List ℕ) (size : ℕ) → part_size octets ≡ Some size → are_parts 0 octets ≡ are_parts 0 (take (length octets - size) (drop size octets))
are_parts-rest octets size e = rw (take_rest octets size) (are_parts-some octets size e)

pub part_size-inside : (octets : List ℕ) (size : ℕ) → part_size octets ≡ Some size → (2 ≤ size) × (size ≤ length octets)
part_size-inside octets size e = let tests = part_tests octets size e in (tests.2, tests.3)

pub are_parts-nil : (octets : List ℕ) → length octets ≡ 0 → are_parts 0 octets ≡ true
unfolding are_parts
are_parts-nil [] e = refl
are_parts-nil (x ∷ octets) e = absurd (omega arith)

-- ---- the form

-- parts that were read have the text that they were read from
text_behind : (vendor n : ℕ) (octets : List ℕ) → are_parts n octets ≡ true → octets ≡ take n octets ++ parts_text (parts_behind vendor n octets)
unfolding are_parts parts_behind parts_text
text_behind vendor zero [] h = refl
text_behind vendor (suc n) [] h = absurd (omega (arith, eqb-true (suc n) 0 h))
text_behind vendor (suc n) (x ∷ octets) h = ap (λ (xs : List ℕ). x ∷ xs) (text_behind vendor n octets h)
text_behind vendor zero (code ∷ []) h = absurd cc
text_behind vendor zero (code ∷ s ∷ rest) h =
    let both = and_parts (nat_le 2 s) (are_parts (s - 2) rest) h in
    let least = leb-true 2 s both.0 in
    let short = are_parts-short (s - 2) rest both.1 in
    let later = text_behind vendor (s - 2) rest both.1 in
    let test = and_from (nat_le 2 s) (nat_le (s - 2) (length rest)) both.0 (le-leb (s - 2) (length rest) short) in
    let counted : length (take (s - 2) rest) + 2 ≡ s = omega (arith, length-take (s - 2) rest) in
    let part : VendorPart = record { vendor = vendor; code = code; body = take (s - 2) rest } in
    ap (λ (xs : List ℕ). code ∷ s ∷ xs) later
    ∙ ap (λ n. code ∷ n ∷ (take (s - 2) rest ++ parts_text (parts_behind vendor (s - 2) rest))) (sym counted)
    ∙ ap (λ (b : Bool). parts_text (cond b (part ∷ parts_behind vendor (s - 2) rest) [])) (sym test)

-- their numbers fit octets
each_behind : (vendor n : ℕ) (octets : List ℕ) → AreOctets octets → are_parts n octets ≡ true → All (IsPart vendor) (parts_behind vendor n octets)
unfolding are_parts parts_behind
each_behind vendor n [] fits h = All-nil (IsPart vendor)
each_behind vendor (suc n) (x ∷ octets) fits h = each_behind vendor n octets (All-tail (λ x. x < 256) x octets fits) h
each_behind vendor zero (code ∷ []) fits h = absurd cc
each_behind vendor zero (code ∷ s ∷ rest) fits h =
    let both = and_parts (nat_le 2 s) (are_parts (s - 2) rest) h in
    let least = leb-true 2 s both.0 in
    let short = are_parts-short (s - 2) rest both.1 in
    let fits_behind = All-tail (λ x. x < 256) code (s ∷ rest) fits in
    let code_fits : code < 256 = All-head (λ x. x < 256) code (s ∷ rest) fits in
    let size_fits : s < 256 = All-head (λ x. x < 256) s rest fits_behind in
    let test = and_from (nat_le 2 s) (nat_le (s - 2) (length rest)) both.0 (le-leb (s - 2) (length rest) short) in
    let part : VendorPart = record { vendor = vendor; code = code; body = take (s - 2) rest } in
    let first : IsPart vendor part = record { same_vendor = refl; code = omega arith; counted = omega (arith, length-take (s - 2) rest) } in
    let later = each_behind vendor (s - 2) rest (All-tail (λ x. x < 256) s rest fits_behind) both.1 in
    subst (λ (b : Bool). All (IsPart vendor) (cond b (part ∷ parts_behind vendor (s - 2) rest) [])) (sym test)
    (All-cons (IsPart vendor) part (parts_behind vendor (s - 2) rest) first later)

-- parts are read from their text
read_parts : (vendor : ℕ) (parts : List VendorPart) → All (IsPart vendor) parts → (are_parts 0 (parts_text parts) ≡ true) × (parts_behind vendor 0 (parts_text parts) ≡ parts)
unfolding are_parts parts_behind parts_text
read_parts vendor [] each = (refl, refl)
read_parts vendor (p ∷ parts) each =
    let first = All-head (IsPart vendor) p parts each in
    let later = read_parts vendor parts (All-tail (IsPart vendor) p parts each) in
    let text = parts_text parts in
    let size = length p.body + 2 in
    let n : size - 2 ≡ length p.body = omega arith in
    let least : nat_le 2 size ≡ true = le-leb 2 size (omega arith) in
    let inside : nat_le (size - 2) (length (p.body ++ text)) ≡ true = le-leb _ _ (omega (arith, length-append p.body text)) in
    let enough : length p.body ≤ length (p.body ++ text) = omega (arith, length-append p.body text) in
    let behind : drop (length p.body) (p.body ++ text) ≡ text = drop-append_seam p.body text in
    let front : take (length p.body) (p.body ++ text) ≡ p.body = take-append_seam p.body text in
    let are = are_parts-behind (length p.body) (p.body ++ text) enough ∙ ap (λ (xs : List ℕ). are_parts 0 xs) behind ∙ later.0 in
    let read = parts_behind-behind vendor (length p.body) (p.body ++ text) ∙ ap (λ (xs : List ℕ). parts_behind vendor 0 xs) behind ∙ later.1 in
    let part : ℕ → VendorPart = λ m. record { vendor = vendor; code = p.code; body = take m (p.body ++ text) } in (
      and_from (nat_le 2 size) (are_parts (size - 2) (p.body ++ text)) least (ap (λ m. are_parts m (p.body ++ text)) n ∙ are),
      ap (λ (b : Bool). cond b (part (size - 2) ∷ parts_behind vendor (size - 2) (p.body ++ text)) []) (and_from _ _ least inside)
          ∙ ap (λ m. part m ∷ parts_behind vendor m (p.body ++ text)) n
          ∙ ap (λ (xs : List ℕ). (let q : VendorPart = record { vendor = vendor; code = p.code; body = xs } in q) ∷ parts_behind vendor (length p.body) (p.body ++ text)) front
          ∙ ap (λ v. (let q : VendorPart = record { vendor = v; code = p.code; body = p.body } in q) ∷ parts_behind vendor (length p.body) (p.body ++ text)) (sym first.same_vendor)
          ∙ ap (λ (ps : List VendorPart). p ∷ ps) read,
    )

some_text : (p : VendorPart) (parts : List VendorPart) → 0 < length (parts_text (p ∷ parts))
unfolding parts_text
some_text p parts = omega arith

-- a value with parts is read as them
read_text : (vendor : ℕ) (p : VendorPart) (parts : List VendorPart) → vendor < 2 ^ 32 → All (IsPart vendor) (p ∷ parts) → vendor_parts (u32 vendor ++ parts_text (p ∷ parts)) ≡ Some (p ∷ parts)
unfolding vendor_parts u32
read_text vendor p parts fits each =
    let text = parts_text (p ∷ parts) in
    let read = read_parts vendor (p ∷ parts) each in
    let long : nat_lt 4 (length (u32 vendor ++ text)) ≡ true = lt-ltb _ _ (omega (arith, some_text p parts)) in
    let test = and_from (nat_lt 4 (length (u32 vendor ++ text))) (are_parts 0 text) long read.0 in
    ap (λ (b : Bool). cond b (Some (parts_behind (number (u32 vendor)) 0 text)) None) test
    ∙ ap (λ n. Some (parts_behind n 0 text)) (number-u32 vendor fits)
    ∙ ap (λ (ps : List VendorPart). Some ps) read.1

pub vendor_parts-only : (value : List ℕ) (parts : List VendorPart) → IsVendors value parts → vendor_parts value ≡ Some parts
vendor_parts-only value [] is = absurd (omega (arith, is.some))
vendor_parts-only value (p ∷ parts) is = ap vendor_parts is.text ∙ read_text is.vendor p parts is.fits is.each

-- octets that are not none have a part
some_parts : (octets : List ℕ) (parts : List VendorPart) → octets ≡ parts_text parts → 0 < length octets → 0 < length parts
unfolding parts_text
some_parts octets [] e some = absurd (omega (arith, ap length e))
some_parts octets (p ∷ parts) e some = omega arith

vendors_of : (a b c d : ℕ) (rest : List ℕ) → AreOctets (a ∷ b ∷ c ∷ d ∷ rest) → 0 < length rest → are_parts 0 rest ≡ true → IsVendors (a ∷ b ∷ c ∷ d ∷ rest) (parts_behind (number (a ∷ b ∷ c ∷ d ∷ [])) 0 rest)
vendors_of a b c d rest fits some are =
    let vendor = number (a ∷ b ∷ c ∷ d ∷ []) in
    let is_octet : ℕ → Type 0 = λ x. x < 256 in
    let from_b = All-tail is_octet a (b ∷ c ∷ d ∷ rest) fits in
    let from_c = All-tail is_octet b (c ∷ d ∷ rest) from_b in
    let from_d = All-tail is_octet c (d ∷ rest) from_c in
    let behind = All-tail is_octet d rest from_d in
    let a_fits : a < 256 = All-head is_octet a (b ∷ c ∷ d ∷ rest) fits in
    let b_fits : b < 256 = All-head is_octet b (c ∷ d ∷ rest) from_b in
    let c_fits : c < 256 = All-head is_octet c (d ∷ rest) from_c in
    let d_fits : d < 256 = All-head is_octet d rest from_d in
    let text : rest ≡ parts_text (parts_behind vendor 0 rest) = text_behind vendor 0 rest are in
    record {
      vendor = vendor;
      fits = omega (arith, number-4 a b c d);
      some = some_parts rest (parts_behind vendor 0 rest) text some;
      each = each_behind vendor 0 rest behind are;
      text = ap (λ (xs : List ℕ). a ∷ b ∷ c ∷ d ∷ xs) text ∙ ap (λ (xs : List ℕ). xs ++ parts_text (parts_behind vendor 0 rest)) (sym (u32-number a b c d a_fits b_fits c_fits d_fits));
    }

pub vendor_parts-is : (value : List ℕ) (parts : List VendorPart) → AreOctets value → vendor_parts value ≡ Some parts → IsVendors value parts
unfolding vendor_parts
vendor_parts-is [] parts fits e = absurd cc
vendor_parts-is (a ∷ []) parts fits e = absurd cc
vendor_parts-is (a ∷ b ∷ []) parts fits e = absurd cc
vendor_parts-is (a ∷ b ∷ c ∷ []) parts fits e = absurd cc
vendor_parts-is (a ∷ b ∷ c ∷ d ∷ rest) parts fits e =
    let octets : List ℕ = a ∷ b ∷ c ∷ d ∷ rest in
    let is = chosen (nat_lt 4 (length octets) && are_parts 0 rest) (parts_behind (number (a ∷ b ∷ c ∷ d ∷ [])) 0 rest) parts e in
    let both = and_parts (nat_lt 4 (length octets)) (are_parts 0 rest) is.0 in
    let long : 4 < length octets = ltb-true 4 (length octets) both.0 in
    subst (λ (ps : List VendorPart). IsVendors octets ps) is.1 (vendors_of a b c d rest fits (omega arith) both.1)

-- what a reader keeps that gives exactly this
pub record ReadsVendors (r : Option (List VendorPart)) (value : List ℕ) : Type 0 where
  pub exact : r ≡ vendor_parts value
  pub found : IfSome r (λ parts. IsVendors value parts)
  pub only : (parts : List VendorPart) → IsVendors value parts → r ≡ Some parts

vendors_found : (r : Option (List VendorPart)) (value : List ℕ) → AreOctets value → r ≡ vendor_parts value → IfSome r (λ parts. IsVendors value parts)
vendors_found None value fits e = tt
vendors_found (Some parts) value fits e = vendor_parts-is value parts fits (sym e)

pub reads_vendors : (r : Option (List VendorPart)) (value : List ℕ) → AreOctets value → r ≡ vendor_parts value → ReadsVendors r value
reads_vendors r value fits e = record { exact = e; found = vendors_found r value fits e; only = λ parts is. e ∙ vendor_parts-only value parts is }

pub vendor_parts-short : (value : List ℕ) → length value < 4 → vendor_parts value ≡ None
unfolding vendor_parts
vendor_parts-short value short =
    let test : nat_lt 4 (length value) ≡ false = le-ltb _ _ (omega arith) in
    ap (λ (b : Bool). cond (b && are_parts 0 (drop 4 value)) (Some (parts_behind (number (octets_at value 0 4)) 0 (drop 4 value))) None) test

pub vendor_parts-empty : (value rest : List ℕ) → rest ≡ drop 4 value → length rest ≡ 0 → vendor_parts value ≡ None
unfolding vendor_parts
vendor_parts-empty value rest e none =
    let test : nat_lt 4 (length value) ≡ false = le-ltb _ _ (omega (arith, length-drop 4 value, ap length e)) in
    ap (λ (b : Bool). cond (b && are_parts 0 (drop 4 value)) (Some (parts_behind (number (octets_at value 0 4)) 0 (drop 4 value))) None) test

pub vendor_parts-read : (value rest : List ℕ) (are : Bool) → rest ≡ drop 4 value → 0 < length rest → are ≡ are_parts 0 rest → vendor_parts value ≡ cond are (Some (parts_behind (number (octets_at value 0 4)) 0 rest)) None
unfolding vendor_parts
vendor_parts-read value rest are e some tested =
    let long : nat_lt 4 (length value) ≡ true = lt-ltb _ _ (omega (arith, length-drop 4 value, ap length e)) in
    ap (λ (b : Bool). cond (b && are_parts 0 (drop 4 value)) (Some (parts_behind (number (octets_at value 0 4)) 0 (drop 4 value))) None) long
    ∙ ap (λ (xs : List ℕ). cond (are_parts 0 xs) (Some (parts_behind (number (octets_at value 0 4)) 0 xs)) None) (sym e)
    ∙ ap (λ (b : Bool). cond b (Some (parts_behind (number (octets_at value 0 4)) 0 rest)) None) (sym tested)

-- the vendor in front
vendor_octets : (value : List ℕ) → octets_at (take 4 value) 0 4 ≡ octets_at value 0 4
vendor_octets [] = refl
vendor_octets (a ∷ []) = refl
vendor_octets (a ∷ b ∷ []) = refl
vendor_octets (a ∷ b ∷ c ∷ []) = refl
vendor_octets (a ∷ b ∷ c ∷ d ∷ rest) = refl

pub vendor_in_front : (value front : List ℕ) → front ≡ take 4 value → number (octets_at front 0 4) ≡ number (octets_at value 0 4)
vendor_in_front value front e = ap number (ap (λ (xs : List ℕ). octets_at xs 0 4) e ∙ vendor_octets value)

some_same : (parts others : List VendorPart) → ◌≡◌ {A = Option (List VendorPart)} (Some parts) (Some others) → parts ≡ others
some_same parts others e = cc

pub vendors_have_one_reading : VendorsHaveOneReading
vendors_have_one_reading value parts others one other =
    some_same parts others (sym (vendor_parts-only value parts one) ∙ vendor_parts-only value others other)
