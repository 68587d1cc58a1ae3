-- Rows and images, for the crates above.
use Rattle.std.proofs.Common.{◌≡◌, ℕ, ◌+◌, ◌-◌, ◌%◌, ◌^◌, ◌<◌, ◌≤◌, Bool, true, false, cond, eqb, inl, inr, List, [], ◌∷◌, length, ap, arith, Result, Ok, Err, Some, refl, sym, subst, ◌∙◌}
use Rattle.std.specs.List.{list_all, find}
use Rattle.std.proofs.lemmas.Bool.{and_parts, cases_Bool, eqb-true, le-ltb, ltb-false}
use Rattle.std.proofs.lemmas.List.Elements.{All-head, All-tail}
use Rattle.std.specs.Prelude.{nat_lt}
use Rattle.wire_core.proofs.NumberLemmas.{number-4, number-u32, u32-number}
use Rattle.attribute_table.specs.declared.image.RowFault.TheVariants.{TooLong}
use Rattle.wire_core.specs.Numbers.{AreOctets, number, u32}
use Rattle.attribute_table.specs.declared.row.Kind.{Kind}
use Rattle.attribute_table.specs.declared.row.Kind.TheVariants.{Time}
use Rattle.attribute_table.specs.declared.row.Row.{Row}
use Rattle.attribute_table.specs.declared.image.RowFault.{RowFault}
use Rattle.attribute_table.specs.Images.{is_of_kind, kind_fault, diameter_value, forward_image, radius_value, backward_image, ImagesKeepLength, BackwardImagesKeepLength, ImagesGoBack}
use Rattle.attribute_table.specs.Rows.{row_of, row_of_avp, rows, RowsKeepNumbers, RowsMeet}

-- what is found passes the search's test, and each test that all pass
find-passes : (p q : Row → Bool) (xs : List Row) (r : Row) → find p xs ≡ Some r → list_all q xs ≡ true → (p r ≡ true) × (q r ≡ true)
find-passes p q [] r h all = cc
find-passes p q (x ∷ xs) r h all =
    let each = and_parts (q x) (list_all q xs) all in
    elim (cases_Bool (p x)) [
      | inl passed ↦ (let here : Some x ≡ Some r = rw passed at h in
          let same : x ≡ r = cc in
          subst (λ (y : Row). (p y ≡ true) × (q y ≡ true)) same (passed, each.0))
      | inr other ↦ find-passes p q xs r (rw other at h) each.1
    ]

pub rows_keep_numbers : RowsKeepNumbers
unfolding row_of rows
rows_keep_numbers code r h =
    let found = find-passes (λ (x : Row). eqb x.code code) (λ (x : Row). eqb x.avp x.code) rows r h refl in
    let same = eqb-true r.code code found.0 in
    (same, eqb-true r.avp r.code found.1 ∙ same)

-- what a choice that gives a value has passed
passed : (b : Bool) (fault : RowFault) (r : Result (List ℕ) RowFault) (w : List ℕ) → cond b (Err fault) r ≡ Ok w → (b ≡ false) × (r ≡ Ok w)
passed true fault r w h = absurd cc
passed false fault r w h = (refl, h)

passed_test : (b : Bool) (fault : RowFault) (v w : List ℕ) → cond b (Ok v) (Err fault) ≡ Ok w → (b ≡ true) × (v ≡ w)
passed_test true fault v w h = (refl, cc)
passed_test false fault v w h = absurd cc

length-diameter_value : (kind : Kind) (v : List ℕ) → is_of_kind kind v ≡ true → length (diameter_value kind v) ≡ length v
unfolding u32
length-diameter_value Time v h = sym (eqb-true (length v) 4 h)
length-diameter_value _ v h = refl

pub images_keep_length : ImagesKeepLength
unfolding forward_image
images_keep_length row v w h =
    elim (cases_Bool (is_of_kind row.kind v)) [
      | inl passed ↦ (let here : ◌≡◌ {A = Result (List ℕ) RowFault} (Ok (diameter_value row.kind v)) (Ok w) = rw passed at h in
          let same : diameter_value row.kind v ≡ w = cc in
          subst (λ (x : List ℕ). length x ≡ length v) same (length-diameter_value row.kind v passed))
      | inr other ↦ (let here : ◌≡◌ {A = Result (List ℕ) RowFault} (Err (kind_fault row.kind)) (Ok w) = rw other at h in cc)
    ]

-- two tests that are one on each element find one element
find-same : (p q : Row → Bool) (xs : List Row) → list_all (λ (x : Row). eqb x.avp x.code) xs ≡ true → ((x : Row) → eqb x.avp x.code ≡ true → p x ≡ q x) → find p xs ≡ find q xs
find-same p q [] all same = refl
find-same p q (x ∷ xs) all same =
    let each = and_parts (eqb x.avp x.code) (list_all (λ (y : Row). eqb y.avp y.code) xs) all in
    rw (same x each.0, find-same p q xs each.1 same) refl

pub rows_meet : RowsMeet
unfolding row_of row_of_avp rows
rows_meet code =
    find-same (λ (x : Row). eqb x.avp code) (λ (x : Row). eqb x.code code) rows refl
    (λ x h. ap (λ n. eqb n code) (eqb-true x.avp x.code h))

length-radius_value : (kind : Kind) (v : List ℕ) → is_of_kind kind v ≡ true → length (radius_value kind v) ≡ length v
unfolding u32
length-radius_value Time v h = sym (eqb-true (length v) 4 h)
length-radius_value _ v h = refl

-- the value that a translation back gives
backward_value : (row : Row) (v w : List ℕ) → backward_image row v ≡ Ok w → (length v ≤ 253) × (is_of_kind row.kind v ≡ true) × (radius_value row.kind v ≡ w)
unfolding backward_image
backward_value row v w h =
    let long = passed (nat_lt 253 (length v)) TooLong _ w h in
    let kind = passed_test (is_of_kind row.kind v) _ (radius_value row.kind v) w long.1 in
    (ltb-false 253 (length v) long.0, kind.0, kind.1)

pub backward_images_keep_length : BackwardImagesKeepLength
backward_images_keep_length row v w h =
    let is = backward_value row v w h in
    let same = sym (ap length is.2) ∙ length-radius_value row.kind v is.1 in
    (same, omega (arith, same, is.0))

-- the value that a translation gives
forward_value : (row : Row) (v w : List ℕ) → forward_image row v ≡ Ok w → (is_of_kind row.kind v ≡ true) × (diameter_value row.kind v ≡ w)
unfolding forward_image
forward_value row v w h = passed_test (is_of_kind row.kind v) _ (diameter_value row.kind v) w h

-- four octets of a time that went both ways
time_back : (v : List ℕ) → AreOctets v → length v ≡ 4 → u32 ((number (u32 ((number v + 2208988800) % 2 ^ 32)) + 2 ^ 32 - 2208988800) % 2 ^ 32) ≡ v
time_back [] octets e = absurd (omega arith)
time_back (a ∷ []) octets e = absurd (omega arith)
time_back (a ∷ b ∷ []) octets e = absurd (omega arith)
time_back (a ∷ b ∷ c ∷ []) octets e = absurd (omega arith)
time_back (a ∷ b ∷ c ∷ d ∷ []) octets e =
    let is_octet : ℕ → Type 0 = λ x. x < 256 in
    let from_b = All-tail is_octet a (b ∷ c ∷ d ∷ []) octets in
    let from_c = All-tail is_octet b (c ∷ d ∷ []) from_b in
    let from_d = All-tail is_octet c (d ∷ []) from_c in
    let a_fits : a < 256 = All-head is_octet a (b ∷ c ∷ d ∷ []) octets in
    let b_fits : b < 256 = All-head is_octet b (c ∷ d ∷ []) from_b in
    let c_fits : c < 256 = All-head is_octet c (d ∷ []) from_c in
    let d_fits : d < 256 = All-head is_octet d [] from_d in
    let n = number (a ∷ b ∷ c ∷ d ∷ []) in
    let fits : n < 2 ^ 32 = omega (arith, number-4 a b c d) in
    let moved : (n + 2208988800) % 2 ^ 32 < 2 ^ 32 = omega arith in
    let there : number (u32 ((n + 2208988800) % 2 ^ 32)) ≡ (n + 2208988800) % 2 ^ 32 = number-u32 _ moved in
    let back : ((n + 2208988800) % 2 ^ 32 + 2 ^ 32 - 2208988800) % 2 ^ 32 ≡ n = omega arith in
    ap (λ m. u32 ((m + 2 ^ 32 - 2208988800) % 2 ^ 32)) there ∙ ap u32 back ∙ u32-number a b c d a_fits b_fits c_fits d_fits
time_back (a ∷ b ∷ c ∷ d ∷ x ∷ rest) octets e = absurd (omega arith)

value_back : (kind : Kind) (v : List ℕ) → AreOctets v → is_of_kind kind v ≡ true → radius_value kind (diameter_value kind v) ≡ v
value_back Time v octets h = time_back v octets (eqb-true (length v) 4 h)
value_back _ v octets h = refl

kind_back : (kind : Kind) (v : List ℕ) → is_of_kind kind v ≡ true → is_of_kind kind (diameter_value kind v) ≡ true
unfolding u32
kind_back Time v h = refl
kind_back _ v h = h

pub images_go_back : ImagesGoBack
unfolding backward_image
images_go_back row v w octets short h =
    let is = forward_value row v w h in
    let length_is = length-diameter_value row.kind v is.0 in
    let long : nat_lt 253 (length (diameter_value row.kind v)) ≡ false = le-ltb _ _ (omega (arith, length_is)) in
    let kind = kind_back row.kind v is.0 in
    let value = value_back row.kind v octets is.0 in
    subst (λ (x : List ℕ). backward_image row x ≡ Ok v) is.1
    (rw (long, kind, value) refl)
