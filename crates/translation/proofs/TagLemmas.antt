-- What a tagged attribute reads as.
use Rattle.std.proofs.Common.{◌≡◌, ℕ, ◌≤◌, Bool, true, false, cond, eqb, ◌&&◌, inl, inr, List, [], ◌∷◌, length, Option, Some, None, refl, subst, arith, length-set}
use Rattle.std.proofs.lemmas.Bool.{cases_Bool, and_parts, eqb-true, leb-true}
use Rattle.tunnel_map.specs.Tagged.{TaggedParts, is_number, is_text, is_tag, number_in, text_in, reading}
use Rattle.tunnel_map.specs.Groups.{member}
use Rattle.translation.specs.declared.direction.Direction.{Direction}
use Rattle.translation.specs.declared.direction.Direction.TheVariants.{Access, Accounting}
use Rattle.translation.specs.Images.{carrier_code}
use Rattle.translation.specs.Passing.{tags_with}

-- its tag is at most 31, and its member is no longer than its value
abbrev Fits : List ℕ → TaggedParts → Type 0
Fits value t = (t.tag ≤ 31) × (length (member t).body ≤ length value)

-- what is found where a test holds
found : (b : Bool) (t u : TaggedParts) → cond b (Some t) None ≡ Some u → (b ≡ true) × (t ≡ u)
found true t u e = (refl, cc)
found false t u e = absurd cc

number-fits : (code : ℕ) (value : List ℕ) (t : TaggedParts) → number_in code value ≡ Some t → Fits value t
number-fits code [] t e = absurd cc
number-fits code (tag ∷ body) t e =
    let is = found (is_tag tag && eqb (length body) 3) _ t e in
    let small : tag ≤ 31 = leb-true tag 31 (and_parts (is_tag tag) (eqb (length body) 3) is.0).0 in
    let long : length (0 ∷ body) ≤ length (tag ∷ body) = omega arith in
    subst (Fits (tag ∷ body)) is.1 (small, long)

text-fits : (code : ℕ) (value : List ℕ) → Fits value (text_in code value)
text-fits code [] = (omega arith, omega arith)
text-fits code (first ∷ rest) =
    elim (cases_Bool (is_tag first)) [
      | inl tag ↦ rw tag (leb-true first 31 tag, omega arith)
      | inr other ↦ rw other (omega arith, omega arith)
    ]

reading-fits : (code : ℕ) (value : List ℕ) (t : TaggedParts) → reading code value ≡ Some t → Fits value t
reading-fits code value t e =
    elim (cases_Bool (is_number code)) [
      | inl number ↦ number-fits code value t (rw number at e)
      | inr other ↦
          elim (cases_Bool (is_text code)) [
            | inl words ↦ (let some = rw (other, words) at e in
                let same : text_in code value ≡ t = cc in
                subst (Fits value) same (text-fits code value))
            | inr none ↦ absurd (let nothing = rw (other, none) at e in cc)
          ]
    ]

pub reading-tag : (code : ℕ) (value : List ℕ) (t : TaggedParts) → reading code value ≡ Some t → t.tag ≤ 31
reading-tag code value t e = (reading-fits code value t e).0

pub member-length : (code : ℕ) (value : List ℕ) (t : TaggedParts) → reading code value ≡ Some t → length (member t).body ≤ length value
member-length code value t e = (reading-fits code value t e).1

-- a tag that is noted needs no further place
pub tags-size : (tags : List Bool) (r : Option TaggedParts) → length (tags_with tags r) ≡ length tags
tags-size tags None = refl
tags-size tags (Some t) = length-set tags t.tag true

-- neither a carrier nor a Vendor-Specific attribute is tagged
pub reading-carrier : (direction : Direction) (code : ℕ) (value : List ℕ) → eqb code (carrier_code direction) ≡ true → reading code value ≡ None
reading-carrier Access code value e = rw (eqb-true code 24 e) refl
reading-carrier Accounting code value e = rw (eqb-true code 25 e) refl

pub reading-vendor : (code : ℕ) (value : List ℕ) → eqb code 26 ≡ true → reading code value ≡ None
reading-vendor code value e = rw (eqb-true code 26 e) refl
