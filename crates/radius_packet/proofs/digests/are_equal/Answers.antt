use Rattle.std.proofs.Common.{◌≡◌, ◌≢◌, ◌==◌, ◌&&◌, ℕ, Bool, false, nat_eq, List, ◌∷◌, length, refl, sym, ap, ◌∙◌, inl, inr, arith}
use Rattle.std.specs.Prelude.{bit_or, bit_xor}
use Rattle.std.specs.Int.Bits.{or_zero_l, xor_self, xor_add_and}
use Rattle.std.specs.Cmp.Lexicographic.{pointwise}
use Rattle.std.proofs.Math.Bool.{and_assoc}
use Rattle.std.proofs.lemmas.Bool.Decides.{eqb_tells}
use Rattle.std.proofs.lemmas.Nat.{le_or_l, and_le_l, and_le_r}
use Rattle.radius_packet.proofs.digests.are_equal.Goals as goal

same_octets : (x y : ℕ) → bit_xor x y ≡ 0 → x ≡ y
same_octets x y e = omega (arith, e, xor_add_and x y, and_le_l x y, and_le_r x y)

is_false : (n : ℕ) → n ≢ 0 → (n == 0) ≡ false
is_false n some = elim (eqb_tells n 0) [
  | inl none ↦ absurd (some none.1)
  | inr other ↦ other.0
]

-- up to and with an octet there is no difference where there is none before it and none there
one_octet : (d x y : ℕ) → (bit_or d (bit_xor x y) == 0) ≡ (d == 0 && nat_eq x y)
one_octet d x y = elim (eqb_tells d 0) [
  | inl none ↦
      let here : bit_or d (bit_xor x y) ≡ bit_xor x y = ap (λ (n : ℕ). bit_or n (bit_xor x y)) none.1 ∙ or_zero_l (bit_xor x y) in
      elim (eqb_tells x y) [
        | inl same ↦
            let zero : bit_or d (bit_xor x y) ≡ 0 = here ∙ ap (λ (n : ℕ). bit_xor n y) same.1 ∙ xor_self y in
            rw (zero, none.0, same.0) refl
        | inr other ↦
            let some : bit_or d (bit_xor x y) ≢ 0 = λ e. other.1 (same_octets x y (sym here ∙ e)) in
            rw (is_false (bit_or d (bit_xor x y)) some, none.0, other.0) refl
      ]
  | inr earlier ↦
      let some : bit_or d (bit_xor x y) ≢ 0 = λ e. earlier.1 (omega (arith, e, le_or_l d (bit_xor x y))) in
      rw (is_false (bit_or d (bit_xor x y)) some, earlier.0) refl
]

one_more : (d x y : ℕ) (left right xs ys : List ℕ) (p : Bool) → left ≡ x ∷ xs → right ≡ y ∷ ys → (d == 0 && pointwise nat_eq left right) ≡ p
    → (bit_or d (bit_xor x y) == 0 && pointwise nat_eq xs ys) ≡ p
one_more d x y left right xs ys p e f so_far =
    ap (λ (b : Bool). b && pointwise nat_eq xs ys) (one_octet d x y)
    ∙ and_assoc (d == 0) (nat_eq x y) (pointwise nat_eq xs ys)
    ∙ ap (λ (zs : List ℕ). d == 0 && pointwise nat_eq zs (y ∷ ys)) (sym e)
    ∙ ap (λ (zs : List ℕ). d == 0 && pointwise nat_eq left zs) (sym f)
    ∙ so_far

pub loop-x-preserved : goal.loop-x-preserved
loop-x-preserved c =
    let s = c.in-Some.ensures.steps in
    record {
      size = omega (arith, ap length s.0, ap length s.1, c.loop-x.invariant.size);
      equal = one_more c.loop-x.difference c.in-Some.x.now c.in-Some.y.now _ _ _ _ _ s.0 s.1 c.loop-x.invariant.equal;
    }
