-- Keys whose two parts are equal are the same, so the test is an equivalence.
use Rattle.std.proofs.Common.{◌≡◌, ℕ, Bool, true, false, nat_eq, ◌==◌, List, refl, ap, sym, ◌∙◌, arith}
use Rattle.std.proofs.lemmas.Bool.{and_parts, eqb-true}
use Rattle.std.specs.Cmp.{IsEquivalence}
use Rattle.std.specs.Cmp.Lexicographic.{pointwise, bytes_decides}
use Rattle.reverse_core.specs.declared.key.Key.{Key}
use Rattle.reverse_core.specs.Keys.{same_key}

abbrev key_with : List ℕ → ℕ → Key
key_with host end = record { host = host; end = end }

pub same_key-equal : (k l : Key) → same_key k l ≡ true → k ≡ l
same_key-equal k l e =
    let parts = and_parts _ _ e in
    ap (λ h. key_with h k.end) ((bytes_decides k.host l.host).0 parts.0) ∙ ap (λ n. key_with l.host n) (eqb-true _ _ parts.1)

pub same_key-refl : (k : Key) → same_key k k ≡ true
same_key-refl k =
    let end : (k.end == k.end) ≡ true = grind arith in
    let host : pointwise nat_eq k.host k.host ≡ true = (bytes_decides k.host k.host).1 refl in
    rw (end, host) refl

both_ways : (a b : Bool) → (a ≡ true → b ≡ true) → (b ≡ true → a ≡ true) → a ≡ b
both_ways true b f g = sym (f refl)
both_ways false true f g = g refl
both_ways false false f g = refl

pub same_key_equiv : IsEquivalence same_key
same_key_equiv = record {
  refl = same_key-refl;
  symm = λ k l. both_ways (same_key k l) (same_key l k) (λ e. ap (λ m. same_key m k) (sym (same_key-equal k l e)) ∙ same_key-refl k) (λ e. ap (λ m. same_key m l) (sym (same_key-equal l k e)) ∙ same_key-refl l);
  congr = λ k l m e. ap (λ n. same_key n m) (same_key-equal k l e);
}
