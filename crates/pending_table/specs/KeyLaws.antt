-- Keys whose four parts are equal are the same, so the test is an equivalence.
use Rattle.std.proofs.Common.{◌≡◌, ℕ, Bool, true, false, ◌==◌, List, refl, ap, sym, ◌∙◌, arith}
use Rattle.std.proofs.lemmas.Bool.{and_parts, eqb-true}
use Rattle.std.specs.Cmp.{IsEquivalence}
use Rattle.std.specs.Cmp.Lexicographic.{bytes_decides}
use Rattle.radius_packet.specs.declared.reasons.Via.{Via}
use Rattle.radius_packet.specs.declared.reasons.Via.TheVariants.{Auth, Acct}
use Rattle.pending_table.specs.declared.key.Key.{Key}
use Rattle.pending_table.specs.Table.{same_via, same_key}

same_via-equal : (v w : Via) → same_via v w ≡ true → v ≡ w
same_via-equal Auth Auth e = refl
same_via-equal Acct Acct e = refl
same_via-equal Auth Acct e = absurd (cc)
same_via-equal Acct Auth e = absurd (cc)

abbrev key_of : Via → ℕ → ℕ → List ℕ → Key
key_of via address port octets = record { via = via; address = address; port = port; octets = octets }

pub same_key-equal : (k l : Key) → same_key k l ≡ true → k ≡ l
same_key-equal k l e =
    let three = and_parts _ _ e in
    let two = and_parts _ _ three.0 in
    let one = and_parts _ _ two.0 in
    ap (λ v. key_of v k.address k.port k.octets) (same_via-equal k.via l.via one.0)
    ∙ ap (λ a. key_of l.via a k.port k.octets) (eqb-true _ _ one.1)
    ∙ ap (λ p. key_of l.via l.address p k.octets) (eqb-true _ _ two.1)
    ∙ ap (λ o. key_of l.via l.address l.port o) ((bytes_decides k.octets l.octets).0 three.1)

same_via-refl : (v : Via) → same_via v v ≡ true
same_via-refl Auth = refl
same_via-refl Acct = refl

pub same_key-refl : (k : Key) → same_key k k ≡ true
same_key-refl k =
    let address : (k.address == k.address) ≡ true = grind arith in
    let port : (k.port == k.port) ≡ true = grind arith in
    rw (same_via-refl k.via, address, port) ((bytes_decides k.octets k.octets).1 refl)

both_ways : (a b : Bool) → (a ≡ true → b ≡ true) → (b ≡ true → a ≡ true) → a ≡ b
both_ways true b f g = sym (f refl)
both_ways false true f g = g refl
both_ways false false f g = refl

pub same_key_equiv : IsEquivalence same_key
same_key_equiv = record {
  refl = same_key-refl;
  symm = λ k l. both_ways (same_key k l) (same_key l k) (λ e. ap (λ m. same_key m k) (sym (same_key-equal k l e)) ∙ same_key-refl k) (λ e. ap (λ m. same_key m l) (sym (same_key-equal l k e)) ∙ same_key-refl l);
  congr = λ k l m e. ap (λ n. same_key n m) (same_key-equal k l e);
}
