-- Keys whose parts are equal are the same.
use Rattle.std.proofs.Common.{◌≡◌, ℕ, true, List, refl, ◌∙◌, ap}
use Rattle.std.proofs.lemmas.Bool.{and_parts, eqb-true}
use Rattle.std.specs.Cmp.Lexicographic.{bytes_decides}
use Rattle.radius_packet.specs.declared.reasons.Via.{Via}
use Rattle.radius_packet.specs.declared.reasons.Via.TheVariants.{Auth, Acct}
use Rattle.pending_table.specs.declared.key.Key.{Key}
use Rattle.pending_table.specs.Table.{same_via, same_key}

same_via-equal : (v w : Via) → same_via v w ≡ true → v ≡ w
same_via-equal Auth Auth e = refl
same_via-equal Acct Acct e = refl
same_via-equal Auth Acct e = absurd (cc)
same_via-equal Acct Auth e = absurd (cc)

abbrev of_parts : Via → ℕ → ℕ → List ℕ → Key
of_parts via address port octets = record { via = via; address = address; port = port; octets = octets }

pub same_key-equal : (k l : Key) → same_key k l ≡ true → k ≡ l
same_key-equal k l e =
    let three = and_parts _ _ e in
    let two = and_parts _ _ three.0 in
    let one = and_parts _ _ two.0 in
    ap (λ v. of_parts v k.address k.port k.octets) (same_via-equal k.via l.via one.0)
    ∙ ap (λ a. of_parts l.via a k.port k.octets) (eqb-true _ _ one.1)
    ∙ ap (λ p. of_parts l.via l.address p k.octets) (eqb-true _ _ two.1)
    ∙ ap (λ o. of_parts l.via l.address l.port o) ((bytes_decides k.octets l.octets).0 three.1)
