-- What reading gives, one AVP at a time.
use Rattle.std.proofs.Common.{◌≡◌, ℕ, zero, suc, ◌+◌, ◌-◌, ◌<◌, ◌≤◌, Bool, true, false, cond, List, [], ◌∷◌, length, take, drop, Option, Some, None, Result, Ok, Err, refl, ap, ◌∙◌, arith}
use Rattle.std.proofs.lemmas.Bool.{ltb-false, le-ltb}
use Rattle.std.proofs.lemmas.List.{length-drop, length-take, take_rest}
use Rattle.diameter_avp.specs.declared.fault.AvpFault.{AvpFault}
use Rattle.diameter_avp.specs.Avps.{AvpParts, header_length, vendor_of, length_of, parts_of, span, read_avp, then_items, items_from, items_at}

guard_ok : (b : Bool) (fault : AvpFault) (r : Result AvpParts AvpFault) (a : AvpParts) → cond b (Err fault) r ≡ Ok a → (b ≡ false) × (r ≡ Ok a)
guard_ok true fault r a e = absurd cc
guard_ok false fault r a e = (refl, e)

ok_is : (a b : AvpParts) → (let r : Result AvpParts AvpFault = Ok a in let s : Result AvpParts AvpFault = Ok b in r ≡ s) → a ≡ b
ok_is a b e = cc

-- what is known of an AVP that was read
pub record Reads (octets : List ℕ) (a : AvpParts) : Type 0 where
  pub long : 8 ≤ length octets
  pub header : header_length (vendor_of octets) ≤ length_of octets
  pub inside : span octets ≤ length octets
  pub parts : parts_of octets ≡ a

pub Reads-from_ok : (place : ℕ) (octets : List ℕ) (a : AvpParts) → read_avp place octets ≡ Ok a → Reads octets a
unfolding read_avp
Reads-from_ok place octets a e =
    let long = guard_ok _ _ _ _ e in
    let header = guard_ok _ _ _ _ long.1 in
    let inside = guard_ok _ _ _ _ header.1 in
    record { long = ltb-false _ _ long.0; header = ltb-false _ _ header.0; inside = ltb-false _ _ inside.0; parts = ok_is _ _ inside.1 }

pub read_avp-ok : (place : ℕ) (octets : List ℕ) → 8 ≤ length octets → header_length (vendor_of octets) ≤ length_of octets → span octets ≤ length octets → read_avp place octets ≡ Ok (parts_of octets)
unfolding read_avp
read_avp-ok place octets long header inside =
    let long' = le-ltb _ _ long in
    let header' = le-ltb _ _ header in
    let inside' = le-ltb _ _ inside in
    rw (long', header', inside') refl

pub header_length-least : (vendor : Option ℕ) → 8 ≤ header_length vendor
header_length-least None = omega arith
header_length-least (Some v) = omega arith

pub span-least : (place : ℕ) (octets : List ℕ) (a : AvpParts) → read_avp place octets ≡ Ok a → 8 ≤ span octets
span-least place octets a e =
    omega (arith, (Reads-from_ok place octets a e).header, header_length-least (vendor_of octets))

-- ---- items

then_items-same : (r : Result AvpParts AvpFault) (xs ys : List (Result AvpParts AvpFault)) → ((a : AvpParts) → r ≡ Ok a → xs ≡ ys) → then_items r xs ≡ then_items r ys
then_items-same (Ok a) xs ys same = ap (λ (items : List (Result AvpParts AvpFault)). Ok a ∷ items) (same a refl)
then_items-same (Err fault) xs ys same = refl

-- any count that is at least that of the octets gives the same items
items_from-enough : (m n place : ℕ) (octets : List ℕ) → length octets ≤ m → length octets ≤ n → items_from m place octets ≡ items_from n place octets
unfolding items_from
items_from-enough m n place [] p q = refl
items_from-enough zero n place (x ∷ octets) p q = absurd (omega arith)
items_from-enough (suc m) zero place (x ∷ octets) p q = absurd (omega arith)
items_from-enough (suc m) (suc n) place (x ∷ octets) p q =
    let o : List ℕ = x ∷ octets in
    then_items-same (read_avp place o) _ _ (λ a e.
    let least = span-least place o a e in
    let shorter = length-drop (span o) o in
    items_from-enough m n (place + span o) (drop (span o) o) (omega arith) (omega arith))

pub items_at-none : (place : ℕ) (octets : List ℕ) → length octets ≡ 0 → items_at place octets ≡ []
unfolding items_at items_from
items_at-none place [] e = refl
items_at-none place (x ∷ octets) e = absurd (omega arith)

pub items_at-ok : (place : ℕ) (octets : List ℕ) (a : AvpParts) → read_avp place octets ≡ Ok a → items_at place octets ≡ Ok a ∷ items_at (place + span octets) (drop (span octets) octets)
unfolding items_at items_from
items_at-ok place [] a e = absurd (omega (arith, (Reads-from_ok place [] a e).long))
items_at-ok place (x ∷ octets) a e =
    let o : List ℕ = x ∷ octets in
    let least = span-least place o a e in
    let shorter = length-drop (span o) o in
    ap (λ (r : Result AvpParts AvpFault). then_items r (items_from (length octets) (place + span o) (drop (span o) o))) e
    ∙ ap (λ (items : List (Result AvpParts AvpFault)). Ok a ∷ items) (items_from-enough (length octets) (length (drop (span o) o)) (place + span o) (drop (span o) o) (omega arith) (omega arith))

pub items_at-err : (place : ℕ) (octets : List ℕ) (fault : AvpFault) → 0 < length octets → read_avp place octets ≡ Err fault → items_at place octets ≡ Err fault ∷ []
unfolding items_at items_from
items_at-err place [] fault some e = absurd (omega arith)
items_at-err place (x ∷ octets) fault some e =
    ap (λ (r : Result AvpParts AvpFault). then_items r (items_from (length octets) (place + span (x ∷ octets)) (drop (span (x ∷ octets)) (x ∷ octets)))) e

-- the same, with what is left as code's slices have it
pub items_at-read : (place : ℕ) (octets : List ℕ) (a : AvpParts) (n : ℕ) → read_avp place octets ≡ Ok a → n ≡ span octets → items_at place octets ≡ Ok a ∷ items_at (place + n) (take (length octets - n) (drop n octets))
items_at-read place octets a n read e = rw (take_rest octets n, e) (items_at-ok place octets a read)

pub items_at-fault : (place : ℕ) (octets : List ℕ) (fault : AvpFault) → 0 < length octets → read_avp place octets ≡ Err fault → items_at place octets ≡ Err fault ∷ items_at place (take (length octets - length octets) (drop (length octets) octets))
items_at-fault place octets fault some e =
    let none = items_at-none place (take (length octets - length octets) (drop (length octets) octets)) (omega (arith, length-take (length octets - length octets) (drop (length octets) octets))) in
    rw none (items_at-err place octets fault some e)
