-- What a caller needs of the definitions.
use Rattle.std.proofs.Common.{◌≡◌, ℕ, ◌+◌, ◌%◌, List, [], ◌∷◌, ◌++◌, length, replicate, Option, Some, None, Ok, Err, refl, sym, ap, ◌∙◌, append_assoc, arith}
use Rattle.std.proofs.lemmas.List.{length-append, length-replicate, append-nil}
use Rattle.wire_core.specs.Numbers.{AreOctets}
use Rattle.diameter_avp.specs.declared.fault.AvpFault.{AvpFault}
use Rattle.diameter_avp.specs.Avps.{AvpParts, avp_length, padding, bare_text, avp_text, avps_text, IsAvps, avps_fault, readable_avps, read_avps, unless_fault}
use Rattle.diameter_avp.proofs.TextLemmas.{length-bare_text, padding-header, read_avps-IsAvps, IsAvps-readable, IsAvps-avps_text}

-- ---- reading

ok_by : (fault : Option AvpFault) (xs ys : List AvpParts) → unless_fault fault xs ≡ Ok ys → (fault ≡ None) × (xs ≡ ys)
ok_by None xs ys e = (refl, cc)
ok_by (Some fault) xs ys e = absurd cc

err_by : (fault : Option AvpFault) (xs : List AvpParts) (f : AvpFault) → unless_fault fault xs ≡ Err f → fault ≡ Some f
err_by None xs f e = absurd cc
err_by (Some fault) xs f e = cc

pub read_avps-ok : (octets : List ℕ) (avps : List AvpParts) → read_avps octets ≡ Ok avps → (avps_fault octets ≡ None) × (readable_avps octets ≡ avps)
unfolding read_avps
read_avps-ok octets avps e = ok_by (avps_fault octets) (readable_avps octets) avps e

pub read_avps-err : (octets : List ℕ) (fault : AvpFault) → read_avps octets ≡ Err fault → avps_fault octets ≡ Some fault
unfolding read_avps
read_avps-err octets fault e = err_by (avps_fault octets) (readable_avps octets) fault e

pub read_avps-none : (octets : List ℕ) → avps_fault octets ≡ None → read_avps octets ≡ Ok (readable_avps octets)
unfolding read_avps
read_avps-none octets e = rw e refl

pub read_avps-some : (octets : List ℕ) (fault : AvpFault) → avps_fault octets ≡ Some fault → read_avps octets ≡ Err fault
unfolding read_avps
read_avps-some octets fault e = rw e refl

pub IsAvps-read_avps : (octets : List ℕ) (avps : List AvpParts) → AreOctets octets → read_avps octets ≡ Ok avps → IsAvps octets avps
IsAvps-read_avps octets avps are e =
    let r = read_avps-ok octets avps e in
    rw (← r.1) (IsAvps-readable octets are r.0)

pub read_avps-avps_text : (octets : List ℕ) (avps : List AvpParts) → IsAvps octets avps → read_avps (avps_text avps) ≡ Ok avps
read_avps-avps_text octets avps is = read_avps-IsAvps (avps_text avps) avps (IsAvps-avps_text octets avps is)

-- ---- texts

pub avps_text-append : (first second : List AvpParts) → avps_text (first ++ second) ≡ avps_text first ++ avps_text second
unfolding avps_text
avps_text-append [] second = refl
avps_text-append (a ∷ first) second =
    ap (λ (t : List ℕ). avp_text a ++ t) (avps_text-append first second) ∙ sym (append_assoc (avp_text a) (avps_text first) (avps_text second))

pub avps_text-push : (avps : List AvpParts) (a : AvpParts) → avps_text (avps ++ a ∷ []) ≡ avps_text avps ++ avp_text a
unfolding avps_text
avps_text-push avps a = avps_text-append avps (a ∷ []) ∙ ap (λ (t : List ℕ). avps_text avps ++ t) (append-nil (avp_text a))

pub length-avp_text : (a : AvpParts) → length (avp_text a) ≡ avp_length a + padding (avp_length a)
unfolding avp_text
length-avp_text a =
    omega (arith, length-append (bare_text a) (replicate (padding (length a.body)) 0), length-bare_text a, length-replicate {A = ℕ} (padding (length a.body)) 0, padding-header a.vendor (length a.body))

-- lists of AVPs fill words of four octets
pub length-avps_text : (avps : List AvpParts) → length (avps_text avps) % 4 ≡ 0
unfolding avps_text
length-avps_text [] = refl
length-avps_text (a ∷ avps) =
    omega (arith, length-append (avp_text a) (avps_text avps), length-avp_text a, length-avps_text avps)
