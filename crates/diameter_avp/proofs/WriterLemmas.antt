-- What a writer's octets become.
use Rattle.std.proofs.Common.{◌≡◌, ℕ, ◌+◌, ◌-◌, ◌^◌, ◌<◌, ◌≤◌, Bool, true, false, List, [], ◌∷◌, ◌++◌, length, take, drop, replicate, Option, Some, None, refl, sym, ap, ap₂, ◌∙◌, append_assoc, arith}
use Rattle.std.specs.Prelude.{IfSome}
use Rattle.std.proofs.Math.Seq.{drop-length}
use Rattle.std.proofs.lemmas.List.{append-nil, length-append, length-replicate, length-drop, take_all, take-append-le, drop-append-le}
use Rattle.wire_core.specs.Numbers.{u24, u32}
use Rattle.wire_core.proofs.NumberLemmas.{length-u24, length-u32}
use Rattle.diameter_avp.specs.Avps.{AvpParts, avp_length, padding, vendor_text, bare_text, avp_text, avps_text, IsAvp, IsAvps, made}
use Rattle.diameter_avp.specs.Writer.{WriterParts, with_avp, list_behind, written, IsWritten}
use Rattle.diameter_avp.proofs.TextLemmas.{readable_avps-IsAvps}
use Rattle.diameter_avp.proofs.CallerLemmas.{avps_text-push, length-avp_text}

-- how much room the pieces of an AVP take
pub avp_room : (a : AvpParts) → length (avp_text a) ≡ 8 + length (vendor_text a.vendor) + length a.body + padding (length a.body)
unfolding avp_text bare_text
avp_room a =
    simp length-append (omega (arith, length-u32 a.code, length-u24 (avp_length a), length-replicate {A = ℕ} (padding (length a.body)) 0))

pub pieces : (old : List ℕ) (a : AvpParts) → old ++ u32 a.code ++ (a.flags ∷ []) ++ u24 (avp_length a) ++ vendor_text a.vendor ++ a.body ++ replicate (padding (length a.body)) 0 ≡ old ++ avp_text a
unfolding avp_text bare_text
pieces old a = simp append_assoc

-- ---- one AVP more

pub IsAvp-made : (code : ℕ) (vendor : Option ℕ) (mandatory : Bool) (body : List ℕ) → code < 2 ^ 32 → IfSome vendor (λ v. v < 2 ^ 32) → avp_length (made code vendor mandatory body) < 2 ^ 24 → IsAvp (made code vendor mandatory body)
IsAvp-made code (Some v) true body fits vendor counted = record { code = fits; flags = omega arith; vendor_flag = refl; vendor = vendor; counted = counted }
IsAvp-made code (Some v) false body fits vendor counted = record { code = fits; flags = omega arith; vendor_flag = refl; vendor = vendor; counted = counted }
IsAvp-made code None true body fits vendor counted = record { code = fits; flags = omega arith; vendor_flag = refl; vendor = vendor; counted = counted }
IsAvp-made code None false body fits vendor counted = record { code = fits; flags = omega arith; vendor_flag = refl; vendor = vendor; counted = counted }

pub IsAvps-append : (first second : List ℕ) (xs ys : List AvpParts) → IsAvps first xs → IsAvps second ys → IsAvps (first ++ second) (xs ++ ys)
unfolding IsAvps
IsAvps-append first second [] ys is are = rw is are
IsAvps-append first second (a ∷ xs) ys is are =
    let rest = is.0 in
    let begins = is.1 in
    let text : first ++ second ≡ bare_text a ++ begins.pad ++ (rest ++ second) =
    ap (λ (t : List ℕ). t ++ second) begins.text ∙ append_assoc (bare_text a ++ begins.pad) rest second in
    (rest ++ second, record { avp = begins.avp; pad = begins.pad; padded = begins.padded; text = text }, IsAvps-append rest second xs ys is.2 are)

pub IsAvps-one : (a : AvpParts) → IsAvp a → IsAvps (avp_text a) (a ∷ [])
unfolding IsAvps avp_text
IsAvps-one a is =
    ([], record { avp = is; pad = replicate (padding (length a.body)) 0; padded = length-replicate (padding (length a.body)) 0; text = sym (append-nil (bare_text a ++ replicate (padding (length a.body)) 0)) }, refl)

-- ---- the writer

-- what a list comes to with one AVP more
pub length-with_avp : (front : ℕ) (octets : List ℕ) (w : WriterParts) (a m : AvpParts) → written front octets ≡ w → IsWritten front octets → a ≡ m → length (avps_text (w.list ++ m ∷ [])) ≡ (length octets - front) + (avp_length a + padding (avp_length a))
length-with_avp front octets w a m view is e =
    let behind : length (avps_text (list_behind front octets)) ≡ length octets - front = ap length (sym is.text) ∙ length-drop front octets in
    rw (← view, ← e, avps_text-push) (omega (arith, length-append (avps_text (list_behind front octets)) (avp_text a), length-avp_text a))

pub IsWritten-new : (front octets : List ℕ) → octets ≡ front → length front ≤ 20 → IsWritten (length front) octets × (written (length front) octets ≡ record { front = front; list = [] })
unfolding IsAvps avps_text
IsWritten-new front octets e low =
    let behind : drop (length front) octets ≡ [] = rw e (drop-length front) in
    let none : list_behind (length front) octets ≡ [] = rw behind (readable_avps-IsAvps [] [] refl) in
    let all : take (length front) octets ≡ front = rw e (take_all (length front) front (omega arith)) in (
      record { begun = omega (arith, ap length e); low = low; short = omega (arith, ap length e); avps = rw (none, behind) refl; text = rw (none, behind) refl },
      ap₂ (λ (f : List ℕ) (l : List AvpParts). let w : WriterParts = record { front = f; list = l } in w) all none,
    )

pub IsWritten-push : (front : ℕ) (octets new : List ℕ) (a : AvpParts) → IsWritten front octets → IsAvp a → new ≡ octets ++ avp_text a → length new ≤ front + 65516 → IsWritten front new × (written front new ≡ with_avp (written front octets) a)
IsWritten-push front octets new a is avp e short =
    let behind : drop front new ≡ drop front octets ++ avp_text a = rw e (drop-append-le front octets (avp_text a) is.begun) in
    let avps : IsAvps (drop front new) (list_behind front octets ++ a ∷ []) = rw behind (IsAvps-append _ _ _ _ is.avps (IsAvps-one a avp)) in
    let list : list_behind front new ≡ list_behind front octets ++ a ∷ [] = readable_avps-IsAvps _ _ avps in
    let text : drop front new ≡ avps_text (list_behind front octets ++ a ∷ []) = behind ∙ ap (λ (t : List ℕ). t ++ avp_text a) is.text ∙ sym (avps_text-push (list_behind front octets) a) in
    let begin : take front new ≡ take front octets = rw e (take-append-le front octets (avp_text a) is.begun) in (
      record { begun = omega (arith, is.begun, ap length e, length-append octets (avp_text a)); low = is.low; short = short; avps = rw list avps; text = rw list text },
      ap₂ (λ (f : List ℕ) (l : List AvpParts). let w : WriterParts = record { front = f; list = l } in w) begin list,
    )

-- a made AVP that has room is written
pub IsWritten-put : (front : ℕ) (octets new : List ℕ) (w : WriterParts) (a : AvpParts) (code : ℕ) (vendor : Option ℕ) (mandatory : Bool) (body : List ℕ) → written front octets ≡ w → IsWritten front octets → a ≡ made code vendor mandatory body → code < 2 ^ 32 → IfSome a.vendor (λ v. v < 2 ^ 32) → avp_length a + padding (avp_length a) ≤ 65516 - (length octets - front) → new ≡ octets ++ avp_text a
    → IsWritten front new × (written front new ≡ with_avp w (made code vendor mandatory body))
IsWritten-put front octets new w a code vendor mandatory body view is e code-fits vendor-fits room grown =
    let counted : avp_length a < 2 ^ 24 = omega arith in
    let made-is : IsAvp (made code vendor mandatory body) =
    IsAvp-made code vendor mandatory body code-fits (rw e at vendor-fits) (rw e at counted) in
    let short : length new ≤ front + 65516 =
    omega (arith, is.begun, is.short, ap length grown, length-append octets (avp_text a), length-avp_text a) in
    let r = IsWritten-push front octets new a is (rw e made-is) grown short in
    (r.0, r.1 ∙ ap₂ with_avp view e)
