-- Octets that are taken and passed on, and the lines that they are.
use Rattle.std.proofs.Common.{◌≡◌, ℕ, suc, ◌+◌, ◌-◌, ◌≤◌, Bool, true, false, not, cond, eqb, ltb, ◌||◌, List, [], ◌∷◌, ◌++◌, length, take, drop, Option, Some, None, position, Ok, Err, refl, sym, ap, ◌∙◌, subst, append_assoc, arith}
use Rattle.std.specs.List.{list_any, position_or_len, slice_range}
use Rattle.std.proofs.lemmas.Bool.{eqb-true, ltb-false}
use Rattle.std.proofs.lemmas.List.{drop-drop, drop-take, drop_more, length-take-le, take-append-drop, take_all}
use Rattle.std.proofs.lemmas.List.Quantifiers.{position-Some}
use Rattle.std.proofs.lemmas.Option.{cond_some}
use Rattle.std.proofs.lemmas.List.Folds.{list_any-append}
use Rattle.std.proofs.lemmas.List.{length-append}
use Rattle.wire_core.specs.Source.{Consumes}
use Rattle.wire_core.proofs.SourceLaws.{Consumes-append}
use Rattle.text_lines.specs.declared.intake.TakeFault.{TakeFault}
use Rattle.text_lines.specs.declared.intake.TakeFault.TheVariants as take
use Rattle.text_lines.specs.declared.raw_lines.RawFault.{RawFault}
use Rattle.text_lines.specs.declared.raw_lines.RawFault.TheVariants as raw
use Rattle.text_lines.specs.Streams.{Cuts, Cutting, Held, IsTakeFault, IsUnended, Refills, TakesNone, most_octets, rest_of}

-- a part of a list without its first octets
pub drop-range : (xs : List ℕ) (start end count : ℕ) → start + count ≤ end
    → slice_range xs (start + count) end ≡ drop count (slice_range xs start end)
drop-range xs start end count inside =
    let rest = end - (start + count) in
    let whole : count + rest ≡ end - start = omega arith in
    sym (ap (λ n. drop count (take n (drop start xs))) (sym whole) ∙ drop-take count rest (drop start xs)
    ∙ ap (take rest) (drop-drop count start xs))

-- ---- the first octet that ends a line

abbrev place_of : List ℕ → ℕ
place_of xs = position_or_len (λ x. eqb x 10) xs

unended-more : (b : Bool) (x : ℕ) (xs : List ℕ) → eqb x 10 ≡ b → IsUnended (take (place_of xs) xs)
    → IsUnended (take (cond (not b) (1 + place_of xs) 0) (x ∷ xs))
unended-more true x xs is unended = refl
unended-more false x xs is unended =
    let next : 1 + place_of xs ≡ suc (place_of xs) = omega arith in
    rw next (ap (λ b. b || list_any (λ x. eqb x 10) (take (place_of xs) xs)) is ∙ unended)

unended-before : (xs : List ℕ) → IsUnended (take (place_of xs) xs)
unended-before [] = refl
unended-before (x ∷ xs) = unended-more (eqb x 10) x xs refl (unended-before xs)

cond-none : (b : Bool) (i : ℕ) → cond b (Some i) None ≡ None → b ≡ false
cond-none true i e = cc
cond-none false i e = refl

-- where there is one, no line ends before it
pub unended-found : (xs : List ℕ) (i : ℕ) → position (λ x. eqb x 10) xs ≡ Some i → IsUnended (take i xs)
unended-found xs i found =
    subst (λ k. IsUnended (take k xs)) (cond_some (ltb (place_of xs) (length xs)) (place_of xs) i found).1 (unended-before xs)

pub unended-whole : (xs : List ℕ) → position (λ x. eqb x 10) xs ≡ None → IsUnended xs
unended-whole xs none =
    let past = ltb-false _ _ (cond-none (ltb (place_of xs) (length xs)) (place_of xs) none) in
    subst IsUnended (take_all (place_of xs) xs past) (unended-before xs)

-- and the rest begins with it
pub found-there : (xs : List ℕ) (i : ℕ) → position (λ x. eqb x 10) xs ≡ Some i
    → xs ≡ take i xs ++ 10 ∷ drop (length (take i xs) + 1) xs
found-there xs i found =
    let (within, is, before) = position-Some (λ x. eqb x 10) xs i 0 found in
    let size : length (take i xs) ≡ i = length-take-le i xs (omega arith) in
    sym (take-append-drop i xs)
    ∙ ap (λ ys. take i xs ++ ys) (drop_more xs i 0 within ∙ ap (λ x. x ∷ drop (i + 1) xs) (eqb-true _ _ is) ∙ ap (λ n. 10 ∷ drop (n + 1) xs) (sym size))

-- ---- a line, piece by piece

pub unended-append : (xs ys : List ℕ) → IsUnended xs → IsUnended ys → IsUnended (xs ++ ys)
unended-append xs ys p q = list_any-append (λ x. eqb x 10) xs ys ∙ ap (λ b. b || list_any (λ x. eqb x 10) ys) p ∙ q

-- what is held comes before what the source has left
pub Consumes-held : (c : Cutting) (left : Option (List ℕ)) → Consumes (rest_of c left) left c.held.octets
Consumes-held c left = record { front = refl }

-- why the present line can't be gone on with, where these octets of it were taken before
pub cut-fault : (fault : RawFault) (before left : Option (List ℕ)) (old mid new : Cutting)
    → Consumes before (rest_of mid left) mid.line → IsUnended mid.line
    → mid.held.passed ≡ old.held.passed + length mid.line → mid.held.passed + length mid.held.octets ≤ most_octets
    → mid.longest ≡ old.longest → Cuts (Err fault) mid new → TakesNone fault before left old new
cut-fault raw.Read before left old mid new taken unended passed within limit cuts = absurd cuts
cut-fault raw.TooMuch before left old mid new taken unended passed within limit cuts = absurd cuts
cut-fault raw.NoMemory before left old mid new taken unended passed within limit cuts = (mid.line ++ mid.held.octets, Consumes-append taken (Consumes-held mid left))
cut-fault raw.LongLine before left old mid new taken unended passed within limit (piece, (more, whole, is, long)) =
    let front = ap (λ xs. mid.line ++ xs) is ∙ sym (append_assoc mid.line piece more) in (
      mid.line ++ piece,
      (
        more,
        unended-append mid.line piece unended whole,
        subst (λ xs. Consumes before left xs) front (Consumes-append taken (Consumes-held mid left)),
        omega (arith, limit, long, length-append mid.line piece),
        omega (arith, passed, within, ap length is, length-append mid.line piece, length-append piece more, length-append (mid.line ++ piece) more),
      ),
    )

pub refill-fault : (taking : TakeFault) (fault : RawFault) (before then left : Option (List ℕ)) (old new : Cutting) (held after : Held) (line : List ℕ)
    → IsTakeFault taking fault → Consumes before then line → IsUnended line → length line ≤ old.longest
    → held.passed ≡ old.held.passed + length line → Refills (Err taking) then left held after → TakesNone fault before left old new
refill-fault take.Read fault before then left old new held after line is taken unended short passed refills =
    rw is (line, unended, subst (λ l. Consumes before l line) (sym refills.0) taken, short)
refill-fault take.TooMuch fault before then left old new held after line is taken unended short passed (full, same, (x, more)) =
    rw is (line, (x, unended, Consumes-append taken more, short, sym passed ∙ full))

-- where no line ends within what is held, all of it belongs to the present line
pub cut-whole : (before left : Option (List ℕ)) (old mid new : Cutting)
    → Consumes before (rest_of mid left) mid.line → IsUnended mid.line
    → mid.held.passed ≡ old.held.passed + length mid.line → Cuts (Ok false) mid new
    → Consumes before left new.line × IsUnended new.line × (new.held.passed ≡ old.held.passed + length new.line)
cut-whole before left old mid new taken unended passed (whole, none, line, further) = (
  rw line (Consumes-append taken (Consumes-held mid left)),
  rw line (unended-append mid.line mid.held.octets unended whole),
  omega (arith, ap length line, length-append mid.line mid.held.octets),
)
