-- What is read of a list of attributes is spelled so, and what is spelled so is read.
use Rattle.std.proofs.Common.{◌≡◌, ℕ, zero, suc, ◌+◌, ◌-◌, ◌<◌, ◌≤◌, Bool, true, false, cond, ltb, List, [], ◌∷◌, ◌++◌, length, get_or, take, drop, Option, Result, Ok, Err, refl, sym, ap, ◌∙◌, append_assoc, subst, arith, inl, inr, add-zero}
use Rattle.std.specs.Prelude.{◌||◌, ◌⊎◌}
use Rattle.std.specs.List.{AllByRecursion}
use Rattle.std.specs.Result.{result_err}
use Rattle.std.proofs.lemmas.Bool.{ltb-false, ltb-true, le-ltb, lt-ltb}
use Rattle.std.proofs.lemmas.List.{take_at, drop_at, take_rest, take-append-drop, length-append, length-take, get_or-append-add}
use Rattle.radius_packet.specs.declared.fault.PacketFault.{PacketFault}
use Rattle.radius_packet.specs.declared.fault.PacketFault.TheVariants.{BadAttribute}
use Rattle.radius_packet.specs.Packet.{AttributeParts, attribute_text, attributes_text, put_first, read_attributes, attributes_in, IsBroken, BreaksAt}

-- ---- what is spelled so is read

skips : (xs : List ℕ) (skip place : ℕ) → read_attributes xs skip place ≡ read_attributes (drop skip xs) 0 (place + skip)
unfolding read_attributes
skips xs zero place = rw add-zero refl
skips [] (suc skip) place = refl
skips (x ∷ xs) (suc skip) place =
    let at : place + 1 + skip ≡ place + suc skip = omega arith in
    skips xs skip (place + 1) ∙ ap (λ p. read_attributes (drop skip xs) 0 p) at

-- one whole attribute
pub reads_first : (code size : ℕ) (xs : List ℕ) (place : ℕ) → 2 ≤ size → size ≤ length xs + 2
    → read_attributes (code ∷ size ∷ xs) 0 place ≡ put_first (record { code = code; value = take (size - 2) xs }) (read_attributes (drop (size - 2) xs) 0 (place + size))
unfolding read_attributes
reads_first code size xs place low high =
    let not_low : ltb size 2 ≡ false = le-ltb _ _ low in
    let not_high : ltb (length xs + 2) size ≡ false = le-ltb _ _ high in
    let next : size - 1 ≡ suc (size - 2) = omega arith in
    let at : place + 1 + suc (size - 2) ≡ place + size = omega arith in
    rw (not_low, not_high, next, skips (size ∷ xs) (suc (size - 2)) (place + 1), at) refl

pub reads_again : (list : List AttributeParts) (place : ℕ) → read_attributes (attributes_text list) 0 place ≡ Ok list
unfolding read_attributes
reads_again [] place = refl
reads_again (a ∷ list) place =
    let rest : List ℕ = attributes_text list in
    let len : length a.value + 2 - 2 ≡ length a.value = omega arith in
    reads_first a.code (length a.value + 2) (a.value ++ rest) place (omega arith) (omega (arith, length-append a.value rest))
    ∙ rw (len, take_at a.value rest (length a.value) refl, drop_at a.value rest (length a.value) refl, reads_again list (place + (length a.value + 2))) refl

pub attributes_in-text : (list : List AttributeParts) → attributes_in (attributes_text list) ≡ list
attributes_in-text list = rw (reads_again list 20) refl

-- ---- what is read is spelled so

guard_ok : {A F : Type 0} (b : Bool) (d : F) (r : Result A F) (y : A) → cond b (Err d) r ≡ Ok y → (b ≡ false) × (r ≡ Ok y)
guard_ok true d r y e = absurd cc
guard_ok false d r y e = (refl, e)

put_ok : (a : AttributeParts) (r : Result (List AttributeParts) PacketFault) (list : List AttributeParts) → put_first a r ≡ Ok list → (others : List AttributeParts) × (r ≡ Ok others) × (list ≡ a ∷ others)
put_ok a (Ok others) list e = (others, refl, cc)
put_ok a (Err fault) list e = absurd cc

or_false : (a b : Bool) → (a || b) ≡ false → (a ≡ false) × (b ≡ false)
or_false true b e = absurd cc
or_false false b e = (refl, e)

-- an attribute and the rest, from its first two octets on
first_text : (code size : ℕ) (xs rest : List ℕ) → 2 ≤ size → size ≤ length xs + 2 → drop (size - 1) (size ∷ xs) ≡ rest
    → code ∷ size ∷ xs ≡ attribute_text (record { code = code; value = take (size - 2) xs }) ++ rest
first_text code size xs rest low high e =
    let next : size - 1 ≡ suc (size - 2) = omega arith in
    let tail : drop (size - 2) xs ≡ rest = rw next at e in
    let len : length (take (size - 2) xs) + 2 ≡ size = omega (arith, length-take (size - 2) xs) in
    rw (len, ← tail) (ap (λ (ys : List ℕ). code ∷ size ∷ ys) (sym (take-append-drop (size - 2) xs)))

pub reads_text : (xs : List ℕ) (skip place : ℕ) (list : List AttributeParts) → read_attributes xs skip place ≡ Ok list → drop skip xs ≡ attributes_text list
unfolding read_attributes
reads_text [] zero place list e = let nothing : list ≡ [] = cc in rw nothing refl
reads_text [] (suc skip) place list e = let nothing : list ≡ [] = cc in rw nothing refl
reads_text (x ∷ xs) (suc skip) place list e = reads_text xs skip (place + 1) list e
reads_text (code ∷ []) zero place list e = absurd cc
reads_text (code ∷ size ∷ xs) zero place list e =
    let a : AttributeParts = record { code = code; value = take (size - 2) xs } in
    let g = guard_ok (ltb size 2 || ltb (length xs + 2) size) (BadAttribute place) (put_first a (read_attributes (size ∷ xs) (size - 1) (place + 1))) list e in
    let t = or_false _ _ g.0 in
    let p = put_ok a (read_attributes (size ∷ xs) (size - 1) (place + 1)) list g.1 in
    rw p.2 (first_text code size xs (attributes_text p.0) (ltb-false _ _ t.0) (ltb-false _ _ t.1) (reads_text (size ∷ xs) (size - 1) (place + 1) p.0 p.1))

-- ---- a fault is at the first attribute that isn't whole

record Breaks (xs : List ℕ) (place : ℕ) (fault : PacketFault) : Type 0 where
  before : List AttributeParts
  rest : List ℕ
  text : xs ≡ attributes_text before ++ rest
  fault_is : fault ≡ BadAttribute (place + length (attributes_text before))
  broken : IsBroken rest

breaks_here : (xs : List ℕ) (place : ℕ) (fault : PacketFault) → IsBroken xs → fault ≡ BadAttribute place → Breaks xs (place + 0) fault
breaks_here xs place fault broken e =
    let at : place + 0 + 0 ≡ place = omega arith in
    record { before = []; rest = xs; text = refl; fault_is = rw at e; broken = broken }

breaks_later : (code size : ℕ) (xs : List ℕ) (place : ℕ) (fault : PacketFault) → 2 ≤ size → size ≤ length xs + 2
    → Breaks (drop (size - 1) (size ∷ xs)) (place + 1 + (size - 1)) fault → Breaks (code ∷ size ∷ xs) (place + 0) fault
breaks_later code size xs place fault low high later =
    let a : AttributeParts = record { code = code; value = take (size - 2) xs } in
    let len : length (take (size - 2) xs) ≡ size - 2 = omega (arith, length-take (size - 2) xs) in
    let at : place + 0 + length (attributes_text (a ∷ later.before)) ≡ place + 1 + (size - 1) + length (attributes_text later.before) =
    omega (arith, len, length-append (take (size - 2) xs) (attributes_text later.before)) in
    record {
      before = a ∷ later.before;
      rest = later.rest;
      text = first_text code size xs (attributes_text later.before ++ later.rest) low high later.text
          ∙ sym (append_assoc (attribute_text a) (attributes_text later.before) later.rest);
      fault_is = rw at later.fault_is;
      broken = later.broken;
    }

put_fails : (a : AttributeParts) (r : Result (List AttributeParts) PacketFault) (fault : PacketFault) → put_first a r ≡ Err fault → r ≡ Err fault
put_fails a (Ok list) fault e = absurd cc
put_fails a (Err other) fault e = e

guard_err : {A F : Type 0} (b : Bool) (d : F) (r : Result A F) (f : F) → cond b (Err d) r ≡ Err f → ((b ≡ true) × (f ≡ d)) ⊎ ((b ≡ false) × (r ≡ Err f))
guard_err true d r f e = inl (refl, cc)
guard_err false d r f e = inr (refl, e)

or_true : (a b : Bool) → (a || b) ≡ true → (a ≡ true) ⊎ (b ≡ true)
or_true true b e = inl refl
or_true false b e = inr e

too_small_or_big : (size n : ℕ) → (ltb size 2 || ltb n size) ≡ true → (size < 2) ⊎ (n < size)
too_small_or_big size n e = elim (or_true _ _ e) [ inl low ↦ inl (ltb-true _ _ low) | inr high ↦ inr (ltb-true _ _ high) ]

breaks : (xs : List ℕ) (skip place : ℕ) (fault : PacketFault) → read_attributes xs skip place ≡ Err fault → Breaks (drop skip xs) (place + skip) fault
unfolding read_attributes
breaks [] zero place fault e = absurd cc
breaks [] (suc skip) place fault e = absurd cc
breaks (x ∷ xs) (suc skip) place fault e =
    let at : place + 1 + skip ≡ place + suc skip = omega arith in
    subst (λ (n : ℕ). Breaks (drop skip xs) n fault) at (breaks xs skip (place + 1) fault e)
breaks (code ∷ []) zero place fault e = breaks_here (code ∷ []) place fault tt cc
breaks (code ∷ size ∷ xs) zero place fault e =
    let a : AttributeParts = record { code = code; value = take (size - 2) xs } in
    elim (guard_err (ltb size 2 || ltb (length xs + 2) size) (BadAttribute place) (put_first a (read_attributes (size ∷ xs) (size - 1) (place + 1))) fault e) [
      | inl now ↦ breaks_here (code ∷ size ∷ xs) place fault (too_small_or_big size (length xs + 2) now.0) now.1
      | inr past ↦
          let t = or_false _ _ past.0 in
          breaks_later code size xs place fault (ltb-false _ _ t.0) (ltb-false _ _ t.1)
          (breaks (size ∷ xs) (size - 1) (place + 1) fault (put_fails a _ fault past.1))
    ]

pub breaks_at : (octets : List ℕ) (place : ℕ) → read_attributes (drop 20 octets) 0 20 ≡ Err (BadAttribute place) → BreaksAt octets place
breaks_at octets place e =
    let b = breaks (drop 20 octets) 0 20 (BadAttribute place) e in
    record { before = b.before; rest = b.rest; text = b.text; place_is = cc (b.fault_is); broken = b.broken }

pub fault_is : (xs : List ℕ) (place : ℕ) (fault : PacketFault) → read_attributes xs 0 place ≡ Err fault → (n : ℕ) × (fault ≡ BadAttribute n)
fault_is xs place fault e =
    let b = breaks xs 0 place fault e in
    (_, b.fault_is)

ends_broken : (xs : List ℕ) (place : ℕ) → IsBroken xs → read_attributes xs 0 place ≡ Err (BadAttribute place)
unfolding read_attributes
ends_broken [] place broken = absurd broken
ends_broken (code ∷ []) place broken = refl
ends_broken (code ∷ size ∷ xs) place (inl low) = rw (lt-ltb size 2 low) refl
ends_broken (code ∷ size ∷ xs) place (inr high) = elim (ltb size 2) as (λ b. cond (b || ltb (length xs + 2) size) (Err (BadAttribute place)) (put_first (record { code = code; value = take (size - 2) xs }) (read_attributes (size ∷ xs) (size - 1) (place + 1))) ≡ Err (BadAttribute place)) [
  | true ↦ refl
  | false ↦ rw (lt-ltb (length xs + 2) size high) refl
]

-- whole attributes are read up to the one that isn't
reads_up_to : (before : List AttributeParts) (rest : List ℕ) (place : ℕ) → IsBroken rest
    → read_attributes (attributes_text before ++ rest) 0 place ≡ Err (BadAttribute (place + length (attributes_text before)))
reads_up_to [] rest place broken = ends_broken rest place broken ∙ ap (λ (n : ℕ). Err (BadAttribute n)) (sym (add-zero place))
reads_up_to (a ∷ before) rest place broken =
    let others : List ℕ = attributes_text before ++ rest in
    let text : attributes_text (a ∷ before) ++ rest ≡ a.code ∷ (length a.value + 2) ∷ (a.value ++ others) = append_assoc (attribute_text a) (attributes_text before) rest in
    let len : length a.value + 2 - 2 ≡ length a.value = omega arith in
    let at : place + (length a.value + 2) + length (attributes_text before) ≡ place + length (attributes_text (a ∷ before)) = omega (arith, length-append a.value (attributes_text before)) in
    ap (λ (xs : List ℕ). read_attributes xs 0 place) text
    ∙ reads_first a.code (length a.value + 2) (a.value ++ others) place (omega arith) (omega (arith, length-append a.value others))
    ∙ rw (len, drop_at a.value others (length a.value) refl, reads_up_to before rest (place + (length a.value + 2)) broken) (ap (λ (n : ℕ). Err (BadAttribute n)) at)

pub breaks_back : (octets : List ℕ) (place : ℕ) → BreaksAt octets place → read_attributes (drop 20 octets) 0 20 ≡ Err (BadAttribute place)
breaks_back octets place b =
    ap (λ (xs : List ℕ). read_attributes xs 0 20) b.text ∙ reads_up_to b.before b.rest 20 b.broken ∙ ap (λ (n : ℕ). Err (BadAttribute n)) (sym b.place_is)

-- ---- values

pub values_fit : (list : List AttributeParts) → ((i : ℕ) → get_or (attributes_text list) i 0 < 256) → AllByRecursion (λ a. length a.value ≤ 253) list
values_fit [] bytes = tt
values_fit (a ∷ list) bytes =
    let size : length a.value + 2 < 256 = bytes 1 in
    let rest : (i : ℕ) → get_or (attributes_text list) i 0 < 256 = λ i.
    let at : get_or (attributes_text (a ∷ list)) (suc (suc (length a.value + i))) 0 ≡ get_or (attributes_text list) i 0 = get_or-append-add a.value (attributes_text list) i 0 in
    omega (arith, at, bytes (suc (suc (length a.value + i)))) in
    (omega arith, values_fit list rest)

-- ---- the first attribute of a text

pub record Front (xs : List ℕ) : Type 0 where
  pub first : AttributeParts
  pub others : List AttributeParts
  pub read : attributes_in xs ≡ first ∷ others
  pub code : get_or xs 0 0 ≡ first.code
  pub size : get_or xs 1 0 ≡ length first.value + 2
  pub rest : drop 2 xs ≡ first.value ++ attributes_text others

front_of : (list : List AttributeParts) (xs : List ℕ) → xs ≡ attributes_text list → attributes_in xs ≡ list → 2 ≤ length xs → Front xs
front_of [] xs e read long = absurd (omega (arith, ap length e))
front_of (a ∷ others) xs e read long = record {
  first = a;
  others = others;
  read = read;
  code = ap (λ ys. get_or ys 0 0) e;
  size = ap (λ ys. get_or ys 1 0) e;
  rest = ap (λ ys. drop 2 ys) e;
}

pub front : (xs : List ℕ) → xs ≡ attributes_text (attributes_in xs) → 2 ≤ length xs → Front xs
front xs e long = front_of (attributes_in xs) xs e refl long

-- the octets of its value, and those after it
pub front_value : (xs : List ℕ) (f : Front xs) → take (get_or xs 1 0 - 2) (take (length xs - 2) (drop 2 xs)) ≡ f.first.value
front_value xs f =
    let len : get_or xs 1 0 - 2 ≡ length f.first.value = omega (arith, f.size) in
    rw (take_rest xs 2, len, f.rest) (take_at f.first.value (attributes_text f.others) (length f.first.value) refl)

pub front_rest : (xs : List ℕ) (f : Front xs) → drop (get_or xs 1 0 - 2) (take (length xs - 2) (drop 2 xs)) ≡ attributes_text f.others
front_rest xs f =
    let len : get_or xs 1 0 - 2 ≡ length f.first.value = omega (arith, f.size) in
    rw (take_rest xs 2, len, f.rest) (drop_at f.first.value (attributes_text f.others) (length f.first.value) refl)

pub none_left : (list : List AttributeParts) (xs : List ℕ) → xs ≡ attributes_text list → length xs < 2 → list ≡ []
none_left [] xs e short = refl
none_left (a ∷ list) xs e short = absurd (omega (arith, ap length e))

-- ---- reading one attribute after the other, as a loop does

abbrev pub fault_in : List ℕ → ℕ → Option PacketFault
fault_in xs place = result_err (read_attributes xs 0 place)

put_err : (a : AttributeParts) (r : Result (List AttributeParts) PacketFault) → result_err (put_first a r) ≡ result_err r
put_err a (Ok list) = refl
put_err a (Err fault) = refl

pub goes_on : (xs : List ℕ) (place size : ℕ) → 2 ≤ length xs → size ≡ get_or xs 1 0 → 2 ≤ size → size ≤ length xs → fault_in xs place ≡ fault_in (drop size xs) (place + size)
goes_on [] place size long e low high = absurd (omega arith)
goes_on (code ∷ []) place size long e low high = absurd (omega arith)
goes_on (code ∷ octet ∷ xs) place size long e low high =
    let next : size ≡ suc (suc (octet - 2)) = omega arith in
    let same : octet ≡ size = omega arith in
    let rest : drop size (code ∷ octet ∷ xs) ≡ drop (octet - 2) xs = rw next refl in
    ap result_err (reads_first code octet xs place (omega arith) (omega arith)) ∙ put_err _ _ ∙ rw (rest, same) refl

pub ends_short : (xs : List ℕ) (place : ℕ) → length xs ≡ 1 → read_attributes xs 0 place ≡ Err (BadAttribute place)
unfolding read_attributes
ends_short [] place e = absurd (omega arith)
ends_short (code ∷ []) place e = refl
ends_short (code ∷ size ∷ xs) place e = absurd (omega arith)

pub ends_low : (xs : List ℕ) (place : ℕ) → 2 ≤ length xs → get_or xs 1 0 < 2 → read_attributes xs 0 place ≡ Err (BadAttribute place)
unfolding read_attributes
ends_low [] place long low = absurd (omega arith)
ends_low (code ∷ []) place long low = absurd (omega arith)
ends_low (code ∷ size ∷ xs) place long low = rw (lt-ltb size 2 low) refl

pub ends_high : (xs : List ℕ) (place : ℕ) → 2 ≤ length xs → length xs < get_or xs 1 0 → read_attributes xs 0 place ≡ Err (BadAttribute place)
unfolding read_attributes
ends_high [] place long high = absurd (omega arith)
ends_high (code ∷ []) place long high = absurd (omega arith)
ends_high (code ∷ size ∷ xs) place long high =
    let not_low : ltb size 2 ≡ false = le-ltb _ _ (omega arith) in
    let is_high : ltb (length xs + 2) size ≡ true = lt-ltb _ _ (omega arith) in
    rw (not_low, is_high) refl
