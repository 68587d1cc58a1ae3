-- The pieces of an EAP packet by place, and one after the other.
use Rattle.std.proofs.Common.{◌≡◌, ℕ, zero, suc, ◌+◌, ◌*◌, ◌/◌, ◌-◌, ◌<◌, Bool, true, false, List, [], ◌∷◌, ◌++◌, length, take, drop, map, refl, sym, ap, ◌∙◌, length-drop, arith}
use Rattle.std.specs.Prelude.{min, nat_le}
use Rattle.std.specs.List.{range_with_len}
use Rattle.std.proofs.lemmas.List.{drop-drop, take_all, drop_all, take_at, drop_at}
use Rattle.std.proofs.lemmas.Bool.{leb-true, leb-false}
use Rattle.radius_packet.specs.Packet.{AttributeParts}
use Rattle.translation.specs.Replies.{attribute, eap_piece, eap_pieces}

next_piece : (body : List ℕ) (j : ℕ) → eap_piece body (j + 1) ≡ eap_piece (drop 253 body) j
next_piece body j =
    let places : 253 * (j + 1) ≡ 253 + 253 * j = omega arith in
    ap (λ (n : ℕ). attribute 79 (take 253 (drop n body))) places
    ∙ ap (λ (xs : List ℕ). attribute 79 (take 253 xs)) (sym (drop-drop (253 * j) 253 body))

further_pieces : (body : List ℕ) (j n : ℕ) → map (eap_piece body) (range_with_len (j + 1) n) ≡ map (eap_piece (drop 253 body)) (range_with_len j n)
further_pieces body j zero = refl
further_pieces body j (suc n) =
    ap (λ (a : AttributeParts). a ∷ map (eap_piece body) (range_with_len (j + 1 + 1) n)) (next_piece body j)
    ∙ ap (λ (list : List AttributeParts). eap_piece (drop 253 body) j ∷ list) (further_pieces body (j + 1) n)

more_pieces : (n : ℕ) → 0 < n → (n + 252) / 253 ≡ suc ((n - 253 + 252) / 253)
more_pieces n some = omega arith

-- the first 253 octets, and then the pieces of the others
first_piece : (body : List ℕ) → 0 < length body → eap_pieces body ≡ attribute 79 (take 253 body) ∷ eap_pieces (drop 253 body)
first_piece body some =
    ap (λ (n : ℕ). map (eap_piece body) (range_with_len 0 n)) (more_pieces (length body) some)
    ∙ ap (λ (list : List AttributeParts). attribute 79 (take 253 body) ∷ list) (further_pieces body 0 ((length body - 253 + 252) / 253))
    ∙ ap (λ (n : ℕ). attribute 79 (take 253 body) ∷ map (eap_piece (drop 253 body)) (range_with_len 0 ((n + 252) / 253))) (sym (length-drop 253 body))

by_size : (body : List ℕ) (b : Bool) → nat_le (length body) 253 ≡ b → (take (min (length body) 253) body ≡ take 253 body)
    × (drop (min (length body) 253) body ≡ drop 253 body)
by_size body true e =
    let short = leb-true _ _ e in (
      take_all (min (length body) 253) body (omega arith) ∙ sym (take_all 253 body short),
      drop_all (min (length body) 253) body (omega arith) ∙ sym (drop_all 253 body short),
    )
by_size body false e =
    let long = leb-false _ _ e in
    let same : min (length body) 253 ≡ 253 = omega arith in
    (ap (λ (n : ℕ). take n body) same, ap (λ (n : ℕ). drop n body) same)

-- one turn of the loop
pub pieces_turn : (body front back : List ℕ) (n : ℕ) → 0 < length body → n ≡ min (length body) 253 → front ≡ take n body → back ≡ drop n body → eap_pieces body ≡ attribute 79 front ∷ eap_pieces back
pieces_turn body front back n some e f b =
    let sized = by_size body (nat_le (length body) 253) refl in
    let first : front ≡ take 253 body = f ∙ ap (λ (k : ℕ). take k body) e ∙ sized.0 in
    let others : back ≡ drop 253 body = b ∙ ap (λ (k : ℕ). drop k body) e ∙ sized.1 in
    rw (first, others) (first_piece body some)

pub pieces_none : (body : List ℕ) → length body ≡ 0 → eap_pieces body ≡ []
pieces_none body e = rw e refl

-- one chunk of the loop
pub chunk_turn : (body front back : List ℕ) (size : ℕ) → size ≡ 253 → body ≡ front ++ back → length front ≡ min size (length body) → 0 < length body → eap_pieces body ≡ attribute 79 front ∷ eap_pieces back
chunk_turn body front back size s e n some =
    let size : length front ≡ min (length body) 253 = omega arith in
    let first : front ≡ take (length front) body = sym (ap (λ (xs : List ℕ). take (length front) xs) e ∙ take_at front back (length front) refl) in
    let others : back ≡ drop (length front) body = sym (ap (λ (xs : List ℕ). drop (length front) xs) e ∙ drop_at front back (length front) refl) in
    pieces_turn body front back (length front) some size first others
