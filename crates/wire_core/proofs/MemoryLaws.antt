-- A read that copies octets out of memory.
use Rattle.std.proofs.Common.{◌≡◌, ℕ, ◌+◌, ◌-◌, ◌≤◌, min, List, ◌++◌, length, take, drop, Some, sym, ap, ◌∙◌, arith, length-append, length-drop}
use Rattle.std.proofs.lemmas.List.{drop-drop, length-take-le, take-append-drop, take_at, take_min}
use Rattle.std.proofs.Math.Seq.{take-append-add}
use Rattle.wire_core.specs.Source.{Consumes}

-- n octets from a place on, copied to the front of a buffer
pub copied : (octets buf front : List ℕ) (place n : ℕ) → place + n ≤ length octets → n ≤ length buf → front ≡ take n (drop place octets)
    → (n ≤ length (front ++ drop n buf)) × Consumes (Some (drop place octets)) (Some (drop (place + n) octets)) (take n (front ++ drop n buf))
copied octets buf front place n inside room is =
    let long : length front ≡ n = ap length is ∙ length-take-le n (drop place octets) (omega (arith, length-drop place octets)) in
    let taken : take n (front ++ drop n buf) ≡ take n (drop place octets) = take_at front (drop n buf) n long ∙ is in (
      omega (arith, length-append front (drop n buf)),
      record { front = ap Some (sym (ap (λ xs. xs ++ drop (place + n) octets) taken ∙ ap (λ xs. take n (drop place octets) ++ xs) (sym (drop-drop n place octets)) ∙ take-append-drop n (drop place octets))) },
    )

-- as many octets as there is room for, by the octets that fit
pub fitting : (old piece : List ℕ) (room n : ℕ) → length old ≤ room → n ≡ min (length piece) (room - length old) → old ++ take n piece ≡ take room (old ++ piece)
fitting old piece room n fits is =
    let past : length old + (room - length old) ≡ room = omega arith in
    let least : n ≡ min (room - length old) (length piece) = omega arith in
    let same = ap (λ m. take m piece) least ∙ take_min (room - length old) piece in
    ap (λ xs. old ++ xs) same ∙ sym (take-append-add old piece (room - length old)) ∙ ap (λ m. take m (old ++ piece)) past
