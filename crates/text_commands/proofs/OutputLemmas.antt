-- The lines of outputs, written one after another.
use Rattle.std.proofs.Common.{◌≡◌, ℕ, ◌+◌, List, ◌∷◌, ◌++◌, take, drop, append_assoc, Some, sym, ◌∙◌, ap}
use Rattle.std.specs.Prelude.{slice_get}
use Rattle.std.specs.List.{flat_map}
use Rattle.std.proofs.lemmas.List.{drop_more, take-append-drop}
use Rattle.std.proofs.lemmas.Option.{get_or_from_slice_get, slice_get_within}
use Rattle.std.proofs.lemmas.Grind.{flat_map-append}
use Rattle.std.proofs.lemmas.List.Concat.{flat_map-cons}

-- the lines before an output, its own, and those after it
pub lines-cut : {A : Type 0} (line : A → List ℕ) (outputs : List A) (i : ℕ) (o : A) → slice_get outputs i ≡ Some o
    → flat_map line outputs ≡ (flat_map line (take i outputs) ++ line o) ++ flat_map line (drop (i + 1) outputs)
lines-cut line outputs i o at =
    let front = flat_map line (take i outputs) in
    let rest = drop (i + 1) outputs in
    ap (flat_map line) (sym (take-append-drop i outputs) ∙ ap (λ r. take i outputs ++ r) (drop_more outputs i o (slice_get_within outputs i o at) ∙ ap (λ x. x ∷ rest) (get_or_from_slice_get outputs i o o at)))
    ∙ flat_map-append line (take i outputs) (o ∷ rest)
    ∙ ap (λ r. front ++ r) (flat_map-cons line o rest)
    ∙ sym (append_assoc front (line o) (flat_map line rest))
