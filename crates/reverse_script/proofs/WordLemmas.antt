-- The words of a line of settings by their places.
use Rattle.std.proofs.Common.{◌≡◌, ℕ, ◌<◌, ◌≤◌, List, [], ◌∷◌, length, None, Bor, slice_index_or, refl, arith}
use Rattle.text_lines.specs.Views.{plain}
use Rattle.reverse_script.specs.Script.{own_by, own_of}

pub too_few : (ws : List (Bor (List ℕ))) → length ws < 7 → own_of (plain ws) ≡ None
too_few [] few = refl
too_few (a ∷ []) few = refl
too_few (a ∷ b ∷ []) few = refl
too_few (a ∷ b ∷ c ∷ []) few = refl
too_few (a ∷ b ∷ c ∷ d ∷ []) few = refl
too_few (a ∷ b ∷ c ∷ d ∷ e ∷ []) few = refl
too_few (a ∷ b ∷ c ∷ d ∷ e ∷ f ∷ []) few = refl
too_few (a ∷ b ∷ c ∷ d ∷ e ∷ f ∷ g ∷ more) few = absurd (omega (arith, few))

pub by_place : (ws : List (Bor (List ℕ))) (none : Bor (List ℕ)) → 7 ≤ length ws
    → own_of (plain ws)
    ≡ own_by (slice_index_or ws 1 none).now (slice_index_or ws 2 none).now (slice_index_or ws 3 none).now
    (slice_index_or ws 4 none).now (slice_index_or ws 5 none).now (slice_index_or ws 6 none).now
by_place [] none many = absurd (omega (arith, many))
by_place (a ∷ []) none many = absurd (omega (arith, many))
by_place (a ∷ b ∷ []) none many = absurd (omega (arith, many))
by_place (a ∷ b ∷ c ∷ []) none many = absurd (omega (arith, many))
by_place (a ∷ b ∷ c ∷ d ∷ []) none many = absurd (omega (arith, many))
by_place (a ∷ b ∷ c ∷ d ∷ e ∷ []) none many = absurd (omega (arith, many))
by_place (a ∷ b ∷ c ∷ d ∷ e ∷ f ∷ []) none many = absurd (omega (arith, many))
by_place (a ∷ b ∷ c ∷ d ∷ e ∷ f ∷ g ∷ more) none many = refl
