-- The words of a control line by their places.
use Rattle.std.proofs.Common.{◌≡◌, ◌≢◌, ℕ, List, [], ◌∷◌, length, None, Bor, slice_index_or, refl, arith}
use Rattle.text_lines.specs.Views.{plain}
use Rattle.transcript.specs.Lines.{control_of}

pub not_five : (ws : List (Bor (List ℕ))) → length ws ≢ 5 → control_of (plain ws) ≡ None
not_five [] other = refl
not_five (a ∷ []) other = refl
not_five (a ∷ b ∷ []) other = refl
not_five (a ∷ b ∷ c ∷ []) other = refl
not_five (a ∷ b ∷ c ∷ d ∷ []) other = refl
not_five (a ∷ b ∷ c ∷ d ∷ e ∷ []) other = absurd (other refl)
not_five (a ∷ b ∷ c ∷ d ∷ e ∷ f ∷ more) other = refl

pub control_by_place : (ws : List (Bor (List ℕ))) (none : Bor (List ℕ)) → length ws ≡ 5
    → control_of (plain ws)
    ≡ control_of ((slice_index_or ws 0 none).now ∷ [] ∷ (slice_index_or ws 2 none).now ∷ (slice_index_or ws 3 none).now
    ∷ (slice_index_or ws 4 none).now ∷ [])
control_by_place [] none five = absurd (omega (arith, five))
control_by_place (a ∷ []) none five = absurd (omega (arith, five))
control_by_place (a ∷ b ∷ []) none five = absurd (omega (arith, five))
control_by_place (a ∷ b ∷ c ∷ []) none five = absurd (omega (arith, five))
control_by_place (a ∷ b ∷ c ∷ d ∷ []) none five = absurd (omega (arith, five))
control_by_place (a ∷ b ∷ c ∷ d ∷ e ∷ []) none five = refl
control_by_place (a ∷ b ∷ c ∷ d ∷ e ∷ f ∷ more) none five = absurd (omega (arith, five))
