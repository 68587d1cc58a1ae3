-- The words of an agent line and of a client line by their places.
use Rattle.std.proofs.Common.{◌≡◌, ◌≢◌, ℕ, ◌<◌, ◌≤◌, List, [], ◌∷◌, length, drop, None, Bor, slice_index_or, refl, arith}
use Rattle.text_lines.specs.Views.{plain}
use Rattle.transcript.specs.Lines.{client_by, client_of, first_of, settings_by, settings_of}

pub too_few : (ws : List (Bor (List ℕ))) → length ws < 10 → settings_of (plain ws) ≡ None
too_few [] few = refl
too_few (a ∷ []) few = refl
too_few (a ∷ b ∷ []) few = refl
too_few (a ∷ b ∷ c ∷ []) few = refl
too_few (a ∷ b ∷ c ∷ d ∷ []) few = refl
too_few (a ∷ b ∷ c ∷ d ∷ e ∷ []) few = refl
too_few (a ∷ b ∷ c ∷ d ∷ e ∷ f ∷ []) few = refl
too_few (a ∷ b ∷ c ∷ d ∷ e ∷ f ∷ g ∷ []) few = refl
too_few (a ∷ b ∷ c ∷ d ∷ e ∷ f ∷ g ∷ h ∷ []) few = refl
too_few (a ∷ b ∷ c ∷ d ∷ e ∷ f ∷ g ∷ h ∷ i ∷ []) few = refl
too_few (a ∷ b ∷ c ∷ d ∷ e ∷ f ∷ g ∷ h ∷ i ∷ j ∷ more) few = absurd (omega (arith, few))

pub by_place : (ws : List (Bor (List ℕ))) (none : Bor (List ℕ)) → 10 ≤ length ws
    → settings_of (plain ws)
    ≡ settings_by (slice_index_or ws 1 none).now (slice_index_or ws 2 none).now (slice_index_or ws 3 none).now
    (slice_index_or ws 4 none).now (slice_index_or ws 5 none).now (slice_index_or ws 6 none).now
    (slice_index_or ws 7 none).now (slice_index_or ws 8 none).now (slice_index_or ws 9 none).now
    (first_of (plain (drop 10 ws)))
by_place [] none many = absurd (omega (arith, many))
by_place (a ∷ []) none many = absurd (omega (arith, many))
by_place (a ∷ b ∷ []) none many = absurd (omega (arith, many))
by_place (a ∷ b ∷ c ∷ []) none many = absurd (omega (arith, many))
by_place (a ∷ b ∷ c ∷ d ∷ []) none many = absurd (omega (arith, many))
by_place (a ∷ b ∷ c ∷ d ∷ e ∷ []) none many = absurd (omega (arith, many))
by_place (a ∷ b ∷ c ∷ d ∷ e ∷ f ∷ []) none many = absurd (omega (arith, many))
by_place (a ∷ b ∷ c ∷ d ∷ e ∷ f ∷ g ∷ []) none many = absurd (omega (arith, many))
by_place (a ∷ b ∷ c ∷ d ∷ e ∷ f ∷ g ∷ h ∷ []) none many = absurd (omega (arith, many))
by_place (a ∷ b ∷ c ∷ d ∷ e ∷ f ∷ g ∷ h ∷ i ∷ []) none many = absurd (omega (arith, many))
by_place (a ∷ b ∷ c ∷ d ∷ e ∷ f ∷ g ∷ h ∷ i ∷ j ∷ more) none many = refl

pub not_nine : (ws : List (Bor (List ℕ))) → length ws ≢ 9 → client_of (plain ws) ≡ None
not_nine [] other = refl
not_nine (a ∷ []) other = refl
not_nine (a ∷ b ∷ []) other = refl
not_nine (a ∷ b ∷ c ∷ []) other = refl
not_nine (a ∷ b ∷ c ∷ d ∷ []) other = refl
not_nine (a ∷ b ∷ c ∷ d ∷ e ∷ []) other = refl
not_nine (a ∷ b ∷ c ∷ d ∷ e ∷ f ∷ []) other = refl
not_nine (a ∷ b ∷ c ∷ d ∷ e ∷ f ∷ g ∷ []) other = refl
not_nine (a ∷ b ∷ c ∷ d ∷ e ∷ f ∷ g ∷ h ∷ []) other = refl
not_nine (a ∷ b ∷ c ∷ d ∷ e ∷ f ∷ g ∷ h ∷ i ∷ []) other = absurd (other refl)
not_nine (a ∷ b ∷ c ∷ d ∷ e ∷ f ∷ g ∷ h ∷ i ∷ j ∷ more) other = refl

pub client_by_place : (ws : List (Bor (List ℕ))) (none : Bor (List ℕ)) → length ws ≡ 9
    → client_of (plain ws)
    ≡ client_by (slice_index_or ws 1 none).now (slice_index_or ws 2 none).now (slice_index_or ws 3 none).now
    (slice_index_or ws 4 none).now (slice_index_or ws 5 none).now (slice_index_or ws 6 none).now
    (slice_index_or ws 7 none).now (slice_index_or ws 8 none).now
client_by_place [] none nine = absurd (omega (arith, nine))
client_by_place (a ∷ []) none nine = absurd (omega (arith, nine))
client_by_place (a ∷ b ∷ []) none nine = absurd (omega (arith, nine))
client_by_place (a ∷ b ∷ c ∷ []) none nine = absurd (omega (arith, nine))
client_by_place (a ∷ b ∷ c ∷ d ∷ []) none nine = absurd (omega (arith, nine))
client_by_place (a ∷ b ∷ c ∷ d ∷ e ∷ []) none nine = absurd (omega (arith, nine))
client_by_place (a ∷ b ∷ c ∷ d ∷ e ∷ f ∷ []) none nine = absurd (omega (arith, nine))
client_by_place (a ∷ b ∷ c ∷ d ∷ e ∷ f ∷ g ∷ []) none nine = absurd (omega (arith, nine))
client_by_place (a ∷ b ∷ c ∷ d ∷ e ∷ f ∷ g ∷ h ∷ []) none nine = absurd (omega (arith, nine))
client_by_place (a ∷ b ∷ c ∷ d ∷ e ∷ f ∷ g ∷ h ∷ i ∷ []) none nine = refl
client_by_place (a ∷ b ∷ c ∷ d ∷ e ∷ f ∷ g ∷ h ∷ i ∷ j ∷ more) none nine = absurd (omega (arith, nine))
