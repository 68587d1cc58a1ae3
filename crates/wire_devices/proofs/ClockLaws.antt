-- Readings of a clock over memory.
use Rattle.std.proofs.Common.{◌≡◌, ℕ, suc, ◌+◌, List, [], ◌∷◌, ◌++◌, Option, Some, None, option_map, refl, sym, ap, ◌∙◌, add-one}
use Rattle.wire_devices.specs.Telling.{Adds, AddsOne}
use Rattle.wire_devices.specs.Forms.{moment_at, first_readings}

nothing_is_some : {A : Type 0} (x : A) → None ≡ Some x → ⊥
nothing_is_some x e = cc

-- one reading more
pub readings-next : (moments : List ℕ) (reads next : Option ℕ) (m : ℕ) → AddsOne reads next → ((n : ℕ) → reads ≡ Some n → m ≡ moment_at moments n)
    → Adds (option_map (first_readings moments) reads) (option_map (first_readings moments) next) (m ∷ [])
readings-next moments reads None m counts is = record { still = λ ys told. absurd (nothing_is_some ys told) }
readings-next moments None (Some k) m counts is = record { still = λ ys told. absurd (nothing_is_some k (counts.still k refl)) }
readings-next moments (Some n) (Some k) m counts is =
    let counted : Some (n + 1) ≡ Some k = counts.still k refl in
    let same : n + 1 ≡ k = cc in
    let last : first_readings moments n ++ moment_at moments n ∷ [] ≡ first_readings moments n ++ m ∷ [] = ap (λ x. first_readings moments n ++ x ∷ []) (sym (is n refl)) in
    let step : first_readings moments k ≡ first_readings moments n ++ m ∷ [] = sym (ap (first_readings moments) same) ∙ ap (first_readings moments) (add-one n) ∙ last in
    record { still = λ ys told. ap Some (sym step) ∙ told }
