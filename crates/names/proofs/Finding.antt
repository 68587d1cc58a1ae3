-- What is found in a list of rows whose texts lie elsewhere.
use Rattle.std.proofs.Common.{◌≡◌, Bool, true, false, cond, List, [], ◌∷◌, map, Option, Some, None, option_map, Bor, refl, ap, sym, ◌∙◌}
use Rattle.std.specs.List.{find}

module _ {A B : Type 0} (shown : A → B) (test : B → Bool) where
  find-shown : (xs : List A) → option_map shown (find (λ x. test (shown x)) xs) ≡ find test (map shown xs)
  find-shown [] = refl
  find-shown (x ∷ xs) = elim (test (shown x)) as (λ b. option_map shown (cond b (Some x) (find (λ x. test (shown x)) xs)) ≡ cond b (Some (shown x)) (find test (map shown xs))) [
    | true ↦ refl
    | false ↦ find-shown xs
  ]

  named : {C : Type 0} (name : B → C) (r : Option (Bor A)) → option_map (λ b. name (shown b.now)) r ≡ option_map name (option_map shown (option_map (λ b. b.now) r))
  named {C} name None = refl
  named {C} name (Some b) = refl

  named-row : {C : Type 0} (name : B → C) (xs : List A) (rows : List B) (r : Option (Bor A)) → option_map (λ (b : Bor A). b.now) r ≡ find (λ x. test (shown x)) xs → map shown xs ≡ rows
      → option_map (λ (b : Bor A). name (shown b.now)) r ≡ option_map name (find test rows)
  named-row {C} name xs rows r found are =
      named name r ∙ ap (λ o. option_map name (option_map shown o)) found ∙ ap (option_map name) (find-shown xs ∙ ap (find test) are)

  -- what the row that was found gives, and that there is none
  pub none-named : {C : Type 0} (name : B → C) (xs : List A) (rows : List B) (r : Option (Bor A)) → option_map (λ (b : Bor A). b.now) r ≡ find (λ x. test (shown x)) xs → map shown xs ≡ rows
      → r ≡ None → None ≡ option_map name (find test rows)
  none-named {C} name xs rows r found are is = ap (option_map (λ (b : Bor A). name (shown b.now))) (sym is) ∙ named-row name xs rows r found are

  pub some-named : {C : Type 0} (name : B → C) (xs : List A) (rows : List B) (r : Option (Bor A)) (b : Bor A) → option_map (λ (b : Bor A). b.now) r ≡ find (λ x. test (shown x)) xs → map shown xs ≡ rows
      → r ≡ Some b → Some (name (shown b.now)) ≡ option_map name (find test rows)
  some-named {C} name xs rows r b found are is = ap (option_map (λ (b : Bor A). name (shown b.now))) (sym is) ∙ named-row name xs rows r found are
