-- What the values of a document stand for, in the steps of the code.
use Rattle.std.proofs.Common.{◌≡◌, ℕ, ◌+◌, ◌<◌, arith, List, [], ◌∷◌, ◌++◌, length, get_or, drop, Option, None, Some, option_map, append_assoc, refl, sym, ap, ◌∙◌}
use Rattle.std.specs.Option.{option_and_then}
use Rattle.std.proofs.lemmas.List.{at_drop_more}
use Rattle.toml.specs.Data.{Data}
use Rattle.toml.specs.View.{view, items_view}
use Rattle.toml.specs.declared.value.Value.{Value}
use Rattle.agent_config.specs.Values.{count, each}

module _ {X : Type 0} (reads : Data → Option X) (vs : List Value) (i : ℕ) (v : Value) (within : i < length vs) (is : v ≡ get_or vs i v) where
  -- the items from a place on, one item further
  pub each_next : each reads (items_view (drop i vs))
      ≡ option_and_then (λ x. option_map (λ xs. x ∷ xs) (each reads (items_view (drop (i + 1) vs)))) (reads (view v))
  each_next =
      at_drop_more (λ rest. each reads (items_view rest)) vs i v within
      ∙ ap (λ w. each reads (items_view (w ∷ drop (i + 1) vs))) (sym is)

  pub each_stop : reads (view v) ≡ None → each reads (items_view (drop i vs)) ≡ None
  each_stop none = each_next ∙ rw none refl

  pub each_on : (made : List X) (x : X) → reads (view v) ≡ Some x
      → option_map (λ further. made ++ further) (each reads (items_view (drop i vs)))
      ≡ option_map (λ further. (made ++ x ∷ []) ++ further) (each reads (items_view (drop (i + 1) vs)))
  each_on made x some =
      ap (option_map (λ further. made ++ further)) (each_next ∙ rw some refl) ∙ further (each reads (items_view (drop (i + 1) vs)))
    where
      further : (o : Option (List X)) → option_map (λ xs. made ++ xs) (option_map (λ xs. x ∷ xs) o) ≡ option_map (λ xs. (made ++ x ∷ []) ++ xs) o
      further None = refl
      further (Some xs) = ap Some (sym (append_assoc made (x ∷ []) xs))

-- how many items there are
pub count_view : (vs : List Value) → count (items_view vs) ≡ length vs
count_view [] = refl
count_view (v ∷ vs) = ap (λ n. n + 1) (count_view vs) ∙ omega arith
