-- The keys of a table, in the order of the code.
use Rattle.std.proofs.Common.{◌≡◌, ℕ, Bool, true, false, cond, List, [], ◌∷◌, map, filter, Option, None, Some, IfSome, String, Global, Less, Greater, string_bytes, nat_cmp, refl, ap, ◌∙◌, inl, inr}
use Rattle.std.specs.Cmp.Lexicographic.{slice_cmp}
use Rattle.std.specs.List.{AllByRecursion}
use Rattle.std.specs.List.Sorted.{IsStrictlySortedBy}
use Rattle.std.specs.Map.{keys_of}
use Rattle.std.specs.Ordering.{is_lt, ordering_reverse}
use Rattle.std.specs.String.{string_cmp}
use Rattle.std.proofs.lemmas.Bool.{cases_Bool}
use Rattle.std.proofs.lemmas.Cmp.{nat_list_cmp_total}
use Rattle.toml.specs.View.{members_view}
use Rattle.toml.specs.declared.value.Value.{Value}
use Rattle.agent_config.specs.Settings.{earlier, keys_in, least}

pub keys_in-view : (es : List (String Global × Value)) → keys_in (members_view es) ≡ map string_bytes (keys_of es)
keys_in-view [] = refl
keys_in-view (e ∷ es) = ap (λ ks. string_bytes e.0 ∷ ks) (keys_in-view es)

abbrev IsAbove : List ℕ → List ℕ → Type 0
IsAbove k l = slice_cmp nat_cmp k l ≡ Less

earlier-above : (k x : List ℕ) (o : Option (List ℕ)) → IsAbove k x → IfSome o (IsAbove k) → IsAbove k (earlier x o)
earlier-above k x None here rest = here
earlier-above k x (Some l) here rest =
    elim (is_lt (slice_cmp nat_cmp l x)) as (λ b. IsAbove k (cond b l x)) [ true ↦ rest | false ↦ here ]

-- keys above one stay above it, whichever of them are kept
least-above : (test : List ℕ → Bool) (k : String Global) (ks : List (String Global)) → AllByRecursion (λ l. string_cmp k l ≡ Less) ks
    → IfSome (least (filter test (map string_bytes ks))) (IsAbove (string_bytes k))
least-above test k [] above = tt
least-above test k (l ∷ ks) above =
    elim (cases_Bool (test (string_bytes l))) [
      | inl kept ↦ rw kept (earlier-above (string_bytes k) (string_bytes l) _ above.0 (least-above test k ks above.1))
      | inr left ↦ rw left (least-above test k ks above.1)
    ]

earlier-first : (k : List ℕ) (o : Option (List ℕ)) → IfSome o (IsAbove k) → earlier k o ≡ k
earlier-first k None above = refl
earlier-first k (Some l) above =
    let below : slice_cmp nat_cmp l k ≡ Greater = nat_list_cmp_total.antisymm l k ∙ ap ordering_reverse above in
    rw below refl

module _ (test : List ℕ → Bool) (k : String Global) (ks : List (String Global)) (sorted : IsStrictlySortedBy string_cmp (k ∷ ks)) where
  -- the first key that is kept is the least, since keys ascend
  pub least-first : test (string_bytes k) ≡ true → least (filter test (map string_bytes (k ∷ ks))) ≡ Some (string_bytes k)
  unfolding IsStrictlySortedBy
  least-first kept = rw kept (ap Some (earlier-first (string_bytes k) _ (least-above test k ks sorted.0)))

  pub sorted-rest : IsStrictlySortedBy string_cmp ks
  unfolding IsStrictlySortedBy
  sorted-rest = sorted.1

pub least-rest : (test : List ℕ → Bool) (k : String Global) (ks : List (String Global)) → test (string_bytes k) ≡ false
    → least (filter test (map string_bytes (k ∷ ks))) ≡ least (filter test (map string_bytes ks))
least-rest test k ks left = rw left refl
