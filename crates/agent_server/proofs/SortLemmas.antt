-- How outputs are sorted.
use Rattle.std.proofs.Common.{◌≡◌, ℕ, ◌+◌, ◌<◌, ◌≤◌, Bool, true, false, cond, List, [], ◌∷◌, ◌++◌, length, filter, ap, ◌∙◌, sym, append_assoc, arith}
use Rattle.std.proofs.lemmas.List.{append-nil, length-append}
use Rattle.std.proofs.lemmas.List.Elements.{filter-append}
use Rattle.agent_events.specs.declared.events.Output.{Output}

-- these stand there now, no more than came, and there is as much room as there was
pub record Sorts (before capacity : ℕ) (yielded now : List Output) (room : ℕ) (wanted : List Output) : Type 0 where
  pub items : now ≡ wanted
  pub few : length now ≤ before + length yielded
  pub kept : capacity ≤ room

module _ (test : Output → Bool) (capacity : ℕ) (first yielded now : List Output) (x : Output) where
  filter-last : filter test (yielded ++ x ∷ []) ≡ filter test yielded ++ cond (test x) (x ∷ []) []
  filter-last = filter-append test yielded (x ∷ [])

  -- one more came, which doesn't belong there
  pub sorts-past : (room : ℕ) → test x ≡ false → Sorts (length first) capacity yielded now room (first ++ filter test yielded)
      → Sorts (length first) capacity (yielded ++ x ∷ []) now room (first ++ filter test (yielded ++ x ∷ []))
  sorts-past room other sorts =
      let last : filter test (yielded ++ x ∷ []) ≡ filter test yielded =
      filter-last ∙ ap (λ b. filter test yielded ++ cond b (x ∷ []) []) other ∙ append-nil (filter test yielded) in
      record {
        items = sorts.items ∙ ap (λ l. first ++ l) (sym last);
        few = omega (arith, sorts.few, length-append yielded (x ∷ []));
        kept = sorts.kept;
      }

  -- one more came, which was put there
  pub sorts-in : (len room room' : ℕ) (now' all rest : List Output) → test x ≡ true → len ≡ length now → (len < room → now' ≡ now ++ x ∷ []) → room ≤ room'
      → (yielded ++ x ∷ []) ++ rest ≡ all → length first + length all ≤ capacity → Sorts (length first) capacity yielded now room (first ++ filter test yielded)
      → Sorts (length first) capacity (yielded ++ x ∷ []) now' room' (first ++ filter test (yielded ++ x ∷ []))
  sorts-in len room room' now' all rest belongs long_is put grows whole fits sorts =
      let last : filter test (yielded ++ x ∷ []) ≡ filter test yielded ++ x ∷ [] =
      filter-last ∙ ap (λ b. filter test yielded ++ cond b (x ∷ []) []) belongs in
      let one : length (yielded ++ x ∷ []) ≡ length yielded + 1 = length-append yielded (x ∷ []) in
      let long : length (yielded ++ x ∷ []) + length rest ≡ length all = sym (length-append (yielded ++ x ∷ []) rest) ∙ ap length whole in
      let is : now' ≡ now ++ x ∷ [] = put (omega (arith, sorts.few, sorts.kept, fits, one, long, long_is)) in
      let more : length now' ≡ length now + 1 = ap length is ∙ length-append now (x ∷ []) in
      record {
        items = is ∙ ap (λ l. l ++ x ∷ []) sorts.items ∙ append_assoc first (filter test yielded) (x ∷ []) ∙ ap (λ l. first ++ l) (sym last);
        few = omega (arith, sorts.few, one, more);
        kept = omega (arith, sorts.kept, grows);
      }
