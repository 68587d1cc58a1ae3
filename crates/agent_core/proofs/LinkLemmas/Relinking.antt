-- The rows once the requests that wait are sent over a link that opens.
use Rattle.std.proofs.Common.{◌≡◌, ℕ, ◌+◌, ◌<◌, Bool, true, false, List, [], ◌∷◌, map, filter, Option, Some, None, refl, sym, ◌∙◌, ap, arith}
use Rattle.std.specs.List.{AllByRecursion}
use Rattle.std.proofs.lemmas.Bool.{ne_eqb, eq-eqb}
use Rattle.pending_table.specs.declared.entry.Entry.{Entry}
use Rattle.pending_table.specs.Table as table
use Rattle.agent_core.specs.Places.{Place, Taking, match_of, is_at, rank}
use Rattle.agent_core.specs.Standing.{row_of, entry_of}
use Rattle.agent_core.proofs.LawLemmas.Orders.{Ascending}
use Rattle.agent_core.proofs.ListLemmas.Lists.{AllByRecursion-weaken, AllByRecursion-filter}
use Rattle.agent_core.proofs.LawLemmas.Soundness.{hop-elsewhere}
use Rattle.agent_core.proofs.StandingLemmas.Places.{row-by, row-then}

rank-none : (place n : ℕ) (ts : List Taking) → AllByRecursion (λ u. place < u.place) ts → rank place n ts ≡ None
rank-none place n [] all = refl
rank-none place n (t ∷ ts) all =
    rw (ne_eqb t.place place (λ (e : t.place ≡ place). let h = all.0 in omega arith)) (rank-none place (n + 1) ts all.1)

abbrev has_row : Place → List Place → (Taking → Bool) → (Entry → Bool) → Taking → Type 0
has_row p ps w test t = test (entry_of ps t) ≡ w t

abbrev is_ranked : Place → (Taking → Bool) → ℕ → List Taking → Taking → Type 0
is_ranked p w n ts t = rank t.place 0 p.resent ≡ rank t.place n (filter w ts)

both-of : (P Q : Taking → Type 0) (ts : List Taking) → AllByRecursion P ts → AllByRecursion Q ts → AllByRecursion (λ t. P t × Q t) ts
both-of P Q [] ps qs = tt
both-of P Q (t ∷ ts) ps qs = ((ps.0, qs.0), both-of P Q ts ps.1 qs.1)

-- the live rows in order, from the n-th that waits on
pub relinked-rows : (p : Place) (ps : List Place) (w : Taking → Bool) (test : Entry → Bool) → p.taken ≡ None → p.matched ≡ None → (n : ℕ) (ts : List Taking) → Ascending ts → AllByRecursion (has_row p ps w test) ts → AllByRecursion (is_ranked p w n ts) ts → table.numbered test p.link.number n (map (row_of ps) ts) ≡ map (row_of (p ∷ ps)) ts
relinked-rows p ps w test untaken unmatched n [] up tests ranks = refl
relinked-rows p ps w test untaken unmatched n (t ∷ ts) up tests ranks =
    let apart : is_at t.place p.taken ≡ false = ap (λ (o : Option Taking). is_at t.place o) untaken in
    let hop = hop-elsewhere t p apart in
    elim (w t) as (λ b. w t ≡ b → table.numbered test p.link.number n (row_of ps t ∷ map (row_of ps) ts) ≡ row_of (p ∷ ps) t ∷ map (row_of (p ∷ ps)) ts) [
      | true ↦ (λ is.
          let first : rank t.place 0 p.resent ≡ Some n = ranks.0 ∙ rw (is, eq-eqb t.place t.place refl) refl in
          let head : row_of (p ∷ ps) t ≡ row-by p ps t (Some n) (match_of t.place ps) = row-then p ps t (Some n) unmatched (hop ∙ first) in
          let rest = AllByRecursion-weaken (λ u. (t.place < u.place) × is_ranked p w n (t ∷ ts) u) (is_ranked p w (n + 1) ts) (λ u both. both.1 ∙ rw (is, ne_eqb t.place u.place (λ (e : t.place ≡ u.place). let h = both.0 in omega arith)) refl) ts (both-of _ _ ts up.0 ranks.1) in
          let tail = relinked-rows p ps w test untaken unmatched (n + 1) ts up.1 tests.1 rest in
          rw (tests.0 ∙ is) (ap (λ r. r ∷ table.numbered test p.link.number (n + 1) (map (row_of ps) ts)) (sym head) ∙ ap (λ rs. row_of (p ∷ ps) t ∷ rs) tail))
      | false ↦ (λ is.
          let none : rank t.place 0 p.resent ≡ None = ranks.0 ∙ rw is (rank-none t.place n (filter w ts) (AllByRecursion-filter _ w ts up.0)) in
          let head : row_of (p ∷ ps) t ≡ row-by p ps t None (match_of t.place ps) = row-then p ps t None unmatched (hop ∙ none) in
          let rest = AllByRecursion-weaken (is_ranked p w n (t ∷ ts)) (is_ranked p w n ts) (λ u r. r ∙ rw is refl) ts ranks.1 in
          let tail = relinked-rows p ps w test untaken unmatched n ts up.1 tests.1 rest in
          rw (tests.0 ∙ is) (ap (λ r. r ∷ table.numbered test p.link.number n (map (row_of ps) ts)) (sym head) ∙ ap (λ rs. row_of (p ∷ ps) t ∷ rs) tail))
    ] refl
