-- The change of one entry, under a filter and under a map.
use Rattle.std.proofs.Common.{◌≡◌, ◌≢◌, ◌<◌, Bool, true, false, cond, ◌&&◌, List, [], ◌∷◌, map, filter, find, Some, refl, sym, ◌∙◌, ap, arith}
use Rattle.std.specs.List.{AllByRecursion}
use Rattle.pending_table.specs.declared.entry.Entry.{Entry}
use Rattle.pending_table.specs.Table.{Row, update_first}
use Rattle.agent_core.specs.Places.{Taking}
use Rattle.agent_core.proofs.LawLemmas.Orders.{Ascending}
use Rattle.agent_core.proofs.ListLemmas.Lists.{map-same, AllByRecursion-weaken, find-All}

-- a row whose entry is changed
abbrev pub changed : (Entry → Entry) → Row → Row
changed f r = (r.0, f r.1)

-- a change that leaves what the filter keeps
pub update_first-filter : (p w n : Entry → Bool) (f : Entry → Entry) → ((e : Entry) → p (f e) ≡ true) → (rs : List Row) → filter (λ r. p r.1) (update_first (λ e. p e && w e && n e) f rs) ≡ update_first (λ e. w e && n e) f (filter (λ r. p r.1) rs)
update_first-filter p w n f keeps [] = refl
update_first-filter p w n f keeps (r ∷ rs) =
    elim (p r.1) as (λ b. p r.1 ≡ b → filter (λ s. p s.1) (cond (b && w r.1 && n r.1) (changed f r ∷ rs) (r ∷ update_first (λ x. p x && w x && n x) f rs)) ≡ update_first (λ x. w x && n x) f (cond b (r ∷ filter (λ s. p s.1) rs) (filter (λ s. p s.1) rs))) [
      | true ↦ (λ is.
          elim (w r.1 && n r.1) as (λ c. filter (λ s. p s.1) (cond c (changed f r ∷ rs) (r ∷ update_first (λ x. p x && w x && n x) f rs)) ≡ cond c (changed f r ∷ filter (λ s. p s.1) rs) (r ∷ update_first (λ x. w x && n x) f (filter (λ s. p s.1) rs))) [
            | true ↦ rw (keeps r.1) refl
            | false ↦ rw is (ap (λ s. r ∷ s) (update_first-filter p w n f keeps rs))
          ])
      | false ↦ (λ is. rw is (update_first-filter p w n f keeps rs))
    ] refl

-- the change of the first of these rows that meets the test is the change of one taking's row
pub update_first-map : (q : Entry → Bool) (f : Entry → Entry) (g h : Taking → Row) (t : Taking) → h t ≡ changed f (g t) → ((u : Taking) → u.place ≢ t.place → h u ≡ g u) → (ts : List Taking) → Ascending ts → find (λ u. q (g u).1) ts ≡ Some t → update_first q f (map g ts) ≡ map h ts
update_first-map q f g h t given others [] up found = absurd (cc)
update_first-map q f g h t given others (u ∷ ts) up found =
    elim (q (g u).1) as (λ b. cond b (Some u) (find (λ v. q (g v).1) ts) ≡ Some t → cond b (changed f (g u) ∷ map g ts) (g u ∷ update_first q f (map g ts)) ≡ h u ∷ map h ts) [
      | true ↦ (λ e.
          let same : u ≡ t = cc in
          let head : changed f (g u) ≡ h u = ap (λ v. changed f (g v)) same ∙ sym given ∙ ap h (sym same) in
          let tail : map g ts ≡ map h ts = map-same g h ts (AllByRecursion-weaken _ _ (λ v later. sym (others v (λ (e : v.place ≡ t.place). let back : t.place ≡ u.place = ap (λ (x : Taking). x.place) (sym same) in omega arith))) ts up.0) in
          cc)
      | false ↦ (λ e.
          let before : u.place < t.place = find-All (λ v. u.place < v.place) (λ v. q (g v).1) ts up.0 t e in
          let head : h u ≡ g u = others u (λ (same : u.place ≡ t.place). omega arith) in
          let tail = update_first-map q f g h t given others ts up.1 e in
          cc)
    ] found

-- the takings of one place are one taking
pub Ascending-one : (p : Taking → Bool) (t : Taking) (ts : List Taking) → Ascending ts → find p ts ≡ Some t → AllByRecursion (λ u. u.place ≡ t.place → u ≡ t) ts
Ascending-one p t [] up found = tt
Ascending-one p t (u ∷ ts) up found =
    elim (p u) as (λ b. cond b (Some u) (find p ts) ≡ Some t → (u.place ≡ t.place → u ≡ t) × AllByRecursion (λ v. v.place ≡ t.place → v ≡ t) ts) [
      | true ↦ (λ e.
          let same : u ≡ t = cc in
          let here : u.place ≡ t.place = ap (λ (x : Taking). x.place) same in (
            (λ _. same),
            AllByRecursion-weaken (λ v. u.place < v.place) (λ v. v.place ≡ t.place → v ≡ t) (λ v later there. absurd (omega arith)) ts up.0,
          ))
      | false ↦ (λ e.
          let before : u.place < t.place = find-All (λ v. u.place < v.place) p ts up.0 t e in ((λ there. absurd (omega arith)), Ascending-one p t ts up.1 e))
    ] found
