-- The numbers of the present link rise in the order of taking, so no two requests have the same.
use Rattle.std.proofs.Common.{◌≡◌, ℕ, ◌+◌, ◌<◌, ◌≤◌, ◌⊎◌, inl, inr, Bool, true, false, cond, List, [], ◌∷◌, ◌++◌, Option, Some, None, refl, sym, ◌∙◌, ap, arith}
use Rattle.std.specs.Prelude.{◌==◌}
use Rattle.std.specs.List.{AllByRecursion}
use Rattle.std.proofs.lemmas.Bool.{ne_eqb, eqb-true}
use Rattle.agent_settings.specs.declared.config.Config.{Config}
use Rattle.agent_core.specs.Places.{Place, Taking, link, begins, used, is_at, hop_at, rank}
use Rattle.agent_core.specs.Standing.{last_sent}
use Rattle.agent_core.proofs.LawLemmas.Orders.{Ascending}
use Rattle.agent_core.proofs.LawLemmas.Soundness.{TakingFits, Goes, IsUnused, last-by, hop-elsewhere}
use Rattle.agent_core.proofs.ListLemmas.Lists.{AllByRecursion-push}

-- where both were last sent on the present link, the later one has the greater hop
abbrev pub Rises : List Place → Taking → Taking → Type 0
Rises ps t u = (last_sent ps t).0 ≡ (link ps).number → (last_sent ps u).0 ≡ (link ps).number → (last_sent ps t).1 < (last_sent ps u).1

abbrev pub Rising : List Place → List Taking → Type 0
Rising ps [] = Unit {0}
Rising ps (t ∷ ts) = AllByRecursion (Rises ps t) ts × Rising ps ts

-- ---- ranks

rank-least : (place n : ℕ) (ts : List Taking) (k : ℕ) → rank place n ts ≡ Some k → n ≤ k
rank-least place n [] k e = absurd (cc)
rank-least place n (t ∷ ts) k e =
    elim (t.place == place) as (λ b. cond b (Some n) (rank place (n + 1) ts) ≡ Some k → n ≤ k) [
      | true ↦ (λ f. let same : n ≡ k = cc in omega arith)
      | false ↦ (λ f. let h = rank-least place (n + 1) ts k f in omega arith)
    ] e

rank-none : (place n : ℕ) (ts : List Taking) → AllByRecursion (λ u. place < u.place) ts → rank place n ts ≡ None
rank-none place n [] all = refl
rank-none place n (t ∷ ts) all =
    rw (ne_eqb t.place place (λ (e : t.place ≡ place). let h = all.0 in omega arith)) (rank-none place (n + 1) ts all.1)

below-all : (place other : ℕ) (ts : List Taking) → place < other → AllByRecursion (λ u. other < u.place) ts → AllByRecursion (λ u. place < u.place) ts
below-all place other [] less all = tt
below-all place other (t ∷ ts) less all = (let h = all.0 in omega arith, below-all place other ts less all.1)

-- where the first of both stands at the front
rank-front : (n : ℕ) (other : ℕ) (t : Taking) (ts : List Taking) (i j : ℕ) → t.place < other → n ≡ i → rank other n (t ∷ ts) ≡ Some j → i < j
rank-front n other t ts i j less is e =
    let apart : t.place == other ≡ false = ne_eqb t.place other (λ (same : t.place ≡ other). omega arith) in
    let rest : rank other (n + 1) ts ≡ Some j = sym (ap (λ b. cond b (Some n) (rank other (n + 1) ts)) apart) ∙ e in
    let h = rank-least other (n + 1) ts j rest in
    omega arith

-- where the second of both stands at the front, the first isn't there
rank-behind : (n place : ℕ) (t : Taking) (ts : List Taking) (i : ℕ) → AllByRecursion (λ u. t.place < u.place) ts → place < t.place → rank place (n + 1) ts ≡ Some i → ⊥
rank-behind n place t ts i above less e =
    let none = rank-none place (n + 1) ts (below-all place t.place ts less above) in
    absurd (cc)

rank-rises : (place other n : ℕ) (ts : List Taking) (i j : ℕ) → Ascending ts → place < other → rank place n ts ≡ Some i → rank other n ts ≡ Some j → i < j
rank-rises place other n [] i j up less e f = absurd (cc)
rank-rises place other n (t ∷ ts) i j up less e f =
    elim (t.place == place) as (λ b. t.place == place ≡ b → cond b (Some n) (rank place (n + 1) ts) ≡ Some i → i < j) [
      | true ↦ (λ here e'.
          let same : t.place ≡ place = eqb-true _ _ here in
          let is : n ≡ i = cc in
          rank-front n other t ts i j (omega arith) is f)
      | false ↦ (λ here e'.
          elim (t.place == other) as (λ c. t.place == other ≡ c → cond c (Some n) (rank other (n + 1) ts) ≡ Some j → i < j) [
            | true ↦ (λ there f'.
                let same : t.place ≡ other = eqb-true _ _ there in
                absurd (rank-behind n place t ts i up.0 (omega arith) e'))
            | false ↦ (λ there f'. rank-rises place other (n + 1) ts i j up.1 less e' f')
          ] refl f)
    ] refl e

-- ---- one place

-- what the last Sends of two requests are, before a place
record Both (last next : ℕ × ℕ) (link used : ℕ) : Type 0 where
  pub first : last.0 ≤ link
  pub second : next.0 ≤ link
  pub first_within : last.0 ≡ link → last.1 < used
  pub second_within : next.0 ≡ link → next.1 < used
  pub rises : last.0 ≡ link → next.0 ≡ link → last.1 < next.1

-- nothing is sent again, or over a link that has sent nothing
abbrev Unsent : Option ℕ → Option ℕ → Bool → ℕ → Type 0
Unsent o q b used = ((o ≡ None) × (q ≡ None)) ⊎ ((b ≡ true) ⊎ (used ≡ 0))

-- an older hop isn't of a link that sends anew
older-not : (o q : Option ℕ) (b : Bool) (last : ℕ × ℕ) (link used number k : ℕ) → last.0 ≤ link → (last.0 ≡ link → last.1 < used) → number ≡ cond b (link + 1) link → Unsent o q b used → (((o ≡ None) × (q ≡ None)) → ⊥) → last.0 ≡ number → ⊥
older-not o q true last link used number k low within is unsent some e = omega arith
older-not o q false last link used number k low within is (inl both) some e = some both
older-not o q false last link used number k low within is (inr (inl anew)) some e = absurd (cc)
older-not o q false last link used number k low within is (inr (inr none)) some e =
    let same : last.0 ≡ link = e ∙ is in
    let h = within same in
    omega arith

rises-by : (p : Place) (o q : Option ℕ) (b : Bool) (last next : ℕ × ℕ) (link used : ℕ) → Both last next link used → p.link.number ≡ cond b (link + 1) link → ((i j : ℕ) → o ≡ Some i → q ≡ Some j → i < j) → Unsent o q b used → (last-by p last o).0 ≡ p.link.number → (last-by p next q).0 ≡ p.link.number → (last-by p last o).1 < (last-by p next q).1
rises-by p (Some i) (Some j) b last next link used was is ranks unsent e f = ranks i j refl refl
rises-by p None (Some j) b last next link used was is ranks unsent e f =
    absurd (older-not None (Some j) b last link used p.link.number j was.first was.first_within is unsent (λ both. let no : ◌≡◌ {A = Option ℕ} (Some j) None = both.1 in absurd (cc)) e)
rises-by p (Some i) None b last next link used was is ranks unsent e f =
    absurd (older-not (Some i) None b next link used p.link.number i was.second was.second_within is unsent (λ both. let no : ◌≡◌ {A = Option ℕ} (Some i) None = both.0 in absurd (cc)) f)
rises-by p None None true last next link used was is ranks unsent e f = absurd (let h = was.first in omega arith)
rises-by p None None false last next link used was is ranks unsent e f = was.rises (e ∙ is) (f ∙ is)

unsent-by : (ps : List Place) (p : Place) (t u : Taking) → hop_at t p ≡ rank t.place 0 p.resent → hop_at u p ≡ rank u.place 0 p.resent → IsUnused ps p → Unsent (hop_at t p) (hop_at u p) (begins ps p.input) (used ps)
unsent-by ps p t u hop other (inl none) = inl ((hop ∙ ap (rank t.place 0) none, other ∙ ap (rank u.place 0) none))
unsent-by ps p t u hop other (inr either) = inr either

rises-on : (config : Config) (ps : List Place) (p : Place) (t u : Taking) → Goes ps p → is_at t.place p.taken ≡ false → is_at u.place p.taken ≡ false → TakingFits config ps t → TakingFits config ps u → t.place < u.place → Rises ps t u → Rises (p ∷ ps) t u
rises-on config ps p t u goes apart apart_too fits fits_too less rises =
    let hop = hop-elsewhere t p apart in
    let other = hop-elsewhere u p apart_too in
    let ranks : (i j : ℕ) → hop_at t p ≡ Some i → hop_at u p ≡ Some j → i < j =
    (λ i j e f. rank-rises t.place u.place 0 p.resent i j goes.order less (sym hop ∙ e) (sym other ∙ f))
    in
    rises-by p (hop_at t p) (hop_at u p) (begins ps p.input) (last_sent ps t) (last_sent ps u) (link ps).number (used ps)
    (record { first = fits.linked; second = fits_too.linked; first_within = fits.within; second_within = fits_too.within; rises = rises })
    goes.number ranks (unsent-by ps p t u hop other goes.unused)

-- ---- lists

rises-all : (config : Config) (ps : List Place) (p : Place) (t : Taking) → Goes ps p → is_at t.place p.taken ≡ false → TakingFits config ps t → (us : List Taking) → AllByRecursion (λ u. is_at u.place p.taken ≡ false) us → AllByRecursion (TakingFits config ps) us → AllByRecursion (λ u. t.place < u.place) us → AllByRecursion (Rises ps t) us → AllByRecursion (Rises (p ∷ ps) t) us
rises-all config ps p t goes apart fits [] aparts each above rises = tt
rises-all config ps p t goes apart fits (u ∷ us) aparts each above rises =
    (rises-on config ps p t u goes apart aparts.0 fits each.0 above.0 rises.0, rises-all config ps p t goes apart fits us aparts.1 each.1 above.1 rises.1)

pub Rising-on : (config : Config) (ps : List Place) (p : Place) → Goes ps p → (ts : List Taking) → AllByRecursion (λ u. is_at u.place p.taken ≡ false) ts → AllByRecursion (TakingFits config ps) ts → Ascending ts → Rising ps ts → Rising (p ∷ ps) ts
Rising-on config ps p goes [] aparts each up rising = tt
Rising-on config ps p goes (t ∷ ts) aparts each up rising =
    (rises-all config ps p t goes aparts.0 each.0 ts aparts.1 each.1 up.0 rising.0, Rising-on config ps p goes ts aparts.1 each.1 up.1 rising.1)

pub Rising-push : (ps : List Place) (ts : List Taking) (t : Taking) → AllByRecursion (λ u. Rises ps u t) ts → Rising ps ts → Rising ps (ts ++ t ∷ [])
Rising-push ps [] t below rising = (tt, tt)
Rising-push ps (u ∷ ts) t below rising = (AllByRecursion-push _ ts t rising.0 below.0, Rising-push ps ts t below.1 rising.1)
