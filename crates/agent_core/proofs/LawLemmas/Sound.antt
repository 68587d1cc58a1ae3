-- Each past is sound, place by place.
use Rattle.std.proofs.Common.{◌≡◌, ◌≢◌, ℕ, ◌+◌, ◌<◌, ◌≤◌, Bool, true, false, cond, List, [], ◌∷◌, ◌++◌, length, filter, Option, Some, None, refl, sym, ◌∙◌, ap, subst, arith}
use Rattle.std.specs.List.{AllByRecursion}
use Rattle.std.proofs.lemmas.Bool.{ne_eqb}
use Rattle.std.proofs.lemmas.List.{length-append}
use Rattle.std.proofs.lemmas.List.Elements.{filter-append}
use Rattle.agent_settings.specs.declared.config.Config.{Config}
use Rattle.agent_events.specs.declared.events.Input.{Input}
use Rattle.agent_core.specs.Places.{Place, Taking, now, takings, with_taking, match_of, is_at, serial}
use Rattle.agent_core.specs.History.{taking_place}
use Rattle.agent_core.proofs.LawLemmas.Orders.{Ascending}
use Rattle.agent_core.proofs.ListLemmas.Lists.{AllByRecursion-push, AllByRecursion-weaken}
use Rattle.agent_core.proofs.LawLemmas.Soundness.{TakingFits, TakingFits-on, Goes}
use Rattle.agent_core.proofs.LawLemmas.Rising.{Rises, Rising, Rising-on, Rising-push}

pub record IsSound (config : Config) (ps : List Place) : Type 0 where
  pub each : AllByRecursion (TakingFits config ps) (takings ps)
  pub ascending : Ascending (takings ps)
  pub rising : Rising ps (takings ps)
  pub counted : serial ps ≤ 18446744073709551615
  pub open_ahead : (n : ℕ) → length ps ≤ n → match_of n ps ≡ None
  pub matched_by : (n : ℕ) (p : Place) → match_of n ps ≡ Some p → p.moment ≤ now ps

-- nothing was taken up before the history
pub IsSound-nil : (config : Config) → IsSound config []
IsSound-nil config =
    record { each = tt; ascending = tt; rising = tt; counted = omega arith; open_ahead = λ n ahead. refl; matched_by = λ n p e. absurd (cc) }

pub all-of : (P : Taking → Type 0) → ((t : Taking) → P t) → (ts : List Taking) → AllByRecursion P ts
all-of P every [] = tt
all-of P every (t ∷ ts) = (every t, all-of P every ts)

both-on : (config : Config) (ps : List Place) (p : Place) → Goes ps p → (ts : List Taking) → AllByRecursion (λ u. is_at u.place p.taken ≡ false) ts → AllByRecursion (TakingFits config ps) ts → AllByRecursion (TakingFits config (p ∷ ps)) ts
both-on config ps p goes [] aparts each = tt
both-on config ps p goes (t ∷ ts) aparts each = (TakingFits-on config ps p t goes aparts.0 each.0, both-on config ps p goes ts aparts.1 each.1)

-- a place that matches is none of a later moment
match-by : (place : Place) (ps : List Place) (b : Bool) (n : ℕ) (p : Place) → now ps ≤ place.moment → ((q : Place) → match_of n ps ≡ Some q → q.moment ≤ now ps) → cond b (Some place) (match_of n ps) ≡ Some p → p.moment ≤ place.moment
match-by place ps true n p later by e =
    let same : place ≡ p = cc in
    let at : place.moment ≡ p.moment = ap (λ (q : Place). q.moment) same in
    omega arith
match-by place ps false n p later by e = let h = by p e in omega arith

-- a place that takes nothing up, and matches no request ahead
pub IsSound-on : (config : Config) (ps : List Place) (p : Place) → Goes ps p → p.taken ≡ None → ((n : ℕ) → length ps ≤ n → is_at n p.matched ≡ false) → IsSound config ps → IsSound config (p ∷ ps)
IsSound-on config ps p goes untaken behind sound =
    let same : takings ps ≡ takings (p ∷ ps) = ap (λ (o : Option Taking). with_taking o (takings ps)) (sym untaken) in
    let aparts : AllByRecursion (λ (u : Taking). is_at u.place p.taken ≡ false) (takings ps) = all-of _ (λ u. ap (λ (o : Option Taking). is_at u.place o) untaken) (takings ps) in
    record {
      each = subst (AllByRecursion (TakingFits config (p ∷ ps))) same (both-on config ps p goes (takings ps) aparts sound.each);
      ascending = subst Ascending same sound.ascending;
      rising = subst (Rising (p ∷ ps)) same (Rising-on config ps p goes (takings ps) aparts sound.each sound.ascending sound.rising);
      counted = subst (λ (ts : List Taking). length (filter (λ (t : Taking). t.fresh) ts) ≤ 18446744073709551615) same sound.counted;
      open_ahead = λ n ahead.
          let more : length ps ≤ n = omega arith in
          ap (λ b. cond b (Some p) (match_of n ps)) (behind n more) ∙ sound.open_ahead n more;
      matched_by = λ n q. match-by p ps (is_at n p.matched) n q goes.later (sound.matched_by n);
    }

-- where an earlier request was matched, none ahead is
pub not-ahead : (ps : List Place) (t : Taking) (n : ℕ) → t.place < length ps → length ps ≤ n → is_at n (Some t) ≡ false
not-ahead ps t n below ahead = ne_eqb _ _ (λ (e : t.place ≡ n). omega arith)

Ascending-push : (ts : List Taking) (t : Taking) → AllByRecursion (λ u. u.place < t.place) ts → Ascending ts → Ascending (ts ++ t ∷ [])
Ascending-push [] t below up = (tt, tt)
Ascending-push (u ∷ ts) t below up = (AllByRecursion-push _ ts t up.0 below.0, Ascending-push ts t below.1 up.1)

one-more : (t : Taking) → length (filter (λ (u : Taking). u.fresh) (t ∷ [])) ≤ 1
one-more t = elim t.fresh as (λ b. length (cond b (t ∷ []) []) ≤ 1) [
  | true ↦ omega arith
  | false ↦ omega arith
]

-- a place that takes a request up
pub IsSound-taken : (config : Config) (ps : List Place) (m : ℕ) (input : Input) (t : Taking) → Goes ps (taking_place config ps m input t) → t.place ≡ length ps → TakingFits config (taking_place config ps m input t ∷ ps) t → AllByRecursion (λ u. Rises (taking_place config ps m input t ∷ ps) u t) (takings ps) → serial ps ≢ 18446744073709551615 → IsSound config ps → IsSound config (taking_place config ps m input t ∷ ps)
IsSound-taken config ps m input t goes here fits rises room sound =
    let p = taking_place config ps m input t in
    let below : AllByRecursion (λ (u : Taking). u.place < t.place) (takings ps) = AllByRecursion-weaken (TakingFits config ps) (λ u. u.place < t.place) (λ u f. let h = f.placed in omega arith) (takings ps) sound.each in
    let aparts : AllByRecursion (λ (u : Taking). is_at u.place p.taken ≡ false) (takings ps) = AllByRecursion-weaken (λ (u : Taking). u.place < t.place) (λ u. is_at u.place p.taken ≡ false) (λ u less. ne_eqb t.place u.place (λ (e : t.place ≡ u.place). omega arith)) (takings ps) below in
    record {
      each = AllByRecursion-push _ (takings ps) t (both-on config ps p goes (takings ps) aparts sound.each) fits;
      ascending = Ascending-push (takings ps) t below sound.ascending;
      rising = Rising-push (p ∷ ps) (takings ps) t rises (Rising-on config ps p goes (takings ps) aparts sound.each sound.ascending sound.rising);
      counted =
          let fresh = λ (u : Taking). u.fresh in
          let split : length (filter fresh (takings ps ++ t ∷ [])) ≡ length (filter fresh (takings ps)) + length (filter fresh (t ∷ [])) = ap length (filter-append fresh (takings ps) (t ∷ [])) ∙ length-append (filter fresh (takings ps)) (filter fresh (t ∷ [])) in
          let one = one-more t in
          let few : length (filter fresh (takings ps)) ≤ 18446744073709551615 = sound.counted in
          omega arith;
      open_ahead = λ n ahead. let more : length ps ≤ n = omega arith in sound.open_ahead n more;
      matched_by = λ n q e. let h = sound.matched_by n q e in let g = goes.later in omega arith;
    }
