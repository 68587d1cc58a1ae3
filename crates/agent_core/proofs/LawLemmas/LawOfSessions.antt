-- Fresh sessions differ.
use Rattle.std.proofs.Common.{◌≡◌, ◌≢◌, ℕ, ◌+◌, ◌<◌, ◌^◌, Bool, true, false, cond, not, List, [], ◌∷◌, ◌++◌, length, filter, Option, Some, None, refl, sym, ◌∙◌, ap, arith}
use Rattle.std.specs.Prelude.{is_some, max}
use Rattle.std.specs.Option.{option_map_or}
use Rattle.std.specs.List.{AllByRecursion}
use Rattle.std.proofs.lemmas.Bool.{and_parts}
use Rattle.std.proofs.lemmas.List.{length-append}
use Rattle.std.proofs.lemmas.List.Elements.{filter-append}
use Rattle.session_carrier.specs.Carriers.{CarriedParts}
use Rattle.session_carrier.specs.Session.{fresh_session}
use Rattle.session_carrier.proofs.Sessions.{fresh_sessions_differ}
use Rattle.agent_settings.specs.declared.config.Config.{Config}
use Rattle.agent_events.specs.declared.events.Input.{Input}
use Rattle.agent_core.specs.Settings.{boot}
use Rattle.agent_core.specs.Verdict.{Request}
use Rattle.agent_core.specs.Places.{Event, Place, Taking, now, takings, serial}
use Rattle.agent_core.specs.Requests.{is_fresh, route_of, access_route, accounting_route, fresh_route, carried_route}
use Rattle.agent_core.specs.History.{at_input, past, taking_of, taking_place}
use Rattle.agent_core.specs.LawsOfRequests.{FreshSessionsDiffer}
use Rattle.agent_core.proofs.ListLemmas.Lists.{AllByRecursion-weaken, AllByRecursion-push}
use Rattle.agent_core.proofs.LawLemmas.LawPlaces.{place-by, history-by, known}

not-true : (b : Bool) → not b ≡ true → b ≡ false
not-true true e = absurd (cc)
not-true false e = refl

not-some : (o : Option CarriedParts) → not (is_some o) ≡ true → o ≡ None
not-some None e = refl
not-some (Some c) e = absurd (cc)

-- a request that begins a session has the one of this number
fresh-session : (config : Config) (request : Request) (n : ℕ) → is_fresh request ≡ true → (route_of config request n).session ≡ fresh_session config.host (boot config) n
fresh-session config request n e =
    let both = and_parts _ _ e in
    ap (λ b. (cond b (accounting_route config request.settings request.packet) (access_route config request.packet n)).session) (not-true _ both.0)
    ∙ ap (λ o. (option_map_or carried_route o (fresh_route config request.packet n)).session) (not-some _ both.1)

-- the number of its session, below n
record HasNumber (config : Config) (n : ℕ) (t : Taking) : Type 0 where
  pub serial : ℕ
  pub less : serial < n
  pub session : t.kept.session ≡ fresh_session config.host (boot config) serial

abbrev Counted : Config → ℕ → Taking → Type 0
Counted config n t = t.fresh ≡ true → HasNumber config n t

abbrev AreCounted : Config → List Place → Type 0
AreCounted config ps = AllByRecursion (Counted config (serial ps)) (takings ps)

one-more : (b : Bool) (t : Taking) → t.fresh ≡ b → length (filter (λ (u : Taking). u.fresh) (t ∷ [])) ≡ cond b 1 0
one-more true t is = ap (λ (c : Bool). length (cond c (t ∷ []) [])) is
one-more false t is = ap (λ (c : Bool). length (cond c (t ∷ []) [])) is

serial-taken : (ps : List Place) (t : Taking) → length (filter (λ (u : Taking). u.fresh) (takings ps ++ t ∷ [])) ≡ serial ps + cond t.fresh 1 0
serial-taken ps t =
    ap length (filter-append (λ (u : Taking). u.fresh) (takings ps) (t ∷ []))
    ∙ length-append (filter (λ (u : Taking). u.fresh) (takings ps)) (filter (λ (u : Taking). u.fresh) (t ∷ []))
    ∙ ap (λ n. serial ps + n) (one-more t.fresh t refl)

taken-counted : (config : Config) (ps : List Place) (m : ℕ) (input : Input) (request : Request) → AreCounted config ps → AreCounted config (taking_place config ps m input (taking_of config ps m request) ∷ ps)
taken-counted config ps m input request before =
    let t = taking_of config ps m request in
    let n = length (filter (λ (u : Taking). u.fresh) (takings ps ++ t ∷ [])) in
    let more : n ≡ serial ps + cond t.fresh 1 0 = serial-taken ps t in
    AllByRecursion-push (Counted config n) (takings ps) t
    (AllByRecursion-weaken (Counted config (serial ps)) (Counted config n) (λ u was fresh.
    let h = was fresh in
    let low = h.less in
    record { serial = h.serial; less = omega arith; session = h.session }) (takings ps) before)
    (λ fresh.
    let next : n ≡ serial ps + 1 = more ∙ ap (λ b. serial ps + cond b 1 0) fresh in
    record { serial = serial ps; less = omega arith; session = fresh-session config request (serial ps) fresh })

counted-at : (config : Config) (ps : List Place) (m : ℕ) (input : Input) → AreCounted config ps → AreCounted config (at_input config ps m input ∷ ps)
counted-at config ps m input before = place-by (λ p. AreCounted config (p ∷ ps)) config ps m input (record {
  drained = λ quiet. before;
  dropped = λ quiet reason. before;
  repeats = λ quiet t comes. before;
  takes = λ quiet request takes. taken-counted config ps m input request before;
  links = λ apart event message begun. before;
  unmatched = λ octets message comes. before;
  matched = λ octets message comes t found. before;
})

counted : (config : Config) (history : List Event) → AreCounted config (past config history)
counted config history = history-by config (AreCounted config) tt
    (λ past_events e before. counted-at config (past config past_events) (max (now (past config past_events)) e.moment) e.input before) history

-- ---- the law

abbrev FreshAt : Config → List Place → Place → Type 0
FreshAt config ps p = (t : Taking) → p.taken ≡ Some t → t.fresh ≡ true → t.kept.session ≡ fresh_session config.host (boot config) (serial ps)

some-is : (t u : Taking) → Some t ≡ Some u → t ≡ u
some-is t u e = cc

fresh-at : (config : Config) (ps : List Place) (m : ℕ) (input : Input) → FreshAt config ps (at_input config ps m input)
fresh-at config ps m input = place-by (FreshAt config ps) config ps m input (record {
  drained = λ quiet t e. absurd (cc);
  dropped = λ quiet reason t e. absurd (cc);
  repeats = λ quiet u comes t e. absurd (cc);
  takes = λ quiet request takes t e fresh.
      let same : taking_of config ps m request ≡ t = some-is _ _ e in
      let begins : is_fresh request ≡ true = ap (λ (u : Taking). u.fresh) same ∙ fresh in
      sym (ap (λ (u : Taking). u.kept.session) same) ∙ fresh-session config request (serial ps) begins;
  links = λ apart event message begun t e. absurd (cc);
  unmatched = λ octets message comes t e. absurd (cc);
  matched = λ octets message comes u found t e. absurd (cc);
})

differ : (config : Config) (n : ℕ) (t u : Taking) → n < 2 ^ 64 → HasNumber config n u → t.kept.session ≡ fresh_session config.host (boot config) n → u.kept.session ≢ t.kept.session
differ config n t u small has is same =
    let less = has.less in
    let equal : has.serial ≡ n = fresh_sessions_differ config.host (boot config) has.serial n (omega arith) small (sym has.session ∙ same ∙ is) in
    absurd (omega arith)

fresh-by : (config : Config) (ps : List Place) (m : ℕ) (input : Input) (t : Taking) → serial ps < 2 ^ 64 → AreCounted config ps → (at_input config ps m input).taken ≡ Some t → t.fresh ≡ true → AllByRecursion (λ u. u.fresh ≡ true → u.kept.session ≢ t.kept.session) (takings ps)
fresh-by config ps m input t small all taken fresh =
    let is = fresh-at config ps m input t taken fresh in
    AllByRecursion-weaken (Counted config (serial ps)) (λ u. u.fresh ≡ true → u.kept.session ≢ t.kept.session)
    (λ u was begins. differ config (serial ps) t u small (was begins) is) (takings ps) all

pub fresh : FreshSessionsDiffer
fresh config history e t within taken begins =
    let ps = past config history in
    let few = (known config within history).sound.counted in
    fresh-by config ps (max (now ps) e.moment) e.input t (omega arith) (counted config history) taken begins
