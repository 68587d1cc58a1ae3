-- From one step to whole histories.
use Rattle.std.proofs.Common.{◌≡◌, ℕ, ◌≤◌, List, [], ◌∷◌, ◌++◌, max, refl, sym, ◌∙◌, ap, subst, arith}
use Rattle.agent_settings.specs.declared.config.Config.{Config}
use Rattle.agent_settings.specs.Config.{FoundStandsAtPlace}
use Rattle.agent_core.specs.declared.ledger.Ledger.{Ledger}
use Rattle.agent_core.specs.Places.{Event, Place, now}
use Rattle.agent_core.specs.History.{place, places, past, at_input}
use Rattle.agent_core.specs.Machine.{next, on_input}
use Rattle.agent_core.specs.Standing.{StandsAt, StandsFor, IsRoomy, start}
use Rattle.agent_core.proofs.StandingLemmas.Agreeing.{StandsAt-later}
use Rattle.agent_core.proofs.StandingLemmas.NextPlaces.{NextFollows, next-by, at_event}
use Rattle.agent_core.proofs.RoomLemmas.Roomy.{IsRoomy-later}
use Rattle.agent_core.proofs.RoomLemmas.RoomySteps.{IsRoomy-next}
use Rattle.agent_core.proofs.LawLemmas.Sound.{IsSound, IsSound-nil}
use Rattle.agent_core.proofs.StandingLemmas.Steps.{Lasts, Reaches}
use Rattle.agent_core.proofs.StandingLemmas.InputSteps.{input-reaches}

-- one step, by the place that the rule gives
pub record Steps (ps : List Place) (S : Ledger) (e : Event) : Type 0 where
  pub follows : NextFollows ps S e
  pub sound : IsSound S.config (place S.config ps e ∷ ps)

pub step-on : FoundStandsAtPlace → (ps : List Place) (S : Ledger) (e : Event) → Lasts S.config → IsSound S.config ps → IsRoomy S → StandsAt ps (now ps) S → Steps ps S e
step-on law ps S e lasts sound roomy stands =
    let m = max (now ps) e.moment in
    let later : now ps ≤ m = omega arith in
    let T = at_event ps S e in
    let moment : S.moment ≤ m = (let h = stands.moment in omega arith) in
    let r : Reaches ps m T (at_input T.config ps m e.input) (on_input T e.input) =
    input-reaches law ps m T (record {
      stands = StandsAt-later ps S (now ps) m later stands;
      sound = sound;
      roomy = IsRoomy-later S m moment roomy;
      later = later;
      lasts = lasts;
    }) e.input
    in
    record {
      follows = next-by ps S T e (ap (λ (n : ℕ). record S { moment = max n e.moment }) (sym stands.moment)) r.follows;
      sound = r.sound;
    }

-- the places of a history with one more event
pub places-append : (config : Config) (ps : List Place) (es : List Event) (e : Event) → places config ps (es ++ e ∷ []) ≡ place config (places config ps es) e ∷ places config ps es
places-append config ps [] e = refl
places-append config ps (x ∷ es) e = places-append config (place config ps x ∷ ps) es e

pub start-stands : (config : Config) → StandsFor (start config) []
start-stands config = record {
  moment = refl;
  peer = refl;
  used = refl;
  outbox = refl;
  total = refl;
  serial = refl;
  capacity = refl;
  patience = refl;
  retention = refl;
  entries = refl;
}

pub start-roomy : (config : Config) → IsRoomy (start config)
start-roomy config = record {
  rooms = record { outbox = omega arith; again = omega arith; used = omega arith };
  greeting = tt;
  early = tt;
}

-- a ledger with these settings that stands for a past, which is sound
pub record Standing (config : Config) (ps : List Place) : Type 0 where
  pub ledger : Ledger
  pub same : ledger.config ≡ config
  pub stands : StandsAt ps (now ps) ledger
  pub sound : IsSound config ps
  pub roomy : IsRoomy ledger

pub standing-step : FoundStandsAtPlace → (config : Config) → Lasts config → (ps : List Place) (e : Event) → Standing config ps → Standing config (place config ps e ∷ ps)
standing-step law config lasts ps e s =
    let back : config ≡ s.ledger.config = sym s.same in
    let f = step-on law ps s.ledger e (subst Lasts back lasts) (subst (λ (c : Config). IsSound c ps) back s.sound) s.roomy s.stands in
    let after = (next s.ledger e.moment e.input).ledger in
    let room = (subst Lasts back lasts).backlog in
    record {
      ledger = after;
      same = f.follows.config ∙ s.same;
      stands = subst (λ (c : Config). StandsAt (place c ps e ∷ ps) (now (place c ps e ∷ ps)) after) s.same f.follows.stands;
      sound = subst (λ (c : Config). IsSound c (place c ps e ∷ ps)) s.same f.sound;
      roomy = IsRoomy-next s.ledger e.moment e.input room s.roomy;
    }

standing-on : FoundStandsAtPlace → (config : Config) → Lasts config → (ps : List Place) (es : List Event) → Standing config ps → Standing config (places config ps es)
standing-on law config lasts ps [] s = s
standing-on law config lasts ps (e ∷ es) s = standing-on law config lasts (place config ps e ∷ ps) es (standing-step law config lasts ps e s)

-- some ledger stands for each past, which is sound
pub past-standing : FoundStandsAtPlace → (config : Config) → Lasts config → (history : List Event) → Standing config (past config history)
past-standing law config lasts history =
    standing-on law config lasts [] history (record { ledger = start config; same = refl; stands = start-stands config; sound = IsSound-nil config; roomy = start-roomy config })

-- the step after a history, by the place that the rule gives
pub history-step : FoundStandsAtPlace → (S : Ledger) (history : List Event) (e : Event) → Lasts S.config → IsRoomy S → StandsFor S history → Steps (past S.config history) S e
history-step law S history e lasts roomy stands =
    step-on law (past S.config history) S e lasts (past-standing law S.config lasts history).sound roomy stands

-- what is kept then stands for the history with one more event
pub history-follows : FoundStandsAtPlace → (S : Ledger) (history : List Event) (e : Event) → Lasts S.config → IsRoomy S → StandsFor S history → StandsFor (next S e.moment e.input).ledger (history ++ e ∷ [])
history-follows law S history e lasts roomy stands =
    let f = (history-step law S history e lasts roomy stands).follows in
    let after = (next S e.moment e.input).ledger in
    subst (λ (c : Config). StandsAt (past c (history ++ e ∷ [])) (now (past c (history ++ e ∷ []))) after) (sym f.config)
    (subst (λ (ps : List Place). StandsAt ps (now ps) after) (sym (places-append S.config [] history e)) f.stands)
