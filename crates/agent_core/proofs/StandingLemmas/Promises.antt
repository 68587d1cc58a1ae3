-- A core keeps its promise from step to step.
use Rattle.std.proofs.Common.{◌≡◌, ◌<◌, ◌^◌, List, [], ◌∷◌, ◌++◌, sym, ◌∙◌, ap, subst}
use Rattle.std.specs.Prelude.{IfSome, Result, Ok, Err, OnOk, OnErr, IfOk}
use Rattle.agent_settings.specs.declared.config.Config.{Config}
use Rattle.agent_settings.specs.Config.{InLimits}
use Rattle.agent_events.specs.declared.events.Output.{Output}
use Rattle.agent_core.specs.declared.ledger.Ledger.{Ledger}
use Rattle.agent_core.specs.Places.{Event}
use Rattle.agent_core.specs.History.{outputs_after}
use Rattle.agent_core.specs.Machine.{Next, next}
use Rattle.agent_core.specs.Standing.{StandsFor, IsSteady}
use Rattle.agent_core.specs.Promise.{IsCore, IsReal}
use Rattle.agent_core.proofs.RoomLemmas.Limits.{limits}
use Rattle.agent_core.proofs.ListLemmas.Lists.{AllByRecursion-push}
use Rattle.agent_core.proofs.StandingLemmas.Steps.{Lasts}
use Rattle.agent_core.proofs.RoomLemmas.RoomySteps.{IsRoomy-next}
use Rattle.agent_core.proofs.StandingLemmas.Histories.{history-step, history-follows}
use Rattle.agent_core.proofs.StandingLemmas.Kept.{Laws}
use Rattle.agent_core.proofs.StandingLemmas.Steady.{history-steady}

pub core-lasts : (S : Ledger) → IsCore S → Lasts S.config
core-lasts S core =
    let l = limits S.config core.limits.settings in
    record { patience = l.patience; retention = l.retention; backlog = l.backlog }

pub core-steady : Laws → (S : Ledger) → IsCore S → IsSteady S
core-steady laws S core =
    history-steady laws S core.history (record { limits = core.limits; boot = core.boot }) (core-lasts S core) core.roomy core.stands core.real

pub core-next : Laws → (S : Ledger) (e : Event) → IsReal e.input → IsCore S → IsCore (next S e.moment e.input).ledger
core-next laws S e real core =
    let lasts = core-lasts S core in
    let f = (history-step laws.found S core.history e lasts core.roomy core.stands).follows in
    record {
      limits = subst InLimits (sym f.config) core.limits;
      boot = subst (λ (c : Config). IfSome c.boot (λ b. b < 2 ^ 32)) (sym f.config) core.boot;
      roomy = IsRoomy-next S e.moment e.input lasts.backlog core.roomy;
      history = core.history ++ e ∷ [];
      stands = history-follows laws.found S core.history e lasts core.roomy core.stands;
      real = AllByRecursion-push (λ x. IsReal x.input) core.history e core.real real;
    }

core-answers : Laws → (S : Ledger) (e : Event) → IsCore S → (H : List Event) → StandsFor S H → (next S e.moment e.input).outputs ≡ outputs_after S.config H e
core-answers laws S e core H stands = (history-step laws.found S H e (core-lasts S core) core.roomy stands).follows.outputs

pub core-config : Laws → (S : Ledger) (e : Event) → IsCore S → (next S e.moment e.input).ledger.config ≡ S.config
core-config laws S e core = (history-step laws.found S core.history e (core-lasts S core) core.roomy core.stands).follows.config

core-stands : Laws → (S : Ledger) (e : Event) → IsCore S → (H : List Event) → StandsFor S H → StandsFor (next S e.moment e.input).ledger (H ++ e ∷ [])
core-stands laws S e core H stands = history-follows laws.found S H e (core-lasts S core) core.roomy stands

-- ---- by what a step answered

pub core-after : {E : Type 0} (S new : Ledger) (n : Next) (r : Result (List Output) E) → OnOk r (new ≡ n.ledger) → OnErr r (new ≡ S) → IsCore S → IsCore n.ledger → IsCore new
core-after S new n (Ok o) done undone before after = subst IsCore (sym done) after
core-after S new n (Err e) done undone before after = subst IsCore (sym undone) before

answers-after : {E : Type 0} (n : Next) (outputs : List Output) (r : Result (List Output) E) → IfOk r (λ o. o ≡ n.outputs) → n.outputs ≡ outputs → IfOk r (λ o. o ≡ outputs)
answers-after n outputs (Ok o) is same = is ∙ same
answers-after n outputs (Err e) is same = tt

stands-after : {E : Type 0} (new : Ledger) (n : Next) (history : List Event) (r : Result (List Output) E) → OnOk r (new ≡ n.ledger) → StandsFor n.ledger history → OnOk r (StandsFor new history)
stands-after new n history (Ok o) done stands = subst (λ (S : Ledger). StandsFor S history) (sym done) stands
stands-after new n history (Err e) done stands = tt

-- the settings stay
pub config-after : {E : Type 0} → Laws → (S T new : Ledger) → S ≡ T → (e : Event) (r : Result (List Output) E) → OnOk r (new ≡ (next S e.moment e.input).ledger) → OnErr r (new ≡ S) → IsCore S → new.config ≡ T.config
config-after laws S T new same e (Ok o) done undone core = ap (λ (U : Ledger). U.config) done ∙ core-config laws S e core ∙ ap (λ (U : Ledger). U.config) same
config-after laws S T new same e (Err f) done undone core = ap (λ (U : Ledger). U.config) undone ∙ ap (λ (U : Ledger). U.config) same

-- the same, where the ledger is seen as the core's value
pub answers-of : {E : Type 0} → Laws → (S T : Ledger) → S ≡ T → (e : Event) (r : Result (List Output) E) → IfOk r (λ o. o ≡ (next S e.moment e.input).outputs) → IsCore S → (H : List Event) → StandsFor T H → IfOk r (λ o. o ≡ outputs_after T.config H e)
answers-of laws S T same e r is core =
    subst (λ (U : Ledger). (H : List Event) → StandsFor U H → IfOk r (λ o. o ≡ outputs_after U.config H e)) same
    (λ H stands. answers-after (next S e.moment e.input) (outputs_after S.config H e) r is (core-answers laws S e core H stands))

pub stands-of : {E : Type 0} → Laws → (S T new : Ledger) → S ≡ T → (e : Event) (r : Result (List Output) E) → OnOk r (new ≡ (next S e.moment e.input).ledger) → IsCore S → (H : List Event) → StandsFor T H → OnOk r (StandsFor new (H ++ e ∷ []))
stands-of laws S T new same e r is core =
    subst (λ (U : Ledger). (H : List Event) → StandsFor U H → OnOk r (StandsFor new (H ++ e ∷ []))) same
    (λ H stands. stands-after new (next S e.moment e.input) (H ++ e ∷ []) r is (core-stands laws S e core H stands))
