-- One more input is run.
use Rattle.std.proofs.Common.{◌≡◌, List, [], ◌∷◌, ◌++◌, sym, ◌∙◌, ap}
use Rattle.agent_settings.specs.declared.config.Config.{Config}
use Rattle.agent_events.specs.declared.events.Output.{Output}
use Rattle.agent_core.specs.declared.ledger.Ledger.{Ledger}
use Rattle.agent_core.specs.Places.{Event, Place}
use Rattle.agent_core.specs.History.{place, outputs_after}
use Rattle.agent_core.specs.Standing.{StandsFor}
use Rattle.agent_core.specs.Laws.{PastGoesOn}
use Rattle.transcript_runs.specs.Sessions.{RunsAt}

module _ {T : Type 0} (told : T → Config → List Place → Type 0) where
  -- what went out is what the rule gives
  pub outputs-are : (core : Ledger) (teller : T) (config : Config) (ps : List Place) (e : Event) (outputs : List Output)
      → ((H : List Event) → StandsFor core H → outputs ≡ outputs_after core.config H e) → RunsAt told core teller config ps
      → outputs ≡ (place config ps e).outputs
  outputs-are core teller config ps e outputs answers r =
      answers r.history r.stands
      ∙ ap (λ (c : Config). outputs_after c r.history e) r.config_is
      ∙ ap (λ (qs : List Place). (place config qs e).outputs) (sym r.past_is)

  -- the core stands for the history with it
  pub runs-more : PastGoesOn → (core new : Ledger) (teller after : T) (config : Config) (ps : List Place) (e : Event)
      → ((H : List Event) → StandsFor core H → StandsFor new (H ++ e ∷ [])) → new.config ≡ core.config → RunsAt told core teller config ps
      → told after config (place config ps e ∷ ps) → RunsAt told new after config (place config ps e ∷ ps)
  runs-more goes core new teller after config ps e stands same r has = record {
    history = r.history ++ e ∷ [];
    past_is = ap (λ (qs : List Place). place config qs e ∷ qs) r.past_is ∙ sym (goes config r.history e);
    config_is = same ∙ r.config_is;
    stands = stands r.history r.stands;
    has_told = has;
  }
