-- Laws of the rule, for every history.
use Rattle.std.specs.Prelude.{◌≡◌, List, [], ◌∷◌, ◌++◌}
use Rattle.agent_settings.specs.declared.config.Config.{Config}
use Rattle.agent_core.specs.Places.{Event}
use Rattle.agent_core.specs.History.{place, past}

-- a history with one more event has one more place
abbrev pub PastGoesOn : Type 0
PastGoesOn = (config : Config) (history : List Event) (e : Event)
    → past config (history ++ e ∷ []) ≡ place config (past config history) e ∷ past config history
