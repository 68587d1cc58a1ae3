-- Settings that are read of an input.
use Rattle.std.specs.Prelude.{◌≡◌, ℕ, List, Option, Some, Ok, Err}
use Rattle.agent_settings.specs.declared.config.Config.{Config}
use Rattle.agent_config.specs.Settings.{settings_in}
use Rattle.agent_status.specs.declared.status.Status.{Status}
use Rattle.agent_status.specs.declared.status.Status.TheVariants.{BadConfig, OutOfMemory}
use Rattle.text_commands.specs.WholeInput.{TakenWhole, TakesNot}

-- the input was taken whole where it is told, and has these settings
abbrev pub SettingsTaken : Config → Option (List ℕ) → Option (List ℕ) → Type 0
SettingsTaken config told left = (input : List ℕ) → told ≡ Some input → TakenWhole input left × (settings_in input ≡ Ok config)

-- why no settings were read: the input has none, with this fault, or wasn't taken whole
abbrev pub SettingsNot : Status → Option (List ℕ) → Option (List ℕ) → Type 0
SettingsNot (BadConfig fault) told left = (input : List ℕ) → told ≡ Some input → TakenWhole input left × (settings_in input ≡ Err fault)
SettingsNot status told left = TakesNot status told left

-- why a text has no settings
abbrev pub ReadsNot : Status → List ℕ → Type 0
ReadsNot (BadConfig fault) text = settings_in text ≡ Err fault
ReadsNot OutOfMemory text = Unit {0}
ReadsNot status text = ⊥
