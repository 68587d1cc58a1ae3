-- How the command `check` ends.
use Rattle.std.specs.Prelude.{◌≡◌, ℕ, List, Option, Some, Ok, Err, ⊤}
use Rattle.wire_core.specs.Sink.{Appends, AppendsPrefix}
use Rattle.agent_settings.specs.declared.config.Config.{Config}
use Rattle.agent_config.specs.Settings.{settings_in}
use Rattle.printed_lines.specs.SettingsText.{settings_text}
use Rattle.agent_status.specs.declared.status.Status.{Status}
use Rattle.agent_status.specs.declared.status.Status.TheVariants.{Done, BadConfig, ReadFault, WriteFault, OutOfMemory, TooLong}
use Rattle.text_commands.specs.WholeInput.{TakenWhole, TakesNot}

-- what was taken of the input and what was written, by the status
abbrev pub ChecksBy : Status → List ℕ → Option (List ℕ) → Option (List ℕ) → Option (List ℕ) → Type 0
ChecksBy Done input left before now =
    TakenWhole input left × ((config : Config) × (settings_in input ≡ Ok config) × Appends before now (settings_text config))
ChecksBy (BadConfig fault) input left before now = TakenWhole input left × (settings_in input ≡ Err fault) × (now ≡ before)
ChecksBy WriteFault input left before now =
    TakenWhole input left × ((config : Config) × (settings_in input ≡ Ok config) × AppendsPrefix before now (settings_text config))
ChecksBy status input left before now = TakesNot status (Some input) left × (now ≡ before)

-- a status with which a check of settings may end
abbrev pub IsCheckEnd : Status → Type 0
IsCheckEnd Done = ⊤
IsCheckEnd (BadConfig fault) = ⊤
IsCheckEnd ReadFault = ⊤
IsCheckEnd WriteFault = ⊤
IsCheckEnd OutOfMemory = ⊤
IsCheckEnd TooLong = ⊤
IsCheckEnd status = ⊥
