-- What holds whatever the settings are.
use Rattle.std.proofs.Common.{[], None}
use Rattle.agent_settings.specs.declared.config.Config.{Config}

some-settings : Config
some-settings = record {
  host = [];
  realm = [];
  home_realm = [];
  address = 0;
  boot = None;
  retention = 0;
  patience = 0;
  capacity = 0;
  backlog = 0;
  watchdog = 0;
  clients = [];
}

pub whatever-settings : {A : Type 0} → ((config : Config) → A) → A
whatever-settings holds = holds some-settings
