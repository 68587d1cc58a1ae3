-- Internal: What borrowed words tell, without where they lie in memory.
use Rattle.std.specs.Prelude.{Option}
use Rattle.std.specs.Option.{option_copied}
use Rattle.agent_settings.specs.declared.client.Client.{Client}
use Rattle.agent_settings.specs.declared.config.Config.{Config}
use Rattle.transcript.specs.Lines.{client_by, settings_by}
use Rattle.transcript.specs.declared.settings.AgentWords.{AgentWords}
use Rattle.transcript.specs.declared.settings.ClientWords.{ClientWords}

abbrev pub settings_told : AgentWords → Option Config
settings_told w =
    settings_by w.host.now w.realm.now w.home_realm.now w.address.now w.boot.now w.retention.now w.capacity.now
    w.backlog.now w.watchdog.now (option_copied w.patience)

abbrev pub client_told : ClientWords → Option Client
client_told w =
    client_by w.name.now w.address.now w.secret.now w.origin_host.now w.origin_realm.now w.seal.now w.keys.now w.nas.now
