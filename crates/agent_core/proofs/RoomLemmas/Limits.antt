-- What the limits of the settings say in numbers.
use Rattle.std.proofs.Common.{◌≡◌, ℕ, ◌<◌, ◌≤◌, true, length, List, arith}
use Rattle.std.specs.Prelude.{IsTrue}
use Rattle.std.proofs.lemmas.Bool.{and_parts, leb-true}
use Rattle.agent_settings.specs.declared.config.Config.{Config}
use Rattle.agent_settings.specs.Config.{are_settings_in_limits, is_name}
use Rattle.agent_settings.proofs.Limits.{settings_facts}

pub record Limits (config : Config) : Type 0 where
  pub host : length config.host ≤ 64
  pub home_realm : length config.home_realm ≤ 64
  pub backlog : config.backlog ≤ 65536
  pub patience : 0 < config.patience
  pub retention : 0 < config.retention

is_name-short : (xs : List ℕ) → is_name xs ≡ true → length xs ≤ 64
is_name-short xs e = leb-true _ _ (and_parts _ _ e).1

pub limits : (config : Config) → IsTrue (are_settings_in_limits config) → Limits config
limits config within =
    let facts = settings_facts config within in
    record {
      host = is_name-short _ facts.host;
      home_realm = is_name-short _ facts.home_realm;
      backlog = facts.backlog_high;
      patience = omega (arith, facts.patience_low);
      retention = omega (arith, facts.retention_low);
    }
