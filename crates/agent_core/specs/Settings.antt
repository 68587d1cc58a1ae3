-- What the settings say of numbers.
use Rattle.std.specs.Prelude.{ℕ, ◌+◌, ◌*◌, ◌%◌, unwrap_or}
use Rattle.session_carrier.specs.declared.kept.Numbers.{Numbers}
use Rattle.agent_settings.specs.declared.config.Config.{Config}
use Rattle.peer_machine.specs.declared.messages.Names.{Names}

-- a boot that isn't set is 0
abbrev pub boot : Config → ℕ
boot config = unwrap_or config.boot 0

-- the End-to-End Identifier of the request before which `total` were sent (RFC 6733, section 3)
abbrev pub end_number : Config → ℕ → ℕ
end_number config total = ((boot config % 4096) * 1048576 + total) % 4294967296

abbrev pub numbers_of : Config → ℕ → ℕ → Numbers
numbers_of config used total = record { hop = used; end = end_number config total }

-- what the agent says of itself to the home server
abbrev pub names : Config → Names
names config = record { host = config.host; realm = config.realm; address = config.address; boot = boot config }
