use Rattle.agent_config.proofs.Settled as lemmas
use Rattle.agent_config.proofs.laws.settings_are_in_limits.Goals as goal

pub returns : goal.returns
returns c = lemmas.settings_are_in_limits
