use Rattle.agent_settings.proofs.Limits as lemmas
use Rattle.agent_settings.proofs.laws.clients_are_in_limits.Goals as goal

pub returns : goal.returns
returns c = lemmas.clients_are_in_limits
