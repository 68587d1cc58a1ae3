use Rattle.agent_settings.proofs.Limits as lemmas
use Rattle.agent_settings.proofs.laws.client_keeps_limits.Goals as goal

pub returns : goal.returns
returns c = lemmas.client_keeps_limits
