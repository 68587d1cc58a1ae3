use Rattle.agent_settings.proofs.Limits as lemmas
use Rattle.agent_settings.proofs.laws.found_stands_at_place.Goals as goal

pub returns : goal.returns
returns c = lemmas.found_stands_at_place
