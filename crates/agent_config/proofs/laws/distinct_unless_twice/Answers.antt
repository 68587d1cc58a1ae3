use Rattle.agent_config.proofs.Twice as lemmas
use Rattle.agent_config.proofs.laws.distinct_unless_twice.Goals as goal

pub returns : goal.returns
returns c = lemmas.distinct_unless_twice
