use Rattle.agent_core.proofs.LawLemmas.LawOfSessions as lemmas
use Rattle.agent_core.proofs.laws.fresh_sessions_differ.Goals as goal

pub returns : goal.returns
returns c = lemmas.fresh
