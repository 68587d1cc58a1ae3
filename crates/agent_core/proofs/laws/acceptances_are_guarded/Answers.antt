use Rattle.agent_core.proofs.LawLemmas.LawOfGuards as lemmas
use Rattle.agent_core.proofs.laws.acceptances_are_guarded.Goals as goal

pub returns : goal.returns
returns c = lemmas.guarded
