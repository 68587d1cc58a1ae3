use Rattle.agent_core.proofs.LawLemmas.LawOfIdleInputs as lemmas
use Rattle.agent_core.proofs.laws.idle_inputs_may_be_left_out.Goals as goal

pub returns : goal.returns
returns c = lemmas.left_out
