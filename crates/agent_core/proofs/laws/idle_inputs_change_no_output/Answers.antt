use Rattle.agent_core.proofs.LawLemmas.LawOfIdleInputs as lemmas
use Rattle.agent_core.proofs.laws.idle_inputs_change_no_output.Goals as goal

pub returns : goal.returns
returns c = lemmas.no_output
