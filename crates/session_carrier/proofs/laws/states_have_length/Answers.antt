use Rattle.session_carrier.proofs.CarrierLemmas as lemmas
use Rattle.session_carrier.proofs.laws.states_have_length.Goals as goal

pub returns : goal.returns
returns c = lemmas.states_have_length
