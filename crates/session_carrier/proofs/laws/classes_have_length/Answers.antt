use Rattle.session_carrier.proofs.CarrierLemmas as lemmas
use Rattle.session_carrier.proofs.laws.classes_have_length.Goals as goal

pub returns : goal.returns
returns c = lemmas.classes_have_length
