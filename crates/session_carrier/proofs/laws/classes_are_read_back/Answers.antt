use Rattle.session_carrier.proofs.CarrierLemmas as lemmas
use Rattle.session_carrier.proofs.laws.classes_are_read_back.Goals as goal

pub returns : goal.returns
returns c = lemmas.classes_are_read_back
