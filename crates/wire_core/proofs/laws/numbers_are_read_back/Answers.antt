use Rattle.wire_core.proofs.NumberLemmas as lemmas
use Rattle.wire_core.proofs.laws.numbers_are_read_back.Goals as goal

pub returns : goal.returns
returns c = lemmas.numbers_are_read_back
