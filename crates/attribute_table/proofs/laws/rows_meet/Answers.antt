use Rattle.attribute_table.proofs.Table as lemmas
use Rattle.attribute_table.proofs.laws.rows_meet.Goals as goal

pub returns : goal.returns
returns c = lemmas.rows_meet
