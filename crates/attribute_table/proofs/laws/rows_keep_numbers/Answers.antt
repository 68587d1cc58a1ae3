use Rattle.attribute_table.proofs.Table as lemmas
use Rattle.attribute_table.proofs.laws.rows_keep_numbers.Goals as goal

pub returns : goal.returns
returns c = lemmas.rows_keep_numbers
