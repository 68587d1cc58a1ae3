use Rattle.attribute_table.proofs.Table as lemmas
use Rattle.attribute_table.proofs.laws.images_go_back.Goals as goal

pub returns : goal.returns
returns c = lemmas.images_go_back
