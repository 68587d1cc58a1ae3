use Rattle.attribute_table.proofs.Table as lemmas
use Rattle.attribute_table.proofs.laws.backward_images_keep_length.Goals as goal

pub returns : goal.returns
returns c = lemmas.backward_images_keep_length
