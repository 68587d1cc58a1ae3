use Rattle.attribute_table.proofs.VendorLemmas as lemmas
use Rattle.attribute_table.proofs.laws.vendors_have_one_reading.Goals as goal

pub returns : goal.returns
returns c = lemmas.vendors_have_one_reading
