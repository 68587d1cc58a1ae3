use Rattle.password_hiding.proofs.BlockLemmas.{hidden_is}
use Rattle.password_hiding.proofs.laws.one_hidden_form.Goals as goal

pub returns : goal.returns
returns c = hidden_is
