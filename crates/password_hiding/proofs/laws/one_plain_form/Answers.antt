use Rattle.std.proofs.Common.{sym, ◌∙◌}
use Rattle.password_hiding.proofs.BlockLemmas.{plain_is}
use Rattle.password_hiding.proofs.laws.one_plain_form.Goals as goal

pub returns : goal.returns
returns c = λ secret authenticator hidden plain other h k. plain_is secret authenticator plain hidden h ∙ sym (plain_is secret authenticator other hidden k)
