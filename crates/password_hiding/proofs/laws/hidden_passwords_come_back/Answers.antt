use Rattle.std.proofs.Common.{sym, ap}
use Rattle.password_hiding.specs.Hiding.{trimmed}
use Rattle.password_hiding.proofs.BlockLemmas.{plain_is}
use Rattle.password_hiding.proofs.laws.hidden_passwords_come_back.Goals as goal

pub returns : goal.returns
returns c = λ secret authenticator password hidden h. ap trimmed (sym (plain_is secret authenticator password hidden h))
