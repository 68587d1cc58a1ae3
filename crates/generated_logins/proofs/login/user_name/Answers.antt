use Rattle.std.proofs.Common.{length, ap, arith}
use Rattle.generated_logins.proofs.LoginLemmas.{length-account}
use Rattle.generated_logins.proofs.login.user_name.Goals as goal

pub returns-clause-short : goal.returns-clause-short
returns-clause-short c = omega (arith, ap length c.in_ok-format.ensures.ok, length-account c.args.number)
