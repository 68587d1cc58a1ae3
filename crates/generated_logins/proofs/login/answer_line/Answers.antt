use Rattle.std.proofs.Common.{ap, ◌∙◌}
use Rattle.generated_logins.proofs.LoginLemmas.{answer_line-pieces}
use Rattle.generated_logins.proofs.login.answer_line.Goals as goal

pub returns : goal.returns
returns c =
    answer_line-pieces c.args.number c.moment_of-moment.result c.args.drawn _ _ c.as_slice.result.now (ap (λ v. v.items) c.into_bytes-line.ensures.value ∙ c.in_ok-format.ensures.ok) c.in_ok-push_digits.ensures
    c.moment_of-moment.ensures (c.as_slice.ensures ∙ c.in_ok-octets.ensures)
