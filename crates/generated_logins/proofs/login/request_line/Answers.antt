use Rattle.std.proofs.Common.{ap, ◌∙◌}
use Rattle.generated_logins.proofs.LoginLemmas.{request_line-pieces}
use Rattle.generated_logins.proofs.login.request_line.Goals as goal

pub returns : goal.returns
returns c =
    request_line-pieces c.args.number c.moment_of-moment.result _ _ c.as_slice.result.now (ap (λ v. v.items) c.into_bytes-line.ensures.value ∙ c.in_ok-format.ensures.ok) c.in_ok-push_digits.ensures
    c.moment_of-moment.ensures (c.as_slice.ensures.value ∙ c.in_ok-octets.ensures)
