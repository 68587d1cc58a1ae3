use Rattle.wire_core.specs.Numbers.{u32}
use Rattle.generated_logins.proofs.login.authenticator.Goals as goal

pub returns : goal.returns
unfolding u32
returns c = simp c.to_be_bytes.ensures
