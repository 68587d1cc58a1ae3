use Rattle.std.proofs.Common.{rules}
use Rattle.transcript.proofs.position.Position.take_client.Goals as goal

pub returns-then-contains : goal.returns-then-contains
returns-then-contains c = λ at stands. rw (c.in-Ok.ensures, ← stands.addresses) search rules
