use Rattle.std.proofs.Common.{arith}
use Rattle.text_commands.proofs.FollowingLemmas.{bad-line}
use Rattle.text_commands.proofs.following.TranscriptWorkWork.too_long.Goals as goal

pub returns : goal.returns
returns g c = λ lines octets takes long.
    rw c.line_status.ensures (bad-line (g.F.Follower.rule c.args.self.now.follower) c.too_long.result lines octets takes.sound (c.too_long.ensures _ takes.reads octets (omega (arith, long))))
