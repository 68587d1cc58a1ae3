use Rattle.transcript.proofs.Reading.FollowLemmas.{line-follows}
use Rattle.transcript.proofs.laws.lines_can_follow.Goals as goal

pub returns : goal.returns
returns c = line-follows c.client_keeps_limits.ensures
