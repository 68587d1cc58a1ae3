use Rattle.text_commands.proofs.FollowingLemmas as following
use Rattle.text_commands.proofs.following.TranscriptWorkWork.is_task.Goals as goal

pub returns : goal.returns
returns g c = following.is-task (g.F.Follower.rule c.args.self.now.follower) (g.met.F.Follower.empty c.args.self.now.follower)
