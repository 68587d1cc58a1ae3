use Rattle.std.proofs.Common.{◌≡◌, List, ℕ}
use Rattle.text_commands.specs.Transcripts.{transcript_task}
use Rattle.text_commands.proofs.FollowingLemmas.{is-task}
use Rattle.text_commands.proofs.TaskLemmas.{completes, nothing-done}
use Rattle.text_commands.proofs.following.follow_transcript.Goals as goal

pub returns-in_default-clause-ends : goal.returns-in_default-clause-ends
returns-in_default-clause-ends g c = λ X told.
    nothing-done (transcript_task (g.F.Follower.rule c.args.follower)) (λ (lines : List (List ℕ)). lines ≡ lines) (is-task (g.F.Follower.rule c.args.follower) (g.met.F.Follower.empty c.args.follower)) _ _ X told

pub returns-clause-complete : goal.returns-clause-complete
returns-clause-complete g c = λ X told sound short reads writes.
    completes (transcript_task (g.F.Follower.rule c.in-Ok.work.follower)) c.run.result X _ _ _ _ _ _ _ _ _ c.run.ensures.begun (c.run.ensures.ends X told) c.run.ensures.counts
    (rw c.in-Ok.ensures.follower sound) short reads writes
