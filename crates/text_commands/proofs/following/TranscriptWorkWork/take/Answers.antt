use Rattle.std.proofs.Common.{ap, refl}
use Rattle.text_commands.specs.Transcripts.{transcript_task}
use Rattle.text_commands.proofs.FollowingLemmas.{goes, refused, works-as}
use Rattle.text_commands.proofs.following.TranscriptWorkWork.take.Goals as goal

pub follow-requires : goal.follow-requires
follow-requires g c =
    let (lines, takes) = c.requires in
    let line = goes (g.F.Follower.rule c.args.self.now.follower) g.F.Follower.followed c.lines_can_follow.ensures c.args.self.now lines c.args.line.now c.in-Ok.line c.take.new.self takes (c.in-Ok.ensures.takes _ takes.reads) in
    (_, takes.has_followed, line.can)

pub returns-in-Ok-clause-same : goal.returns-in-Ok-clause-same
returns-in-Ok-clause-same g c = ap transcript_task c.follow.ensures.same

pub returns-in-Ok-clause-works : goal.returns-in-Ok-clause-works
returns-in-Ok-clause-works g c = λ lines takes.
    let rule = g.F.Follower.rule c.args.self.now.follower in
    let line = goes rule g.F.Follower.followed c.lines_can_follow.ensures c.args.self.now lines c.args.line.now c.in-Ok.line c.take.new.self takes (c.in-Ok.ensures.takes _ takes.reads) in
    works-as rule g.F.Follower.followed g.F.Follower.rule c.follow.result lines c.args.line.now c.in-Ok.line (record { reader = c.take.new.self; follower = c.follow.new.self }) _ _ line c.follow.ensures.same (c.follow.ensures.follows _ takes.has_followed)

pub returns-in-Err-clause-works : goal.returns-in-Err-clause-works
returns-in-Err-clause-works g c = λ lines takes.
    rw c.line_status.ensures (refused (g.F.Follower.rule c.args.self.now.follower) c.in-Err.fault lines c.args.line.now c.take.new.self _ _ takes.sound (c.in-Err.ensures.takes _ takes.reads) refl)
