use Rattle.dynamic_command.proofs.LineLemmas.{can-take, follows-line}
use Rattle.dynamic_command.proofs.session.BookSessionFollower.follow.Goals as goal

pub follow_line-requires : goal.follow_line-requires
follow_line-requires g c =
    let (lines, at, can) = c.requires in
    can-take c.args.self.now lines c.args.line at can

pub returns-clause-follows : goal.returns-clause-follows
returns-clause-follows g c = λ lines at.
    follows-line c.follow_line.result c.follow_line.new.self lines c.args.line _ _ (c.follow_line.ensures.follows _ at) (c.follow_line.ensures.part _ at) c.follow_line.ensures.failure
