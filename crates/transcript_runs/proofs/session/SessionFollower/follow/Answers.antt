use Rattle.std.proofs.Common.{ap, subst, sym}
use Rattle.transcript.specs.Told.{CanFollow}
use Rattle.transcript_runs.specs.Runs.{rule_of}
use Rattle.transcript_runs.proofs.SessionLemmas.{follows-line}
use Rattle.transcript_runs.proofs.StageLemmas.{told-so-far}
use Rattle.transcript_runs.proofs.session.SessionFollower.follow.Goals as goal

pub follow_line-requires : goal.follow_line-requires
follow_line-requires g c =
    let (lines, at, can) = c.requires in
    (_, at, subst (λ told. CanFollow told c.args.line) (sym (told-so-far lines)) can)

pub returns-clause-same : goal.returns-clause-same
returns-clause-same g c = ap rule_of c.follow_line.ensures.same

pub returns-clause-follows : goal.returns-clause-follows
returns-clause-follows g c = λ lines at.
    follows-line g.T.Teller.told (g.T.Teller.telling c.args.self.now.teller) c.follow_line.result c.follow_line.new.self lines c.args.line _ _ (c.follow_line.ensures.follows _ at) (c.follow_line.ensures.part _ at) c.follow_line.ensures.failure
