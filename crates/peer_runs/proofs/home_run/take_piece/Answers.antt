use Rattle.peer_runs.proofs.HomeRunLemmas.{feeds, stops-wanting}
use Rattle.peer_runs.proofs.home_run.take_piece.Goals as goal

pub returns-in_default-clause-answers : goal.returns-in_default-clause-answers
returns-in_default-clause-answers g c = λ inlet before s.
    stops-wanting c.args.home.now inlet before c.args.piece.now c.args.framer.now (g.O.LinkOut.told c.args.link.now) (g.K.Sink.written c.args.output.now) s

pub returns-clause-answers : goal.returns-clause-answers
returns-clause-answers g c = λ inlet before s.
    c.take_messages.ensures.answers inlet before
    (feeds c.args.home.now (g.O.LinkOut.told c.args.link.now) before (g.K.Sink.written c.args.output.now) c.args.piece.now c.args.framer.now c.feed.new.self inlet
    c.in-Ok.ensures.stands s)
