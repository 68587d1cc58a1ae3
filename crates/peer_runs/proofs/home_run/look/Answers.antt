use Rattle.peer_runs.proofs.HomeRunLemmas.{brings, hears-empty, hears-end, hears-fault, hears-none}
use Rattle.peer_runs.proofs.home_run.look.Goals as goal

pub returns-then-count-eq0-clause-answers : goal.returns-then-count-eq0-clause-answers
returns-then-count-eq0-clause-answers g c = λ before r.
    hears-empty c.args.home.now (g.O.LinkOut.told c.args.link.now.1) before (g.K.Sink.written c.args.output.now) c.args.framer.now
    (g.I.LinkIn.told c.args.link.now.0) (g.I.LinkIn.told c.receive.new.self) r c.in-Bytes.count c.receive.new.buf c.if-count-eq0.true c.in-Bytes.ensures

pub returns-else-count-eq0-clause-answers : goal.returns-else-count-eq0-clause-answers
returns-else-count-eq0-clause-answers g c = λ before r.
    c.take_piece.ensures.answers (g.I.LinkIn.told c.receive.new.self) before
    (brings c.args.home.now (g.O.LinkOut.told c.args.link.now.1) before (g.K.Sink.written c.args.output.now) c.args.framer.now
    (g.I.LinkIn.told c.args.link.now.0) (g.I.LinkIn.told c.receive.new.self) r c.in-Bytes.count c.receive.new.buf c.if-count-eq0.false c.in-Bytes.ensures)

pub returns-in-Nothing-clause-answers : goal.returns-in-Nothing-clause-answers
returns-in-Nothing-clause-answers g c = λ before r.
    hears-none c.args.home.now (g.O.LinkOut.told c.args.link.now.1) before (g.K.Sink.written c.args.output.now) c.args.framer.now
    (g.I.LinkIn.told c.args.link.now.0) (g.I.LinkIn.told c.receive.new.self) r c.in-Nothing.ensures

pub returns-in-Ended-clause-answers : goal.returns-in-Ended-clause-answers
returns-in-Ended-clause-answers g c = λ before r.
    hears-end c.args.home.now (g.O.LinkOut.told c.args.link.now.1) before (g.K.Sink.written c.args.output.now) c.args.framer.now
    (g.I.LinkIn.told c.args.link.now.0) (g.I.LinkIn.told c.receive.new.self) r c.in-Ended.ensures

pub returns-in-Failed-clause-answers : goal.returns-in-Failed-clause-answers
returns-in-Failed-clause-answers g c = λ before r.
    hears-fault c.args.home.now (g.O.LinkOut.told c.args.link.now.1) before (g.K.Sink.written c.args.output.now) c.args.framer.now
    (g.I.LinkIn.told c.args.link.now.0) (g.I.LinkIn.told c.receive.new.self) r c.in-Failed.ensures
