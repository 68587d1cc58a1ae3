use Rattle.server_workers.proofs.LinkReadingLemmas.{brings, rests-empty, rests-ended, rests-failed, rests-tick}
use Rattle.server_workers.proofs.link_reader.look.Goals as goal

pub returns-then-count-eq0-clause-reads : goal.returns-then-count-eq0-clause-reads
returns-then-count-eq0-clause-reads g c = λ start r.
    rests-empty g.D.Datagrams.told start c.args.visitor.now c.visit.new.self c.in-Bytes.count c.receive.new.buf
    (g.I.LinkIn.told c.args.link.now) (g.I.LinkIn.told c.receive.new.self) c.args.frames.now.framer c.visit.result c.if-count-eq0.true c.in-Bytes.ensures r c.visit.ensures.visits

pub returns-else-count-eq0-clause-reads : goal.returns-else-count-eq0-clause-reads
returns-else-count-eq0-clause-reads g c = λ start r.
    c.take_piece.ensures.reads start (g.I.LinkIn.told c.receive.new.self)
    (brings g.D.Datagrams.told start c.args.visitor.now (g.I.LinkIn.told c.args.link.now) c.in-Bytes.count c.receive.new.buf (g.I.LinkIn.told c.receive.new.self)
    c.args.frames.now.framer c.if-count-eq0.false c.in-Bytes.ensures r)

pub returns-in-Nothing-clause-reads : goal.returns-in-Nothing-clause-reads
returns-in-Nothing-clause-reads g c = λ start r.
    rests-tick g.D.Datagrams.told start c.args.visitor.now c.visit-in-Nothing.new.self
    (g.I.LinkIn.told c.args.link.now) (g.I.LinkIn.told c.receive.new.self) c.args.frames.now.framer c.visit-in-Nothing.result c.in-Nothing.ensures r c.visit-in-Nothing.ensures.visits

pub returns-in-Ended-clause-reads : goal.returns-in-Ended-clause-reads
returns-in-Ended-clause-reads g c = λ start r.
    rests-ended g.D.Datagrams.told start c.args.visitor.now c.visit-in-Ended.new.self
    (g.I.LinkIn.told c.args.link.now) (g.I.LinkIn.told c.receive.new.self) c.args.frames.now.framer c.visit-in-Ended.result c.in-Ended.ensures r c.visit-in-Ended.ensures.visits

pub returns-in-Failed-clause-reads : goal.returns-in-Failed-clause-reads
returns-in-Failed-clause-reads g c = λ start r.
    rests-failed g.D.Datagrams.told start c.args.visitor.now c.visit-in-Failed.new.self
    (g.I.LinkIn.told c.args.link.now) (g.I.LinkIn.told c.receive.new.self) c.args.frames.now.framer c.visit-in-Failed.result c.in-Failed.ensures r c.visit-in-Failed.ensures.visits
