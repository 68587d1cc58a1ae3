use Rattle.server_workers.proofs.LinkReadingLemmas.{ticks-again}
use Rattle.server_workers.proofs.link_reader.Visitor.tick_again.Goals as goal

pub returns-clause-reads : goal.returns-clause-reads
returns-clause-reads g c = λ start link piece framer s.
    ticks-again g.D.Datagrams.told start c.args.self.now c.visit-over.new.self piece link framer c.saturating_add-self.result c.visit-over.result
    c.visit-over.ensures.visits c.saturating_add-self.ensures s
