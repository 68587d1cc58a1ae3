use Rattle.std.proofs.Common.{refl}
use Rattle.server_workers.specs.declared.link_reader.Visitor.{Visitor}
use Rattle.server_workers.specs.LinkReading.{sight_of}
use Rattle.server_workers.proofs.LinkReadingLemmas.{rests-fresh, stops-link}
use Rattle.server_workers.proofs.link_reader.read_link.Goals as goal

pub returns-clause-reads : goal.returns-clause-reads
returns-clause-reads g c =
    let fresh : Visitor g.row.T.Denot g.row.D.Denot = record { pass = c.args.pass; auth_twin = c.args.auth_twin; acct_twin = c.args.acct_twin; lost = 0; again = 0 } in
    let link = g.I.LinkIn.told c.args.link in
    let start = sight_of g.D.Datagrams.told fresh link in
    stops-link g.D.Datagrams.told start c.read_on-failed.new.visitor (g.I.LinkIn.told c.read_on-failed.new.link) c.read_on-failed.new.frames.framer
    (c.read_on-failed.ensures.reads start
    (rests-fresh g.D.Datagrams.told fresh link c.new.result c.new.ensures.value c.new.ensures.stands refl refl c.requires.fresh.0 c.requires.fresh.1))
