use Rattle.std.proofs.Common.{◌∙◌, sym, subst}
use Rattle.diameter_message.specs.Framing.{FramerParts}
use Rattle.server_workers.specs.LinkReading.{Stops}
use Rattle.server_workers.proofs.LinkReadingLemmas.{feeds}
use Rattle.server_workers.proofs.link_reader.feed_all.Goals as goal

pub returns-in-Ok-clause-reads : goal.returns-in-Ok-clause-reads
returns-in-Ok-clause-reads g c = λ start link s.
    feeds g.D.Datagrams.told start c.loop.visitor link c.args.piece.now c.args.framer.now c.loop.framer c.feed.new.self
    c.loop.invariant.same c.in-Ok.ensures.ok c.in-Ok.ensures.stands (c.loop.invariant.reads start link s)

pub returns-then-tick_again-clause-reads : goal.returns-then-tick_again-clause-reads
returns-then-tick_again-clause-reads g c = λ start link s.
    subst (λ (f : FramerParts). Stops g.D.Datagrams.told start c.tick_again.new.self link f)
    (sym (c.in-Err.ensures.err ∙ c.loop.invariant.same))
    (c.if-tick_again.ensures.reads start link c.args.piece.now c.args.framer.now (c.loop.invariant.reads start link s))
