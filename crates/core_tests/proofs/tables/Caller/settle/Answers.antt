use Rattle.std.proofs.Common.{Some, ap}
use Rattle.std.proofs.lemmas.List.Elements.{All-same}
use Rattle.pending_table.specs.Table.{live, settled}
use Rattle.core_tests.proofs.Bounds.{IsBefore, All-live, All-in_order, All-settled}
use Rattle.core_tests.proofs.tables.Caller.settle.Goals as goal

pub settle-requires-clause-in_order : goal.settle-requires-clause-in_order
settle-requires-clause-in_order c =
    let t = c.self.inside in
    All-in_order t.moment t.link (live t.table t.moment) (All-live t.table t.moment t.link c.self.invariant)

pub invariant_of-self : goal.invariant_of-self
invariant_of-self c =
    let t = c.self.inside in
    All-same (IsBefore t.moment t.link) c.settle.new.self.entries
    (settled t.table c.args.link c.args.number t.moment (Some c.in_ok-reply.reply))
    (ap (λ p. p.entries) c.settle.ensures)
    (All-settled t.table t.moment t.link c.args.link c.args.number (Some c.in_ok-reply.reply) c.self.invariant)
