use Rattle.std.proofs.Common.{◌∙◌, sym}
use Rattle.pending_table.proofs.Dropping.{live_left}
use Rattle.pending_table.proofs.stores.Stores.purge_settled.Goals as goal

pub returns-clause-live : goal.returns-clause-live
returns-clause-live c =
    let t = c.loop-self.self in
    let inv = c.loop-self.invariant in
    sym (live_left c.args.self.now t c.args.moment t.settled.items inv.1.patience inv.1.retention inv.0.cooled (sym c.is_first_settled_dead.ensures ∙ c.loop-self-test.false)) ∙ inv.2
