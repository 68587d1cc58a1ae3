use Rattle.std.proofs.Common.{subst}
use Rattle.pending_table.specs.Table.{Row}
use Rattle.pending_table.specs.Stores.{IsPrepared}
use Rattle.pending_table.proofs.Preparing.{admitted-list}
use Rattle.pending_table.proofs.stores.Stores.admit.Goals as goal

pub returns-clause-ok : goal.returns-clause-ok
returns-clause-ok c =
    let s = c.args.self.now in
    let r : Row = (c.args.key, c.args.entry) in
    let done : IsPrepared s c.args.moment r c.prepare.new.self =
    subst (λ t. IsPrepared s c.args.moment t c.prepare.new.self) c.in_ok-key.ensures.1 c.in_ok-prepare.ensures.ok in
    admitted-list s c.prepare.new.self c.enter.new.self c.args.moment r c.requires.kept done c.prepare.ensures.next c.enter.ensures.waits c.enter.ensures.rest.settled
