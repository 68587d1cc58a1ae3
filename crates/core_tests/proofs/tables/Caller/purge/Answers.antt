use Rattle.std.proofs.Common.{ap}
use Rattle.std.proofs.lemmas.List.Elements.{All-same, All-filter}
use Rattle.pending_table.specs.Table.{is_live, live}
use Rattle.core_tests.proofs.Bounds.{IsBefore}
use Rattle.core_tests.proofs.tables.Caller.purge.Goals as goal

pub invariant_of-self : goal.invariant_of-self
invariant_of-self c =
    let t = c.self.inside in
    All-same (IsBefore t.moment t.link) c.purge.new.self.entries (live t.table c.args.moment)
    (ap (λ p. p.entries) c.purge.ensures)
    (All-filter (λ r. is_live t.table.patience t.table.retention c.args.moment r.1) (IsBefore t.moment t.link) t.table.entries c.self.invariant)
