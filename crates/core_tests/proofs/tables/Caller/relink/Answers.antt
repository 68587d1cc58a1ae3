use Rattle.std.proofs.Common.{arith, ap}
use Rattle.std.proofs.lemmas.List.Elements.{All-same}
use Rattle.pending_table.specs.Table.{relinked}
use Rattle.core_tests.proofs.Bounds.{IsBefore, All-relinked}
use Rattle.core_tests.proofs.tables.Caller.relink.Goals as goal

pub invariant_of-self : goal.invariant_of-self
invariant_of-self c =
    let t = c.self.inside in
    All-same (IsBefore t.moment c.in-Some.link) c.relink.new.self.entries (relinked t.table c.in-Some.link t.moment)
    (ap (λ p. p.entries) c.relink.ensures)
    (All-relinked t.table t.moment t.link c.in-Some.link (grind (arith, c.checked_add.ensures, c.in-Some.is)) c.self.invariant)
