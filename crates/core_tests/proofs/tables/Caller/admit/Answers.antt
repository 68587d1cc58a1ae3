use Rattle.std.proofs.Common.{◌++◌, ◌∷◌, [], arith, ap}
use Rattle.std.proofs.lemmas.List.Elements.{All-same}
use Rattle.pending_table.specs.Table.{live, new_entry}
use Rattle.core_tests.proofs.Bounds.{IsBefore, All-live, All-in_order, All-unused, All-joined}
use Rattle.core_tests.proofs.tables.Caller.admit.Goals as goal

pub admit-requires-clause-unused : goal.admit-requires-clause-unused
admit-requires-clause-unused c =
    let t = c.self.inside in
    All-unused t.moment t.link c.in-Some.link c.args.number (live t.table t.moment) (grind (arith, c.checked_add.ensures, c.in-Some.is))
    (All-live t.table t.moment t.link c.self.invariant)

pub admit-requires-clause-in_order : goal.admit-requires-clause-in_order
admit-requires-clause-in_order c =
    let t = c.self.inside in
    All-in_order t.moment t.link (live t.table t.moment) (All-live t.table t.moment t.link c.self.invariant)

pub invariant_of-self-2 : goal.invariant_of-self-2
invariant_of-self-2 c =
    let t = c.self.inside in
    All-same (IsBefore t.moment c.in-Some.link) c.admit.new.self.entries
    (live t.table t.moment ++ (c.in_ok-key.key, new_entry c.in_ok-key.key c.in-Some.link c.args.number c.in_ok-kept.kept c.in_ok-sent.sent t.moment) ∷ [])
    (ap (λ p. p.entries) c.in_ok-admit.ensures.ok)
    (All-joined t.moment t.link c.in-Some.link (live t.table t.moment) c.in_ok-key.key c.args.number c.in_ok-kept.kept c.in_ok-sent.sent
    (grind (arith, c.checked_add.ensures, c.in-Some.is))
    (All-live t.table t.moment t.link c.self.invariant))
