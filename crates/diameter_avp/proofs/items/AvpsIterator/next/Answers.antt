-- What is left after an item are the items that stood behind it.
use Rattle.std.proofs.Common.{rules, ◌≡◌, ◌<◌, length, sym, ◌∙◌, ap, arith, tests}
use Rattle.diameter_avp.proofs.ItemLemmas.{items_at-none, items_at-read, items_at-fault}
use Rattle.diameter_avp.proofs.items.AvpsIterator.next.Goals as goal

pub returns-then-is_empty-clause-steps : goal.returns-then-is_empty-clause-steps
returns-then-is_empty-clause-steps c =
    let none : length c.self.inside.rest.now ≡ 0 = search (rules, tests) in
    let e = sym c.self.view_is ∙ items_at-none c.self.inside.place c.self.inside.rest.now none in
    (e, e)

pub returns-in-Ok : goal.returns-in-Ok
returns-in-Ok c =
    let took = c.in-Ok.ensures in
    let step = sym c.self.view_is ∙ items_at-read c.self.inside.place c.self.inside.rest.now _ c.in-Ok.span took.read took.whole in
    let shorter = ap length step in
    record { steps = step; goes = search rules }

pub returns-in-Err : goal.returns-in-Err
returns-in-Err c =
    let some : 0 < length c.self.inside.rest.now = grind (arith, tests) in
    let step = sym c.self.view_is ∙ items_at-fault c.self.inside.place c.self.inside.rest.now _ some c.in-Err.ensures in
    let shorter = ap length step in
    record { steps = step; goes = search rules }
