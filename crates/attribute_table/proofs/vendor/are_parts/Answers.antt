use Rattle.std.proofs.Common.{rules, tests, ◌≡◌, ◌<◌, length, sym, ◌∙◌, arith}
use Rattle.attribute_table.proofs.VendorLemmas.{are_parts-rest, are_parts-none, are_parts-nil}
use Rattle.attribute_table.proofs.vendor.are_parts.Goals as goal

pub loop-rest-preserved : goal.loop-rest-preserved
loop-rest-preserved c = c.loop-rest.invariant ∙ are_parts-rest c.loop-rest.rest.now c.in-Some.size (sym c.in-Some.ensures)

pub returns-in-None : goal.returns-in-None
returns-in-None c =
    let some : 0 < length c.loop-rest.rest.now = grind (arith, tests) in
    sym (c.loop-rest.invariant ∙ are_parts-none c.loop-rest.rest.now (sym c.in-None.ensures) some)

pub returns : goal.returns
returns c =
    let none : length c.loop-rest.rest.now ≡ 0 = search (rules, tests) in
    sym (c.loop-rest.invariant ∙ are_parts-nil c.loop-rest.rest.now none)
