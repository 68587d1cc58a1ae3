-- What is left after a part are the parts that stood behind it.
use Rattle.std.proofs.Common.{rules, length, sym, ◌∙◌, ap}
use Rattle.attribute_table.proofs.VendorLemmas.{parts_behind-none, parts_behind-next}
use Rattle.attribute_table.proofs.parts.VsaIterator.next.Goals as goal

pub returns-in_err-size-clause-steps : goal.returns-in_err-size-clause-steps
returns-in_err-size-clause-steps c =
    let none = sym c.self.view_is ∙ parts_behind-none c.self.inside.vendor c.self.inside.rest.now (sym c.in_err-size.ensures) in
    rw c.from_residual.ensures (none, none)

pub returns : goal.returns
returns c =
    let step = sym c.self.view_is ∙ parts_behind-next c.self.inside.vendor c.self.inside.rest.now c.in_ok-size.size _ _ (sym c.in_ok-size.ensures) c.split_at.ensures.front c.split_at.ensures.back in
    let shorter = ap length step in
    record { steps = step; goes = search rules }
