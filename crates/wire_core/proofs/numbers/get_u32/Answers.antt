use Rattle.std.proofs.Common.{◌∙◌, ap, arith, ◌+◌, refl}
use Rattle.wire_core.specs.Numbers.{number}
use Rattle.wire_core.proofs.NumberLemmas.{octets_at-3, octets_at-4, number-3, number-4}
use Rattle.wire_core.proofs.numbers.get_u32.Goals as goal

pub returns : goal.returns
returns c =
    let three = ap number (octets_at-3 c.args.octets.now c.args.place (c.args.place + 1) (c.args.place + 2) (omega arith) refl (omega arith)) ∙ number-3 _ _ _ in
    let four = ap number (octets_at-4 c.args.octets.now c.args.place (c.args.place + 1) (c.args.place + 2) (c.args.place + 3) (omega arith) refl (omega arith) (omega arith)) ∙ number-4 _ _ _ _ in
    omega (arith, three, four, c.get_u24.ensures.value)
