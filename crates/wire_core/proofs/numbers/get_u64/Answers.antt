use Rattle.std.proofs.Common.{◌∙◌, ap, arith, ◌+◌, refl}
use Rattle.std.proofs.Common.{length}
use Rattle.wire_core.specs.Numbers.{number}
use Rattle.wire_core.proofs.NumberLemmas.{octets_at-8, octets_at-4, number-append}
use Rattle.wire_core.proofs.numbers.get_u64.Goals as goal

pub returns : goal.returns
returns c =
    let second = ap length (octets_at-4 c.args.octets.now (c.args.place + 4) (c.args.place + 5) (c.args.place + 6) (c.args.place + 7) (omega arith) (omega arith) (omega arith) (omega arith)) in
    let parts = ap number (octets_at-8 c.args.octets.now c.args.place (c.args.place + 4) (omega arith) refl) ∙ number-append _ _ second in
    omega (arith, parts, c.get_u32.ensures, c.get_u32-2.ensures)
