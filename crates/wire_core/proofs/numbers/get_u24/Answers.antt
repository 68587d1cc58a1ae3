use Rattle.std.proofs.Common.{sym, ◌∙◌, ap, arith, ◌+◌, refl}
use Rattle.wire_core.specs.Numbers.{number}
use Rattle.wire_core.proofs.NumberLemmas.{octets_at-3, number-3}
use Rattle.wire_core.proofs.numbers.get_u24.Goals as goal

pub returns-clause-value : goal.returns-clause-value
returns-clause-value c =
    sym (
    ap number (octets_at-3 c.args.octets.now c.args.place (c.args.place + 1) (c.args.place + 2) (omega arith) refl (omega arith))
    ∙ number-3 _ _ _
    )
