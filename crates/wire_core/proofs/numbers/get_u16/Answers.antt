use Rattle.std.proofs.Common.{sym, ◌∙◌, ap, arith, ◌+◌, refl}
use Rattle.wire_core.specs.Numbers.{number}
use Rattle.wire_core.proofs.NumberLemmas.{octets_at-2, number-2}
use Rattle.wire_core.proofs.numbers.get_u16.Goals as goal

pub returns : goal.returns
returns c =
    sym (ap number (octets_at-2 c.args.octets.now c.args.place (c.args.place + 1) (omega arith) refl) ∙ number-2 _ _)
