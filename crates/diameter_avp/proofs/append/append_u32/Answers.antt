use Rattle.std.proofs.Common.{◌++◌, ap, ◌∙◌}
use Rattle.wire_core.proofs.NumberLemmas.{to_be_bytes-32}
use Rattle.diameter_avp.proofs.append.append_u32.Goals as goal

pub returns-clause-items : goal.returns-clause-items
returns-clause-items c =
    c.append.ensures.items ∙ ap (λ piece. c.args.octets.now.items ++ piece) (c.to_be_bytes.ensures ∙ to_be_bytes-32 c.args.value)
