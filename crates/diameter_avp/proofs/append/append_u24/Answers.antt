use Rattle.std.proofs.Common.{◌++◌, take, drop, ap, ◌∙◌}
use Rattle.wire_core.proofs.NumberLemmas.{to_be_bytes-24}
use Rattle.diameter_avp.proofs.append.append_u24.Goals as goal

pub returns-clause-items : goal.returns-clause-items
returns-clause-items c =
    c.append.ensures.items ∙ ap (λ piece. c.args.octets.now.items ++ piece) (ap (λ octets. take 3 (drop 1 octets)) c.to_be_bytes.ensures ∙ to_be_bytes-24 c.args.value)
