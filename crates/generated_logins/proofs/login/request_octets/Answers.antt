use Rattle.std.proofs.Common.{◌+◌, ap, sym, ◌∙◌}
use Rattle.wire_core.specs.Numbers.{u16}
use Rattle.wire_core.proofs.NumberLemmas.{to_be_bytes-16}
use Rattle.generated_logins.proofs.LoginLemmas.{packet-pieces}
use Rattle.generated_logins.proofs.login.request_octets.Goals as goal

pub returns : goal.returns
returns c =
    packet-pieces c.args.number _ _ _ _ _ c.to_be_bytes.result c.authenticator.result c.as_slice.result.now c.new-octets.ensures.items
    c.in_ok-extend_from_slice.ensures.items c.in_ok-extend_from_slice-2.ensures.items c.in_ok-extend_from_slice-3.ensures.items c.in_ok-extend_from_slice-4.ensures.items
    (c.to_be_bytes.ensures ∙ to_be_bytes-16 _ ∙ ap (λ n. u16 (20 + n)) (c.len.ensures ∙ sym c.as_slice.ensures.len)) c.authenticator.ensures (c.as_slice.ensures.value ∙ c.in_ok-attributes.ensures.attributes)
