use Rattle.std.proofs.Common.{◌∙◌}
use Rattle.wire_core.proofs.NumberLemmas.{to_be_bytes-32}
use Rattle.generated_logins.proofs.LoginLemmas.{attributes-pieces}
use Rattle.generated_logins.proofs.login.request_attributes.Goals as goal

pub returns-clause-attributes : goal.returns-clause-attributes
returns-clause-attributes c =
    attributes-pieces c.args.number _ _ _ c.as_bytes.result.now c.to_be_bytes.result c.new-octets.ensures.items
    c.in_ok-push_attribute.ensures c.in_ok-push_attribute-2.ensures
    (c.as_bytes.ensures.value ∙ c.in_ok-name.ensures.name) (c.to_be_bytes.ensures ∙ to_be_bytes-32 c.args.number)
