-- The iterator gives the packet's attributes, and the closure is the test.
use Rattle.std.proofs.Common.{◌∙◌, sym, rules, tests}
use Rattle.std.proofs.lemmas.Iterator.Consumers.{YieldsList-from_first}
use Rattle.std.proofs.lemmas.Iterator.Search.{any_from_yields_List}
use Rattle.radius_packet.specs.Views.{attribute_view}
use Rattle.translation.specs.Heads.{is_credential}
use Rattle.translation.proofs.heads.request_type.Goals as goal

pub returns-then-any : goal.returns-then-any
returns-then-any c =
    let any =
    any_from_yields_List is_credential _ _ c.any.result c.any.ensures.ran
    (YieldsList-from_first attribute_view (λ rest. rest) _ c.attributes.ensures.value) (λ x b q k. search (rules, tests)) in
    rw (sym any ∙ c.if-any.true)

pub returns-else-any : goal.returns-else-any
returns-else-any c =
    let any =
    any_from_yields_List is_credential _ _ c.any.result c.any.ensures.ran
    (YieldsList-from_first attribute_view (λ rest. rest) _ c.attributes.ensures.value) (λ x b q k. search (rules, tests)) in
    rw (sym any ∙ c.if-any.false)
