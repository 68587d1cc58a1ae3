-- The iterator gives the packet's attributes, and the closure is the test.
use Rattle.std.proofs.Common.{rules, tests}
use Rattle.std.proofs.lemmas.Iterator.Consumers.{YieldsList-from_first}
use Rattle.std.proofs.lemmas.Iterator.Search.{any_from_yields_List}
use Rattle.radius_packet.specs.Views.{attribute_view}
use Rattle.translation.specs.Judging.{is_key_attribute}
use Rattle.reverse_map.proofs.images.has_key.Goals as goal

pub returns : goal.returns
returns c =
    any_from_yields_List is_key_attribute _ _ c.any.result c.any.ensures.ran
    (YieldsList-from_first attribute_view (λ rest. rest) _ c.attributes.ensures.value) (λ x b q k. search (rules, tests))
