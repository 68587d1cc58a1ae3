-- The iterator gives the attributes, and the closure is the test.
use Rattle.std.proofs.Common.{rules, tests}
use Rattle.std.proofs.lemmas.Iterator.Consumers.{YieldsList-from_first}
use Rattle.std.proofs.lemmas.Iterator.Search.{any_from_yields_List}
use Rattle.radius_packet.specs.Views.{attribute_view}
use Rattle.radius_packet.specs.Checks.{is_seal}
use Rattle.radius_packet.proofs.checking.has_seal.Goals as goal

pub returns : goal.returns
returns c =
    any_from_yields_List is_seal _ _ c.any.result c.any.ensures.ran
    (YieldsList-from_first attribute_view (λ rest. rest) _ c.new.ensures) (λ x b q k. search (rules, tests))
