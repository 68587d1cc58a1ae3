-- The iterator gives the parts, and the closure is the test.
use Rattle.std.proofs.Common.{◌∙◌, ap, refl, rules, tests, Some}
use Rattle.std.proofs.lemmas.Iterator.Consumers.{YieldsList-from_first}
use Rattle.std.proofs.lemmas.Iterator.Search.{any_from_yields_List}
use Rattle.attribute_table.specs.Known.{is_key}
use Rattle.attribute_table.specs.Vendors.{VendorPart}
use Rattle.attribute_table.specs.VendorViews.{part_view}
use Rattle.translation.specs.Judging.{has_key_part}
use Rattle.reverse_map.proofs.images.has_key_part.Goals as goal

pub returns-in-Some : goal.returns-in-Some
returns-in-Some c =
    any_from_yields_List (λ (p : VendorPart). is_key p.code (Some p.vendor)) _ _ c.any.result c.any.ensures.ran
    (YieldsList-from_first part_view (λ rest. rest) _ refl) (λ x b q k. search (rules, tests))
    ∙ ap has_key_part c.in-Some.ensures.exact
