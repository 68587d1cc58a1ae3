use Rattle.std.proofs.Common.{rules, tests, ◌∙◌}
use Rattle.std.proofs.lemmas.Iterator.{YieldsList-from_slice}
use Rattle.std.proofs.lemmas.Iterator.Search.{any_from_yields_List}
use Rattle.diameter_avp.specs.View.{avp_view}
use Rattle.translation.proofs.AvpLists.{list_any_viewed}
use Rattle.translation.specs.Reading.{is_key_avp}
use Rattle.reverse_map.proofs.understanding.has_key.Goals as goal

pub returns : goal.returns
returns c =
    any_from_yields_List (λ a. is_key_avp (avp_view a)) _ _ _ c.any.ensures.ran (YieldsList-from_slice c.args.list.now cc) (λ x b q k. search (rules, tests))
    ∙ list_any_viewed is_key_avp c.args.list.now
