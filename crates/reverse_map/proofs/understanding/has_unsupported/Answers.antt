use Rattle.std.proofs.Common.{rules, tests, ◌∙◌}
use Rattle.std.proofs.lemmas.Iterator.{YieldsList-from_slice}
use Rattle.std.proofs.lemmas.Iterator.Search.{any_from_yields_List}
use Rattle.diameter_avp.specs.View.{avp_view}
use Rattle.translation.proofs.AvpLists.{list_any_viewed}
use Rattle.reverse_map.specs.Requests.{is_unsupported}
use Rattle.reverse_map.proofs.understanding.has_unsupported.Goals as goal

pub returns : goal.returns
returns c =
    any_from_yields_List (λ a. is_unsupported (avp_view a)) _ _ _ c.any.ensures.ran (YieldsList-from_slice c.args.list.now cc) (λ x b q k. search (rules, tests))
    ∙ list_any_viewed is_unsupported c.args.list.now
