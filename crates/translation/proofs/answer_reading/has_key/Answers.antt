use Rattle.std.proofs.Common.{rules, tests, ◌∙◌}
use Rattle.std.proofs.lemmas.Iterator.{YieldsList-from_slice}
use Rattle.std.proofs.lemmas.Iterator.Search.{any_from_yields_List}
use Rattle.diameter_avp.specs.View.{avp_view}
use Rattle.translation.specs.Reading.{holds_key}
use Rattle.translation.proofs.AvpLists.{list_any_viewed}
use Rattle.translation.proofs.answer_reading.has_key.Goals as goal

pub returns : goal.returns
returns c =
    any_from_yields_List (λ a. holds_key (avp_view a)) _ _ _ c.any.ensures.ran (YieldsList-from_slice c.args.list.now cc) (λ x b q k. search (rules, tests))
    ∙ list_any_viewed holds_key c.args.list.now
