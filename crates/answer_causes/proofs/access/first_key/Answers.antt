use Rattle.std.proofs.Common.{rules, tests, ap, ◌∙◌}
use Rattle.std.specs.Option.{option_map}
use Rattle.std.proofs.lemmas.Iterator.{YieldsList-from_slice}
use Rattle.std.proofs.lemmas.Iterator.Search.{find_from_yields_List}
use Rattle.diameter_avp.specs.View.{avp_view}
use Rattle.translation.specs.Reading.{holds_key}
use Rattle.translation.proofs.AvpLists.{find_viewed}
use Rattle.answer_causes.proofs.access.first_key.Goals as goal

pub returns : goal.returns
returns c =
    let found = find_from_yields_List (λ a. holds_key (avp_view a)) _ _ c.find.result c.find.ensures.ran (YieldsList-from_slice c.args.list.now cc) (λ x b q k. search (rules, tests)) in
    ap (λ o. option_map avp_view o) (c.copied.ensures ∙ found) ∙ find_viewed holds_key c.args.list.now
