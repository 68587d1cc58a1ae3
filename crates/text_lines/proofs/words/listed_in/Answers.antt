use Rattle.std.proofs.Common.{◌≡◌, ◌==◌, map, rules, tests}
use Rattle.std.specs.List.{slice_split}
use Rattle.std.proofs.lemmas.Result.{IfOk-at_ok}
use Rattle.std.proofs.lemmas.Iterator.Consumers.{map_from_collect}
use Rattle.std.proofs.lemmas.Iterator.Splits.{YieldsList-from_slice_split}
use Rattle.text_lines.proofs.words.listed_in.Goals as goal

pub returns : goal.returns
returns c =
    let made : map (λ x. x.now) c.in_ok-collect.field-0.items ≡ slice_split (λ b. b == 44) c.args.word.now =
    IfOk-at_ok _ c.in_ok-collect.was (map_from_collect _ c.collect.ensures.ran (YieldsList-from_slice_split _ _ c.args.word.now c.split.ensures.rest c.split.ensures.done c.split.ensures.closure (λ x r q k. search (rules, tests)))) in
    made
