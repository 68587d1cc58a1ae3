use Rattle.std.proofs.Common.{◌≡◌, eqb, refl, ap, ◌∙◌, rules, tests}
use Rattle.std.specs.List.{find}
use Rattle.std.proofs.lemmas.Iterator.{YieldsList-from_slice}
use Rattle.std.proofs.lemmas.Iterator.Search.{find_from_yields_List}
use Rattle.attribute_table.specs.declared.row.TheConstants.{ROWS}
use Rattle.attribute_table.specs.declared.row.Row.{Row}
use Rattle.attribute_table.specs.Rows.{row_of_avp, rows}
use Rattle.attribute_table.proofs.row.row_of_avp.Goals as goal

rows_are : ROWS ≡ rows
unfolding rows
rows_are = refl

pub returns : goal.returns
unfolding row_of_avp
returns c =
    c.copied.ensures
    ∙ find_from_yields_List (λ (r : Row). eqb r.avp c.args.code) _ _ c.find.result c.find.ensures.ran
    (YieldsList-from_slice ROWS cc) (λ x b q k. search (rules, tests))
    ∙ ap (find (λ (r : Row). eqb r.avp c.args.code)) rows_are
