use Rattle.std.proofs.Common.{◌≡◌, eqb, ap, map, refl, Bor, List, ℕ, rules, tests}
use Rattle.std.specs.Slice.Iter.{iter_rest}
use Rattle.std.proofs.lemmas.Iterator.{YieldsList-from_slice}
use Rattle.std.proofs.lemmas.Iterator.Search.{find_from_yields_List}
use Rattle.names.specs.declared.avps.Kind.{Kind}
use Rattle.names.specs.declared.avps.TheConstants.{AVPS}
use Rattle.names.specs.Names.{avp_named}
use Rattle.names.proofs.Finding.{none-named, some-named}
use Rattle.names.proofs.avps.find_avp.Goals as goal

abbrev Row : Type 0
Row = ℕ × Bor (List ℕ) × Kind

abbrev Shown : Type 0
Shown = ℕ × record { now : List ℕ } × Kind

abbrev shown : Row → Shown
shown row = (row.0, record { now = row.1.now }, row.2)

pub returns-in_err-row : goal.returns-in_err-row
unfolding avp_named
returns-in_err-row c =
    let test = λ (row : Shown). eqb row.0 c.args.code in
    let found = find_from_yields_List (λ row. test (shown row)) _ _ c.find.result c.find.ensures.ran (YieldsList-from_slice (iter_rest c.iter.result) refl) (λ x b q k. search (rules, tests)) in
    rw c.from_residual.ensures (none-named shown test (λ row. (row.1.now, row.2)) (iter_rest c.iter.result) AVPS c.find.result found (ap (map shown) c.iter.ensures.rest) c.in_err-row.was)

pub returns : goal.returns
unfolding avp_named
returns c =
    let test = λ (row : Shown). eqb row.0 c.args.code in
    let found = find_from_yields_List (λ row. test (shown row)) _ _ c.find.result c.find.ensures.ran (YieldsList-from_slice (iter_rest c.iter.result) refl) (λ x b q k. search (rules, tests)) in
    some-named shown test (λ row. (row.1.now, row.2)) (iter_rest c.iter.result) AVPS c.find.result c.in_ok-row.row found (ap (map shown) c.iter.ensures.rest) c.in_ok-row.was
