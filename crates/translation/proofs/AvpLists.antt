-- AVPs as code keeps them, and as definitions see them.
use Rattle.std.proofs.Common.{◌≡◌, Bool, true, false, cond, ◌||◌, List, [], ◌∷◌, map, Option, Some, refl, ap}
use Rattle.std.specs.Prelude.{find, option_map}
use Rattle.std.specs.List.{list_any}
use Rattle.diameter_avp.specs.declared.avp.Avp.{Avp}
use Rattle.diameter_avp.specs.Avps.{AvpParts}
use Rattle.diameter_avp.specs.View.{avp_view}

pub list_any_viewed : (test : AvpParts → Bool) (list : List Avp) → list_any (λ a. test (avp_view a)) list ≡ list_any test (map avp_view list)
list_any_viewed test [] = refl
list_any_viewed test (a ∷ list) = ap (λ (b : Bool). test (avp_view a) || b) (list_any_viewed test list)

found_viewed : (b : Bool) (a : Avp) (rest : Option Avp) (found : Option AvpParts) → option_map avp_view rest ≡ found → option_map avp_view (cond b (Some a) rest) ≡ cond b (Some (avp_view a)) found
found_viewed true a rest found e = refl
found_viewed false a rest found e = e

pub find_viewed : (test : AvpParts → Bool) (list : List Avp) → option_map avp_view (find (λ a. test (avp_view a)) list) ≡ find test (map avp_view list)
find_viewed test [] = refl
find_viewed test (a ∷ list) = found_viewed (test (avp_view a)) a _ _ (find_viewed test list)
