-- The first number among AVPs, one AVP after another.
use Rattle.std.proofs.Common.{◌≡◌, ℕ, Bool, true, false, cond, List, ◌∷◌, Option, Some, None, refl}
use Rattle.std.specs.Prelude.{find, option_map}
use Rattle.std.specs.Option.{option_or}
use Rattle.wire_core.specs.Numbers.{number}
use Rattle.diameter_avp.specs.Avps.{AvpParts}
use Rattle.diameter_message.specs.Finding.{has_size, number_of, first_number}

or-step : (r : Option ℕ) (a : AvpParts) (b : Bool) (rest : Option AvpParts)
    → option_or (option_or r (cond b (Some (number a.body)) None)) (option_map (λ (a : AvpParts). number a.body) rest)
    ≡ option_or r (option_map (λ (a : AvpParts). number a.body) (cond b (Some a) rest))
or-step None a true rest = refl
or-step None a false rest = refl
or-step (Some r) a b rest = refl

-- what was found, or the number in the next AVP, or the first in the rest
pub first_number-step : (code : ℕ) (found : Option ℕ) (a : AvpParts) (rest : List AvpParts)
    → option_or (option_or found (number_of code a)) (first_number code rest) ≡ option_or found (first_number code (a ∷ rest))
first_number-step code found a rest = or-step found a (has_size code 4 4 a) (find (has_size code 4 4) rest)

pub or-none : (found : Option ℕ) → option_or found None ≡ found
or-none None = refl
or-none (Some n) = refl
