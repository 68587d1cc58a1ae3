-- AVPs that are looked for by their code, with V clear (RFC 6733, section 4.1).
use Rattle.std.specs.Prelude.{ℕ, Bool, ◌==◌, nat_le, ◌&&◌, List, [], ◌∷◌, length, find, filter, Option, Some, None, is_none, option_map, Result, Ok, Err, if◌then◌else◌}
use Rattle.wire_core.specs.Numbers.{number}
use Rattle.diameter_avp.specs.Avps.{AvpParts}
use Rattle.diameter_avp.specs.declared.fault.AvpFault.{AvpFault}

-- an AVP of this code, with V clear
abbrev pub has_code : ℕ → AvpParts → Bool
has_code code a = is_none a.vendor && a.code == code

-- and with a body of so many to so many octets
abbrev pub has_size : ℕ → ℕ → ℕ → AvpParts → Bool
has_size code least most a = has_code code a && nat_le least (length a.body) && nat_le (length a.body) most

-- the number in an AVP of this code, if its body has four octets
abbrev pub number_of : ℕ → AvpParts → Option ℕ
number_of code a = if has_size code 4 4 a then Some (number a.body) else None

-- the number in the first AVP of this code whose body has four octets
abbrev pub first_number : ℕ → List AvpParts → Option ℕ
first_number code avps = option_map (λ a. number a.body) (find (has_size code 4 4) avps)

-- the body of the only one of these
abbrev pub only_body : List AvpParts → Option (List ℕ)
only_body [] = None
only_body (a ∷ []) = Some a.body
only_body (a ∷ b ∷ rest) = None

-- the body of the only AVP of this code, of AVPs that can all be read
abbrev pub only_in : ℕ → Result (List AvpParts) AvpFault → Option (List ℕ)
only_in code (Ok avps) = only_body (filter (has_code code) avps)
only_in code (Err fault) = None
