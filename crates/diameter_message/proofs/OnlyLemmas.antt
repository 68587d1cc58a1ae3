-- The only AVP of a code, one AVP after another.
use Rattle.std.proofs.Common.{◌≡◌, ℕ, Bool, true, false, cond, List, [], ◌∷◌, filter, Option, Some, None, Result, Ok, Err, refl}
use Rattle.std.specs.Result.{ok_prefix}
use Rattle.diameter_avp.specs.Avps.{AvpParts, avp_items, fault_of, unless_fault, read_avps}
use Rattle.diameter_avp.specs.declared.fault.AvpFault.{AvpFault}
use Rattle.diameter_message.specs.Finding.{has_code, only_body, only_in}

-- what a list with these items left gives, where this was found before
abbrev pub only_after : ℕ → Option (List ℕ) → List (Result AvpParts AvpFault) → Option (List ℕ)
only_after code found [] = found
only_after code found (Err fault ∷ items) = None
only_after code None (Ok a ∷ items) = cond (has_code code a) (only_after code (Some a.body) items) (only_after code None items)
only_after code (Some body) (Ok a ∷ items) = cond (has_code code a) None (only_after code (Some body) items)

-- where one was found, no more may come
abbrev unless_more : List ℕ → List AvpParts → Option (List ℕ)
unless_more body [] = Some body
unless_more body (b ∷ rest) = None

abbrev none_more : ℕ → List ℕ → Result (List AvpParts) AvpFault → Option (List ℕ)
none_more code body (Ok avps) = unless_more body (filter (has_code code) avps)
none_more code body (Err fault) = None

found-step : (code : ℕ) (body : List ℕ) (a : AvpParts) (rest : List AvpParts) (fault : Option AvpFault) (b : Bool) → has_code code a ≡ b
    → cond b None (none_more code body (unless_fault fault rest)) ≡ none_more code body (unless_fault fault (a ∷ rest))
found-step code body a rest None true e = rw e refl
found-step code body a rest None false e = rw e refl
found-step code body a rest (Some fault) true e = refl
found-step code body a rest (Some fault) false e = refl

found-after : (code : ℕ) (body : List ℕ) (items : List (Result AvpParts AvpFault))
    → only_after code (Some body) items ≡ none_more code body (unless_fault (fault_of items) (ok_prefix items))
found-after code body [] = refl
found-after code body (Err fault ∷ items) = refl
found-after code body (Ok a ∷ items) =
    rw (found-after code body items) (found-step code body a (ok_prefix items) (fault_of items) (has_code code a) refl)

lone : (a : AvpParts) (rest : List AvpParts) → unless_more a.body rest ≡ only_body (a ∷ rest)
lone a [] = refl
lone a (b ∷ rest) = refl

first-step : (code : ℕ) (a : AvpParts) (rest : List AvpParts) (fault : Option AvpFault) (b : Bool) → has_code code a ≡ b
    → cond b (none_more code a.body (unless_fault fault rest)) (only_in code (unless_fault fault rest)) ≡ only_in code (unless_fault fault (a ∷ rest))
first-step code a rest None true e = rw e (lone a (filter (has_code code) rest))
first-step code a rest None false e = rw e refl
first-step code a rest (Some fault) true e = refl
first-step code a rest (Some fault) false e = refl

first-after : (code : ℕ) (items : List (Result AvpParts AvpFault))
    → only_after code None items ≡ only_in code (unless_fault (fault_of items) (ok_prefix items))
first-after code [] = refl
first-after code (Err fault ∷ items) = refl
first-after code (Ok a ∷ items) =
    rw (found-after code a.body items, first-after code items) (first-step code a (ok_prefix items) (fault_of items) (has_code code a) refl)

pub only_after_whole : (code : ℕ) (octets : List ℕ) → only_after code None (avp_items octets) ≡ only_in code (read_avps octets)
unfolding read_avps
only_after_whole code octets = first-after code (avp_items octets)
