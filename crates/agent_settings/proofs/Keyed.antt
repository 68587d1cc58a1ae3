-- What the entries of clients say of a search by address.
use Rattle.std.proofs.Common.{◌≡◌, ℕ, ◌+◌, true, false, eqb, nat_eq, inl, inr, List, [], ◌∷◌, ◌++◌, Option, None, Some, position, refl, sym, ap, ◌∙◌, arith}
use Rattle.std.specs.List.{position_from}
use Rattle.std.specs.Map.{keys_of, values_of, lookup}
use Rattle.std.proofs.lemmas.Bool.{cases_Bool}
use Rattle.std.proofs.lemmas.Bool.Decides.{nat_tests}
use Rattle.std.proofs.lemmas.Iterator.Adapters.{position_from-zero}
use Rattle.agent_settings.specs.declared.client.Client.{Client}
use Rattle.agent_settings.specs.Config.{find_address}
use Rattle.agent_settings.specs.Keyed.{IsKeyed}
use Rattle.agent_settings.proofs.Limits.{find_from}

-- a place and a client, where both are there
abbrev pub both : Option ℕ → Option Client → Option (ℕ × Client)
both None client = None
both (Some place) None = None
both (Some place) (Some client) = Some (place, client)

first_of_keyed : (address first : ℕ) (es : List (ℕ × Client)) → IsKeyed es
    → find_from address first (values_of es) ≡ both (position_from (nat_eq address) first (keys_of es)) (lookup (nat_eq address) es)
first_of_keyed address first [] keyed = refl
first_of_keyed address first (e ∷ es) keyed =
    elim (cases_Bool (eqb e.1.address address)) [
      | inl same ↦ (let key : nat_eq address e.0 ≡ true = grind (arith, nat_tests) in rw (same, key) refl)
      | inr other ↦ (let key : nat_eq address e.0 ≡ false = grind (arith, nat_tests) in
          rw (other, key) (first_of_keyed address (first + 1) es keyed.1))
    ]

-- the client at an address is the one that the map has there
pub find_keyed : (address : ℕ) (es : List (ℕ × Client)) → IsKeyed es
    → find_address address (values_of es) ≡ both (position (nat_eq address) (keys_of es)) (lookup (nat_eq address) es)
find_keyed address es keyed =
    first_of_keyed address 0 es keyed
    ∙ ap (λ place. both place (lookup (nat_eq address) es)) (sym (position_from-zero (nat_eq address) (keys_of es)))

-- an address that no client has is no key
pub absent_key : (address : ℕ) (es : List (ℕ × Client)) → IsKeyed es → find_address address (values_of es) ≡ None
    → lookup (nat_eq address) es ≡ None
absent_key address es keyed none = absent 0 es keyed none
  where
    absent : (first : ℕ) (es : List (ℕ × Client)) → IsKeyed es → find_from address first (values_of es) ≡ None
        → lookup (nat_eq address) es ≡ None
    absent first [] keyed none = refl
    absent first (e ∷ es) keyed none =
        elim (cases_Bool (eqb e.1.address address)) [
          | inl same ↦ (let there : ◌≡◌ {A = Option (ℕ × Client)} (Some (first, e.1)) None = rw same at none in cc)
          | inr other ↦ (let key : nat_eq address e.0 ≡ false = grind (arith, nat_tests) in
              rw key (absent (first + 1) es keyed.1 (rw other at none)))
        ]

pub IsKeyed-push : (es : List (ℕ × Client)) (client : Client) → IsKeyed es → IsKeyed (es ++ (client.address, client) ∷ [])
IsKeyed-push [] client keyed = (refl, tt)
IsKeyed-push (e ∷ es) client keyed = (keyed.0, IsKeyed-push es client keyed.1)

pub values_of-push : (es : List (ℕ × Client)) (key : ℕ) (client : Client) → values_of (es ++ (key, client) ∷ []) ≡ values_of es ++ client ∷ []
values_of-push [] key client = refl
values_of-push (e ∷ es) key client = ap (λ cs. e.1 ∷ cs) (values_of-push es key client)
