-- Internal: the index of numbers, once it is made anew.
use Rattle.std.specs.Prelude.{◌≡◌, ℕ, ◌≤◌, false, List, length, Some, None}
use Rattle.std.specs.List.{AllByRecursion}
use Rattle.std.specs.HashMap.{HashMap, get, hash_map_len}
use Rattle.std.specs.declared.random_state.RandomState.{RandomState}
use Rattle.pending_table.specs.declared.stores.Number.{Number}
use Rattle.pending_table.specs.Table.{Row}
use Rattle.pending_table.specs.Merged.{Held}
use Rattle.pending_table.specs.Stores.{same_number, number_of}

-- the row, sent over this link with this number
abbrev pub with_number : Row → ℕ → ℕ → Row
with_number r link n = (r.0, record r.1 { link = link; number = n })

-- the answers to the two name different numbers
abbrev pub HasOtherNumber : Held → Held → Type 0
HasOtherNumber p q = same_number (number_of p.1) (number_of q.1) ≡ false

-- the index leads to each of these rows, and from no other number to any
pub record LeadsTo (ps : List Held) (numbers : HashMap Number ℕ RandomState) : Type 0 where
  pub each : AllByRecursion (λ p. get same_number numbers (number_of p.1) ≡ Some p.0) ps
  pub unused : (n : Number) → AllByRecursion (λ p. same_number (number_of p.1) n ≡ false) ps → get same_number numbers n ≡ None
  pub numbered : length ps ≤ hash_map_len numbers
