-- Counts in the order of their lines (profile).
use Rattle.std.specs.Prelude.{ℕ, ◌+◌, ◌-◌, ◌^◌, Bool, false, ◌==◌, nat_lt, ◌&&◌, ◌||◌, not, min, List, [], ◌∷◌, length, Option, Some, None, unwrap_or, slice_set, if◌then◌else◌}
use Rattle.std.specs.List.{insert, position, slice_get}
use Rattle.count_command.specs.declared.tally.Count.{Count}
use Rattle.count_command.specs.declared.tally.Order.{Order}

-- what is counted once: the order of its line, what stands there before the value, and how much it adds
pub record Hit : Type 0 where
  pub order : Order
  pub head : List ℕ
  pub amount : ℕ

-- by the first number that differs
abbrev pub is_less : List ℕ → List ℕ → Bool
is_less [] ys = false
is_less (x ∷ xs) [] = false
is_less (x ∷ xs) (y ∷ ys) = nat_lt x y || (x == y && is_less xs ys)

abbrev pub numbers_of : Order → List ℕ
numbers_of o = o.metric ∷ o.first ∷ o.second ∷ o.third ∷ []

abbrev pub comes_before : Order → Order → Bool
comes_before order other = is_less (numbers_of order) (numbers_of other)

-- where a count of this order stands, or would stand
abbrev pub first_not_before : Order → List Count → Option ℕ
first_not_before order counts = position (λ c. not (comes_before c.order order)) counts

abbrev pub place_of : Order → List Count → ℕ
place_of order counts = unwrap_or (first_not_before order counts) (length counts)

abbrev pub is_of : Order → Option Count → Bool
is_of order None = false
is_of order (Some c) = not (comes_before order c.order)

abbrev pub stands : Order → List Count → Bool
stands order counts = is_of order (slice_get counts (place_of order counts))

abbrev pub count_of : Hit → Count
count_of hit = record { order = hit.order; head = hit.head; value = hit.amount }

-- a count stands still at the end of 64 bits
abbrev pub raised : ℕ → Count → Count
raised amount c = record c { value = min (c.value + amount) (2 ^ 64 - 1) }

-- one hit more: the count of its order rises, or is put where it belongs
abbrev pub added_at : Option Count → List Count → Hit → List Count
added_at None counts hit = insert counts (place_of hit.order counts) (count_of hit)
added_at (Some c) counts hit =
    if comes_before hit.order c.order
    then insert counts (place_of hit.order counts) (count_of hit)
    else slice_set counts (place_of hit.order counts) (raised hit.amount c)

abbrev pub added : List Count → Hit → List Count
added counts hit = added_at (slice_get counts (place_of hit.order counts)) counts hit

-- and these hits, one after another
abbrev pub with_hits : List Count → List Hit → List Count
with_hits counts [] = counts
with_hits counts (hit ∷ hits) = with_hits (added counts hit) hits
