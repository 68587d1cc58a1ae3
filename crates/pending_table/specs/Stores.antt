-- Internal: what the two stores and their indexes keep.
use Rattle.std.specs.Prelude.{◌≡◌, ℕ, ◌+◌, ◌<◌, ◌≤◌, Bool, true, false, nat_lt, ◌==◌, ◌&&◌, not, List, [], ◌∷◌, filter, slice_get, length, Option, Some, None, option_map, option_and_then, if◌then◌else◌, ◌-◌, ⊤, ◌⊎◌}
use Rattle.std.specs.List.{AllByRecursion}
use Rattle.std.specs.HashMap.{get, hash_map_len, spare}
use Rattle.std.specs.VecDeque.{deque_capacity}
use Rattle.std.specs.BTreeMap.{is_at}
use Rattle.std.specs.Map.{lookup}
use Rattle.std.specs.Ordering.{nat_cmp}
use Rattle.pending_table.specs.declared.key.Key.{Key}
use Rattle.pending_table.specs.declared.entry.Entry.{Entry}
use Rattle.pending_table.specs.declared.stores.Stores.{Stores}
use Rattle.pending_table.specs.declared.stores.Number.{Number}
use Rattle.pending_table.specs.declared.stores.RowPlace.{RowPlace}
use Rattle.pending_table.specs.declared.stores.RowPlace.TheVariants.{Waiting, Settled}
use Rattle.pending_table.specs.Table.{Row, same_key, has_number, is_waiting, ends, is_live as entry_is_live}
use Rattle.pending_table.specs.Merged.{Held, merged, rows, Pairs}

abbrev pub same_number : Number → Number → Bool
same_number a b = a.link == b.link && a.number == b.number

-- what the answer to a row names
abbrev pub number_of : Row → Number
number_of r = record { link = r.1.link; number = r.1.number }

-- x is one of the list
abbrev pub Within : {X : Type 0} → X → List X → Type 0
Within x [] = ⊥
Within x (y ∷ ys) = (y ≡ x) ⊎ Within x ys

-- the one element that meets the test, or none
abbrev pub IsOnly : {X : Type 0} → (X → Bool) → Option X → List X → Type 0
IsOnly test None xs = AllByRecursion (λ y. test y ≡ false) xs
IsOnly test (Some x) xs = (test x ≡ true) × Within x xs × AllByRecursion (λ y. test y ≡ true → y ≡ x) xs

-- whether a row lives at this moment
abbrev pub is_live : Stores → ℕ → Row → Bool
is_live s moment r = entry_is_live s.patience s.retention moment r.1

-- r doesn't outlive t
abbrev pub ends_before : Stores → Row → Row → Type 0
ends_before s r t = ends s.patience s.retention r.1.taken r.1.answer ≤ ends s.patience s.retention t.1.taken t.1.answer

-- the rows that wait, each with its serial number; one that is being put in, under the next number, isn't among them yet
abbrev pub waits : Stores → List Held
waits s = filter (λ p. nat_lt p.0 s.next) s.waiting.entries

-- all rows in the order of taking
abbrev pub all : Stores → List Row
all s = rows (merged (waits s) s.settled.items)

abbrev pub waiting_at : Stores → ℕ → Option Row
waiting_at s serial = lookup (is_at (nat_cmp serial)) s.waiting.entries

abbrev pub settled_at : Stores → ℕ → Option Row
settled_at s count = if nat_lt count s.dropped then None else option_map (λ x. x.1) (slice_get s.settled.items (count - s.dropped))

abbrev pub row_at : Stores → RowPlace → Option Row
row_at s (Waiting serial) = waiting_at s serial
row_at s (Settled count) = settled_at s count

-- where the row is one that meets the test
abbrev pub passing : (Row → Bool) → Option Row → Option Row
passing test None = None
passing test (Some r) = if test r then Some r else None

abbrev pub by_key : Stores → Key → Option Row
by_key s key = passing (λ r. same_key r.0 key) (option_and_then (row_at s) (get same_key s.keys key))

abbrev pub by_number : Stores → ℕ → ℕ → Option Row
by_number s link number =
    passing (λ r. has_number link number r.1)
    (option_and_then (waiting_at s) (get same_number s.numbers (record { link = link; number = number })))

-- the index of keys leads to the settled rows, by their counts from n on
abbrev pub CountedFrom : (Key → Option RowPlace) → ℕ → List Held → Type 0
CountedFrom place n [] = ⊤
CountedFrom place n (x ∷ xs) = (place x.1.0 ≡ Some (Settled n)) × CountedFrom place (n + 1) xs

pub record IsKept (s : Stores) : Type 0 where
  pub by_key : AllByRecursion (λ p. get same_key s.keys p.1.0 ≡ Some (Waiting p.0)) (waits s)
  pub by_count : CountedFrom (get same_key s.keys) s.dropped s.settled.items
  pub by_number : AllByRecursion (λ p. get same_number s.numbers (number_of p.1) ≡ Some p.0) (waits s)
  pub waiting : AllByRecursion (λ p. is_waiting p.1.1.answer ≡ true) (waits s)
  pub answered : AllByRecursion (λ x. is_waiting x.1.1.answer ≡ false) s.settled.items
  pub rising : Pairs (λ p q. p.0 < q.0) s.waiting.entries
  pub older : AllByRecursion (λ x. x.0 < s.next) s.settled.items
  pub aged : Pairs (ends_before s) (rows (waits s))
  pub cooled : Pairs (ends_before s) (rows s.settled.items)
  pub counted : s.dropped + length s.settled.items + length (waits s) ≤ s.next
  pub unused : (n : Number) → AllByRecursion (λ p. same_number (number_of p.1) n ≡ false) (waits s) → get same_number s.numbers n ≡ None
  pub numbered : length (waits s) ≤ hash_map_len s.numbers
  pub room : length s.settled.items + length (waits s) ≤ deque_capacity s.settled

-- no row is being put in
abbrev pub IsWhole : Stores → Type 0
IsWhole s = waits s ≡ s.waiting.entries

-- the rows that are being put in
abbrev pub drafts : Stores → List Held
drafts s = filter (λ p. not (nat_lt p.0 s.next)) s.waiting.entries

-- whether there is a first row and it is dead
abbrev pub is_first_dead : Stores → ℕ → List Held → Bool
is_first_dead s moment [] = false
is_first_dead s moment (p ∷ ps) = not (is_live s moment p.1)

-- what a drop of dead rows leaves as it was
pub record KeepsRest (s t : Stores) : Type 0 where
  pub patience : t.patience ≡ s.patience
  pub retention : t.retention ≡ s.retention
  pub next : t.next ≡ s.next
  pub drafts : drafts t ≡ drafts s
  pub keys : spare s.keys ≤ spare t.keys
  pub numbers : spare s.numbers ≤ spare t.numbers
  pub capacity : deque_capacity t.settled ≡ deque_capacity s.settled

-- the times are the same
pub record HasSameTimes (s t : Stores) : Type 0 where
  pub patience : t.patience ≡ s.patience
  pub retention : t.retention ≡ s.retention

-- the settled rows, and what leads to them, are the same
pub record KeepsSettled (s t : Stores) : Type 0 where
  pub times : HasSameTimes s t
  pub settled : t.settled.items ≡ s.settled.items

-- nothing but the rows that wait may differ
pub record HasSameIndexes (s t : Stores) : Type 0 where
  pub times : HasSameTimes s t
  pub next : t.next ≡ s.next
  pub keys : t.keys ≡ s.keys
  pub numbers : t.numbers ≡ s.numbers
  pub settled : t.settled ≡ s.settled

-- nothing but the room differs
pub record HasSameRows (s t : Stores) : Type 0 where
  pub times : HasSameTimes s t
  pub next : t.next ≡ s.next
  pub waiting : t.waiting ≡ s.waiting
  pub settled : t.settled.items ≡ s.settled.items

-- one more row goes in without memory
pub record HasRoom (s : Stores) : Type 0 where
  pub keys : 0 < spare s.keys
  pub numbers : 0 < spare s.numbers
  pub settled : length s.settled.items + length (waits s) + 1 ≤ deque_capacity s.settled

-- no row is being put in, and the list of rows is the same
pub record HasSameList (s t : Stores) : Type 0 where
  pub whole : IsWhole t
  pub rows_are : all t ≡ all s

-- the dead rows are dropped, and the row r can be put in
pub record IsPrepared (s : Stores) (moment : ℕ) (r : Row) (t : Stores) : Type 0 where
  pub drafted : drafts t ≡ (t.next, r) ∷ []
  pub waiting : waits t ≡ filter (λ p. is_live s moment p.1) (waits s)
  pub settled : t.settled.items ≡ filter (λ x. is_live s moment x.1) s.settled.items
  pub room : HasRoom t

-- a row that can go in as the last one that waits
pub record CanFollow (s : Stores) (ps xs : List Held) (r : Row) : Type 0 where
  pub waits : is_waiting r.1.answer ≡ true
  pub last : AllByRecursion (λ p. ends_before s p.1 r) ps
  pub key : AllByRecursion (λ p. same_key p.1.0 r.0 ≡ false) ps
  pub settled_key : AllByRecursion (λ x. same_key x.1.0 r.0 ≡ false) xs
  pub number : AllByRecursion (λ p. same_number (number_of p.1) (number_of r) ≡ false) ps

-- the one row that is being put in, of this key and number
pub record IsDraft (s : Stores) (key : Key) (number : Number) : Type 0 where
  pub entry : Entry
  pub drafted : drafts s ≡ (s.next, (key, entry)) ∷ []
  pub numbered : number ≡ number_of (key, entry)
  pub follows : CanFollow s (waits s) s.settled.items (key, entry)

-- a row that can go in once the dead ones are dropped
abbrev pub CanJoin : Stores → ℕ → Row → Type 0
CanJoin s moment r =
    CanFollow s (filter (λ p. is_live s moment p.1) (waits s)) (filter (λ x. is_live s moment x.1) s.settled.items) r
