-- What contracts see of the two stores: the live rows, those of them that wait, and the ones that a search finds.
use Rattle.std.proofs.Common.{◌≡◌, ℕ, ◌+◌, ◌<◌, ◌≤◌, Bool, true, false, nat_lt, ◌&&◌, List, [], filter, find, length, if◌then◌else◌, refl, ap, sym, subst, ◌∙◌, arith, Option, Some, None, option_and_then, option_copied, Bor}
use Rattle.std.specs.List.{AllByRecursion}
use Rattle.std.specs.Bool.{then_some}
use Rattle.std.specs.BTreeMap.{is_at, values}
use Rattle.std.specs.HashMap.{get}
use Rattle.std.specs.Ordering.{nat_cmp}
use Rattle.pending_table.specs.declared.key.Key.{Key}
use Rattle.pending_table.specs.declared.stores.Stores.{Stores}
use Rattle.pending_table.specs.declared.stores.Number.{Number}
use Rattle.pending_table.specs.Table.{Row, TableParts, same_key, has_number, is_waiting, is_live_waiting}
use Rattle.pending_table.specs.Merged.{Held, merged, rows, Rising}
use Rattle.pending_table.specs.Stores.{Within, IsOnly, IsKept, IsWhole, HasSameTimes, is_live, waits, all, by_key, by_number, waiting_at, same_number, number_of}
use Rattle.pending_table.proofs.Merging.{filter-merged, filter-rows, filter_none, length-merged, all_weaker}
use Rattle.pending_table.proofs.Kept.{only-find, length-rows}
use Rattle.pending_table.proofs.Hints.{all_both, all_rows, lookup-own, within-lookup, only-passing, passing-is, only_by_key, same_number-equal, pairs_filter}
use Rattle.pending_table.proofs.Lists.{pairs_weaker, filter_congr}

rises : (s : Stores) → IsKept s → Rising (waits s)
rises s h =
    pairs_weaker (λ p q. p.0 < q.0) (λ p q. p.0 ≤ q.0) (waits s) (λ p q below. omega (arith, below))
    (pairs_filter (λ p q. p.0 < q.0) (λ p. nat_lt p.0 s.next) s.waiting.entries h.rising)

-- a filter of all rows filters the two stores
pub filter-all :
    (q : Row → Bool) (s : Stores)
    → IsKept s
    → filter q (all s) ≡ rows (merged (filter (λ p. q p.1) (waits s)) (filter (λ x. q x.1) s.settled.items))
filter-all q s h =
    filter-rows q (merged (waits s) s.settled.items)
    ∙ ap rows (filter-merged (λ p. q p.1) (waits s) s.settled.items (rises s h))

pub length-all : (s : Stores) → length (all s) ≡ length (waits s) + length s.settled.items
length-all s = length-rows (merged (waits s) s.settled.items) ∙ length-merged (waits s) s.settled.items

-- the live ones that wait are those of the one store

is_live_waiting-at : (s : Stores) (moment : ℕ) (r : Row) → is_waiting r.1.answer ≡ true → is_live_waiting s.patience s.retention moment r.1 ≡ is_live s moment r
is_live_waiting-at s moment r waits = rw waits (by (is_live s moment r))
  where
    by : (b : Bool) → (b && true) ≡ b
    by true = refl
    by false = refl

pub not_waiting-at : (b : Bool) (answered : Bool) → answered ≡ false → (b && answered) ≡ false
not_waiting-at true answered e = e
not_waiting-at false answered e = refl

pub waiting-rows :
    (s : Stores)
    → IsKept s
    → (moment : ℕ)
    → filter (λ r. is_live_waiting s.patience s.retention moment r.1) (all s) ≡ filter (is_live s moment) (rows (waits s))
waiting-rows s h moment =
    let waiting : Row → Bool = λ r. is_live_waiting s.patience s.retention moment r.1 in
    let first : filter (λ p. waiting p.1) (waits s) ≡ filter (λ p. is_live s moment p.1) (waits s) =
    filter_congr (λ p. waiting p.1) (λ p. is_live s moment p.1) (waits s)
    (all_weaker (λ p. is_waiting p.1.1.answer ≡ true) (λ p. waiting p.1 ≡ is_live s moment p.1) (waits s) (λ p. is_live_waiting-at s moment p.1) h.waiting) in
    let second : filter (λ x. waiting x.1) s.settled.items ≡ [] =
    filter_none (λ x. waiting x.1) s.settled.items
    (all_weaker (λ x. is_waiting x.1.1.answer ≡ false) (λ x. waiting x.1 ≡ false) s.settled.items
    (λ x. not_waiting-at (is_live s moment x.1) (is_waiting x.1.1.answer)) h.answered) in
    filter-all waiting s h
    ∙ ap (λ l. rows (merged l (filter (λ x. waiting x.1) s.settled.items))) first
    ∙ ap (λ l. rows (merged (filter (λ p. is_live s moment p.1) (waits s)) l)) second
    ∙ sym (filter-rows (is_live s moment) (waits s))

pub waiting-values :
    (s : Stores)
    → IsKept s
    → IsWhole s
    → (moment : ℕ)
    → filter (λ r. is_live_waiting s.patience s.retention moment r.1) (all s) ≡ filter (is_live s moment) (values s.waiting)
waiting-values s h whole moment = waiting-rows s h moment ∙ ap (λ ps. filter (is_live s moment) (rows ps)) whole

-- counts add up

pub count-rows :
    (s : Stores)
    → IsKept s
    → (moment : ℕ)
    → length (filter (is_live s moment) (rows (waits s))) + length (filter (is_live s moment) (rows s.settled.items)) ≡ length (filter (is_live s moment) (all s))
count-rows s h moment =
    let live : List Held → List Held = filter (λ p. is_live s moment p.1) in
    let both : length (filter (is_live s moment) (all s)) ≡ length (live (waits s)) + length (live s.settled.items) =
    ap length (filter-all (is_live s moment) s h)
    ∙ length-rows (merged (live (waits s)) (live s.settled.items))
    ∙ length-merged (live (waits s)) (live s.settled.items) in
    let first : length (filter (is_live s moment) (rows (waits s))) ≡ length (live (waits s)) =
    ap length (filter-rows (is_live s moment) (waits s)) ∙ length-rows (live (waits s)) in
    let second : length (filter (is_live s moment) (rows s.settled.items)) ≡ length (live s.settled.items) =
    ap length (filter-rows (is_live s moment) s.settled.items) ∙ length-rows (live s.settled.items) in
    omega (arith, both, first, second)

pub count-values :
    (s : Stores)
    → IsKept s
    → IsWhole s
    → (moment : ℕ)
    → length (filter (is_live s moment) (values s.waiting)) + length (filter (is_live s moment) (rows s.settled.items)) ≡ length (filter (is_live s moment) (all s))
count-values s h whole moment =
    ap (λ ps. length (filter (is_live s moment) (rows ps)) + length (filter (is_live s moment) (rows s.settled.items))) (sym whole) ∙ count-rows s h moment

-- the one row that awaits an answer is the one to which the index of numbers leads

hinted : (s : Stores) → IsKept s → IsWhole s → AllByRecursion (λ p. option_and_then (waiting_at s) (get same_number s.numbers (number_of p.1)) ≡ Some p.1) (waits s)
hinted s h whole =
    all_both (λ p. get same_number s.numbers (number_of p.1) ≡ Some p.0) (λ p. waiting_at s p.0 ≡ Some p.1)
    (λ p. option_and_then (waiting_at s) (get same_number s.numbers (number_of p.1)) ≡ Some p.1) (waits s)
    (λ p hint found. rw hint found)
    h.by_number
    (subst (AllByRecursion (λ p. waiting_at s p.0 ≡ Some p.1)) (sym whole) (lookup-own s.waiting.entries h.rising))

pub only_by_number :
    (s : Stores)
    → IsKept s
    → IsWhole s
    → (link number : ℕ)
    → IsOnly (λ r. has_number link number r.1) (by_number s link number) (rows (waits s))
only_by_number s h whole link number =
    only-passing (λ r. has_number link number r.1) (option_and_then (waiting_at s) (get same_number s.numbers asked)) (rows (waits s))
    (all_rows (λ r. has_number link number r.1 ≡ true → option_and_then (waiting_at s) (get same_number s.numbers asked) ≡ Some r) (waits s)
    (all_weaker (λ p. option_and_then (waiting_at s) (get same_number s.numbers (number_of p.1)) ≡ Some p.1)
    (λ p. has_number link number p.1.1 ≡ true → option_and_then (waiting_at s) (get same_number s.numbers asked) ≡ Some p.1) (waits s)
    (λ p hint e. subst (λ n. option_and_then (waiting_at s) (get same_number s.numbers n) ≡ Some p.1) (same_number-equal (number_of p.1) asked e) hint)
    (hinted s h whole)))
    (λ r e. within (get same_number s.numbers asked) r e)
    (by_number s link number)
    (passing-is (λ r. has_number link number r.1) (option_and_then (waiting_at s) (get same_number s.numbers asked)))
  where
    asked : Number
    asked = record { link = link; number = number }

    within : (serial : Option ℕ) (r : Row) → option_and_then (waiting_at s) serial ≡ Some r → Within r (rows (waits s))
    within None r e = absurd cc
    within (Some serial) r e = subst (λ ps. Within r (rows ps)) (sym whole) (within-lookup (is_at (nat_cmp serial)) s.waiting.entries r e)

-- what a search finds

pub found_by_key :
    (s : Stores)
    → IsKept s
    → IsWhole s
    → (key : Key) (moment : ℕ)
    → find (λ r. same_key r.0 key) (filter (is_live s moment) (all s)) ≡ option_and_then (λ r. if is_live s moment r then Some r else None) (by_key s key)
found_by_key s h whole key moment = only-find (λ r. same_key r.0 key) (is_live s moment) (by_key s key) (all s) (only_by_key s h whole key)

pub found_by_number :
    (s : Stores)
    → IsKept s
    → IsWhole s
    → (link number moment : ℕ)
    → find (λ r. has_number link number r.1) (filter (λ r. is_live_waiting s.patience s.retention moment r.1) (all s))
    ≡ option_and_then (λ r. if is_live s moment r then Some r else None) (by_number s link number)
found_by_number s h whole link number moment =
    ap (find (λ r. has_number link number r.1)) (waiting-rows s h moment)
    ∙ only-find (λ r. has_number link number r.1) (is_live s moment) (by_number s link number) (rows (waits s)) (only_by_number s h whole link number)

pub copied_then : {X : Type 0} → (b : Bool) (r : Bor X) → option_copied (then_some b r) ≡ (if b then Some r.now else None)
copied_then true r = refl
copied_then false r = refl

-- where the times are the same, the entries tell all

abbrev parts_from : ℕ → ℕ → ℕ → List Row → TableParts
parts_from capacity patience retention entries = record { capacity = capacity; patience = patience; retention = retention; entries = entries }

pub same_parts :
    (s t : Stores) (capacity : ℕ) (entries : List Row)
    → HasSameTimes s t
    → all t ≡ entries
    → ◌≡◌ {A = TableParts} (record { capacity = capacity; patience = t.patience; retention = t.retention; entries = all t }) (record { capacity = capacity; patience = s.patience; retention = s.retention; entries = entries })
same_parts s t capacity entries times same =
    ap (λ n. parts_from capacity n t.retention (all t)) times.patience
    ∙ ap (λ n. parts_from capacity s.patience n (all t)) times.retention
    ∙ ap (parts_from capacity s.patience s.retention) same
