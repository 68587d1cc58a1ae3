-- What the stores keep once their rows are renumbered.
use Rattle.std.proofs.Common.{◌≡◌, ◌≢◌, ℕ, suc, ◌+◌, ◌<◌, ◌≤◌, Bool, true, false, nat_lt, ◌==◌, ◌&&◌, List, [], ◌∷◌, filter, length, if◌then◌else◌, refl, ap, sym, subst, ◌∙◌, arith, Option, Some, None}
use Rattle.std.proofs.lemmas.Bool.{eqb-true}
use Rattle.std.proofs.lemmas.List.Elements.{recursion_from_All}
use Rattle.std.specs.List.{All, AllByRecursion}
use Rattle.std.specs.HashMap.{HashMap, get, hash_map_len, spare}
use Rattle.std.specs.BTreeMap.{BTreeMap}
use Rattle.std.specs.declared.random_state.RandomState.{RandomState}
use Rattle.pending_table.specs.declared.entry.Entry.{Entry}
use Rattle.pending_table.specs.declared.stores.Stores.{Stores}
use Rattle.pending_table.specs.declared.stores.Number.{Number}
use Rattle.pending_table.specs.declared.stores.RowPlace.TheVariants.{Waiting}
use Rattle.pending_table.specs.Table.{Row, same_key, is_waiting, is_live, is_live_waiting, numbered}
use Rattle.pending_table.specs.Merged.{Held, put, merged, rows, Pairs, renumbered}
use Rattle.pending_table.specs.Stores.{IsKept, IsWhole, waits, all, ends_before, same_number, number_of}
use Rattle.pending_table.specs.Relinked.{with_number, HasOtherNumber, LeadsTo}
use Rattle.pending_table.proofs.Hints.{all_both, all_rows, same_number-equal}
use Rattle.pending_table.proofs.Kept.{length-rows}
use Rattle.pending_table.proofs.Merging.{all_weaker, filter_all, length-merged, numbered-rows, renumbered-merged}

-- All and Pairs, with or without serial numbers

rows_all : (P : Row → Type 0) (ps : List Held) → AllByRecursion P (rows ps) → AllByRecursion (λ p. P p.1) ps
rows_all P [] h = h
rows_all P (p ∷ ps) h = (h.0, rows_all P ps h.1)

pairs_rows : (R : Row → Row → Type 0) (ps : List Held) → Pairs (λ p q. R p.1 q.1) ps → Pairs R (rows ps)
pairs_rows R [] h = h
pairs_rows R (p ∷ ps) h = (all_rows (R p.1) ps h.0, pairs_rows R ps h.1)

rows_pairs : (R : Row → Row → Type 0) (ps : List Held) → Pairs R (rows ps) → Pairs (λ p q. R p.1 q.1) ps
rows_pairs R [] h = h
rows_pairs R (p ∷ ps) h = (rows_all (R p.1) ps h.0, rows_pairs R ps h.1)

passes : (q : Held → Bool) (ps : List Held) → AllByRecursion (λ p. q p ≡ true) (filter q ps)
passes q [] = tt
passes q (p ∷ ps) = by (q p) refl (passes q ps)
  where
    by : (b : Bool) → q p ≡ b → AllByRecursion (λ r. q r ≡ true) (filter q ps) → AllByRecursion (λ r. q r ≡ true) (if b then p ∷ filter q ps else filter q ps)
    by true e rest = (e, rest)
    by false e rest = rest

-- two numbers on different links

abbrev number_on : ℕ → ℕ → Number
number_on link number = record { link = link; number = number }

other_link : (a b : Number) → a.link ≢ b.link → same_number a b ≡ false
other_link a b other = by (a.link == b.link) refl
  where
    by : (c : Bool) → (a.link == b.link) ≡ c → (c && a.number == b.number) ≡ false
    by true e = absurd (other (eqb-true _ _ e))
    by false e = refl

other_link-back : (a b : Number) → b.link ≢ a.link → same_number a b ≡ false
other_link-back a b other = other_link a b (λ e. other (sym e))

-- the rows of an index have different numbers where their serial numbers rise
pub apart_by_index :
    (hint : Number → Option ℕ) (ps : List Held)
    → AllByRecursion (λ p. hint (number_of p.1) ≡ Some p.0) ps
    → Pairs (λ p q. p.0 < q.0) ps
    → Pairs HasOtherNumber ps
apart_by_index hint [] at rising = tt
apart_by_index hint (p ∷ ps) at rising = (
  all_both (λ q. p.0 < q.0) (λ q. hint (number_of q.1) ≡ Some q.0) (HasOtherNumber p) ps (λ q below found. other q below found (same_number (number_of p.1) (number_of q.1)) refl) rising.0 at.1,
  apart_by_index hint ps at.1 rising.1,
)
  where
    other : (q : Held) → p.0 < q.0 → hint (number_of q.1) ≡ Some q.0 → (b : Bool) → same_number (number_of p.1) (number_of q.1) ≡ b → b ≡ false
    other q below found false e = refl
    other q below found true e =
        let same : Some p.0 ≡ Some q.0 = sym at.0 ∙ ap hint (same_number-equal (number_of p.1) (number_of q.1) e) ∙ found in
        let serial : p.0 ≡ q.0 = cc in
        absurd (omega (arith, below, serial))

module _ (test : Entry → Bool) (link : ℕ) where
  length-renumbered : (n : ℕ) (ps : List Held) → length (renumbered test link n ps) ≡ length ps
  length-renumbered n [] = refl
  length-renumbered n (p ∷ ps) = by (test p.1.1) (length-renumbered n ps) (length-renumbered (n + 1) ps)
    where
      by :
          (b : Bool)
          → length (renumbered test link n ps) ≡ length ps
          → length (renumbered test link (n + 1) ps) ≡ length ps
          → length (if b then (p.0, with_number p.1 link n) ∷ renumbered test link (n + 1) ps else p ∷ renumbered test link n ps) ≡ suc (length ps)
      by true k l = ap suc l
      by false k l = ap suc k

  -- what a new number keeps of one row is kept of all
  all_renumbered :
      (P : Held → Type 0)
      → ((p : Held) (n : ℕ) → P p → P (p.0, with_number p.1 link n))
      → (n : ℕ) (ps : List Held)
      → AllByRecursion P ps
      → AllByRecursion P (renumbered test link n ps)
  all_renumbered P keeps n [] h = h
  all_renumbered P keeps n (p ∷ ps) h = by (test p.1.1) (all_renumbered P keeps n ps h.1) (all_renumbered P keeps (n + 1) ps h.1)
    where
      by :
          (b : Bool)
          → AllByRecursion P (renumbered test link n ps)
          → AllByRecursion P (renumbered test link (n + 1) ps)
          → AllByRecursion P (if b then (p.0, with_number p.1 link n) ∷ renumbered test link (n + 1) ps else p ∷ renumbered test link n ps)
      by true k l = (keeps p n h.0, l)
      by false k l = (h.0, k)

  pairs_renumbered :
      (R : Held → Held → Type 0)
      → ((p q : Held) (n : ℕ) → R p q → R (p.0, with_number p.1 link n) q)
      → ((p q : Held) (n : ℕ) → R p q → R p (q.0, with_number q.1 link n))
      → (n : ℕ) (ps : List Held)
      → Pairs R ps
      → Pairs R (renumbered test link n ps)
  pairs_renumbered R first second n [] h = h
  pairs_renumbered R first second n (p ∷ ps) h =
      by (test p.1.1) (pairs_renumbered R first second n ps h.1) (pairs_renumbered R first second (n + 1) ps h.1)
    where
      new : Held
      new = (p.0, with_number p.1 link n)

      by :
          (b : Bool)
          → Pairs R (renumbered test link n ps)
          → Pairs R (renumbered test link (n + 1) ps)
          → Pairs R (if b then new ∷ renumbered test link (n + 1) ps else p ∷ renumbered test link n ps)
      by true k l = (all_renumbered (R new) (second new) (n + 1) ps (all_weaker (R p) (R new) ps (λ q. first p q n) h.0), l)
      by false k l = (all_renumbered (R p) (second p) n ps h.0, k)

  -- a number below those that are given out is on none of the rows
  fresh :
      (m n : ℕ) (ps : List Held)
      → m < n
      → AllByRecursion (λ p. p.1.1.link ≢ link) ps
      → AllByRecursion (λ q. same_number (number_on link m) (number_of q.1) ≡ false) (renumbered test link n ps)
  fresh m n [] below others = tt
  fresh m n (p ∷ ps) below others = by (test p.1.1) (fresh m n ps below others.1) (fresh m (n + 1) ps (omega (arith, below)) others.1)
    where
      Is : Held → Type 0
      Is q = same_number (number_on link m) (number_of q.1) ≡ false

      by :
          (b : Bool)
          → AllByRecursion Is (renumbered test link n ps)
          → AllByRecursion Is (renumbered test link (n + 1) ps)
          → AllByRecursion Is (if b then (p.0, with_number p.1 link n) ∷ renumbered test link (n + 1) ps else p ∷ renumbered test link n ps)
      by true k l = (grind (arith, below), l)
      by false k l = (other_link-back (number_on link m) (number_of p.1) others.0, k)

  -- the numbers that are given out differ from one another, and from those on other links
  apart_renumbered :
      (n : ℕ) (ps : List Held)
      → AllByRecursion (λ p. p.1.1.link ≢ link) ps
      → Pairs HasOtherNumber ps
      → Pairs HasOtherNumber (renumbered test link n ps)
  apart_renumbered n [] others apart = tt
  apart_renumbered n (p ∷ ps) others apart =
      by (test p.1.1) (apart_renumbered n ps others.1 apart.1) (apart_renumbered (n + 1) ps others.1 apart.1)
    where
      by :
          (b : Bool)
          → Pairs HasOtherNumber (renumbered test link n ps)
          → Pairs HasOtherNumber (renumbered test link (n + 1) ps)
          → Pairs HasOtherNumber (if b then (p.0, with_number p.1 link n) ∷ renumbered test link (n + 1) ps else p ∷ renumbered test link n ps)
      by true k l = (fresh n (n + 1) ps (omega arith) others.1, l)
      by false k l = (
        all_renumbered (HasOtherNumber p) (λ q m h. other_link (number_of p.1) (number_on link m) others.0) n ps apart.0,
        k,
      )

  module _ (s : Stores) (kept : IsKept s) (whole : IsWhole s) (w : BTreeMap ℕ Row) (made : w.entries ≡ renumbered test link 0 s.waiting.entries) where
    -- they are the rows that wait, with new numbers
    same_waits : w.entries ≡ renumbered test link 0 (waits s)
    same_waits = made ∙ ap (renumbered test link 0) (sym whole)

    -- and those of the store: none is being put in
    pub whole_renumbered : filter (λ p. nat_lt p.0 s.next) w.entries ≡ w.entries
    whole_renumbered =
        let below = all_renumbered (λ p. nat_lt p.0 s.next ≡ true) (λ p n h. h) 0 (waits s) (passes (λ p. nat_lt p.0 s.next) s.waiting.entries) in
        filter_all (λ p. nat_lt p.0 s.next) w.entries (subst (AllByRecursion (λ p. nat_lt p.0 s.next ≡ true)) (sym same_waits) below)

    new_waits : filter (λ p. nat_lt p.0 s.next) w.entries ≡ renumbered test link 0 (waits s)
    new_waits = whole_renumbered ∙ same_waits

    length_waits : length (filter (λ p. nat_lt p.0 s.next) w.entries) ≡ length (waits s)
    length_waits = ap length new_waits ∙ length-renumbered 0 (waits s)

    -- there is room in the cleared index
    pub room_renumbered : (room : ℕ) → hash_map_len s.numbers + spare s.numbers ≤ room → length w.entries ≤ room
    room_renumbered room capacity = omega (arith, capacity, kept.numbered, ap length same_waits, length-renumbered 0 (waits s))

    pub apart_waits : AllByRecursion (λ r. r.1.link ≢ link) (rows (waits s)) → Pairs HasOtherNumber w.entries
    apart_waits unused =
        let rising = subst (Pairs (λ p q. p.0 < q.0)) (sym whole) kept.rising in
        let old = apart_by_index (get same_number s.numbers) (waits s) kept.by_number rising in
        subst (Pairs HasOtherNumber) (sym same_waits) (apart_renumbered 0 (waits s) (rows_all (λ r. r.1.link ≢ link) (waits s) unused) old)

    pub kept_renumbered : (numbers : HashMap Number ℕ RandomState) → LeadsTo w.entries numbers → IsKept (record s { waiting = w; numbers = numbers })
    kept_renumbered numbers leads = record {
      by_key = all_kept (λ p. get same_key s.keys p.1.0 ≡ Some (Waiting p.0)) (λ p n h. h) kept.by_key;
      by_count = kept.by_count;
      by_number = subst (AllByRecursion (λ p. get same_number numbers (number_of p.1) ≡ Some p.0)) (sym whole_renumbered) leads.each;
      waiting = all_kept (λ p. is_waiting p.1.1.answer ≡ true) (λ p n h. h) kept.waiting;
      answered = kept.answered;
      rising = subst (Pairs (λ p q. p.0 < q.0)) (sym made) (pairs_renumbered (λ p q. p.0 < q.0) (λ p q n h. h) (λ p q n h. h) 0 s.waiting.entries kept.rising);
      older = kept.older;
      aged = pairs_rows (ends_before s) (filter (λ p. nat_lt p.0 s.next) w.entries) (subst (Pairs (λ p q. ends_before s p.1 q.1)) (sym new_waits) aged);
      cooled = kept.cooled;
      counted = omega (arith, kept.counted, length_waits);
      unused = subst (λ ps. (n : Number) → AllByRecursion (λ p. same_number (number_of p.1) n ≡ false) ps → get same_number numbers n ≡ None) (sym whole_renumbered) leads.unused;
      numbered = omega (arith, leads.numbered, ap length whole_renumbered);
      room = omega (arith, kept.room, length_waits);
    }
      where
        all_kept :
            (P : Held → Type 0)
            → ((p : Held) (n : ℕ) → P p → P (p.0, with_number p.1 link n))
            → AllByRecursion P (waits s)
            → AllByRecursion P (filter (λ p. nat_lt p.0 s.next) w.entries)
        all_kept P keeps h = subst (AllByRecursion P) (sym new_waits) (all_renumbered P keeps 0 (waits s) h)

        aged : Pairs (λ p q. ends_before s p.1 q.1) (renumbered test link 0 (waits s))
        aged = pairs_renumbered (λ p q. ends_before s p.1 q.1) (λ p q n h. h) (λ p q n h. h) 0 (waits s) (rows_pairs (ends_before s) (waits s) kept.aged)

    -- the one list has the new numbers
    pub rows_renumbered :
        AllByRecursion (λ x. test x.1.1 ≡ false) s.settled.items
        → rows (merged (filter (λ p. nat_lt p.0 s.next) w.entries) s.settled.items) ≡ numbered test link 0 (all s)
    rows_renumbered fails =
        ap (λ ps. rows (merged ps s.settled.items)) new_waits
        ∙ ap rows (sym (renumbered-merged test link 0 (waits s) s.settled.items fails))
        ∙ sym (numbered-rows test link 0 (merged (waits s) s.settled.items))

-- a settled row is none that waits
pub settled_fails :
    (patience retention moment : ℕ) (xs : List Held)
    → AllByRecursion (λ x. is_waiting x.1.1.answer ≡ false) xs
    → AllByRecursion (λ x. is_live_waiting patience retention moment x.1.1 ≡ false) xs
settled_fails patience retention moment xs =
    all_weaker (λ x. is_waiting x.1.1.answer ≡ false) (λ x. is_live_waiting patience retention moment x.1.1 ≡ false) xs
    (λ x answered. ap (λ b. is_live patience retention moment x.1.1 && b) answered ∙ never (is_live patience retention moment x.1.1))
  where
    never : (b : Bool) → (b && false) ≡ false
    never true = refl
    never false = refl

-- what holds of all rows holds of those that wait, which are no more

rest_of_put : (P : Held → Type 0) (x : Held) (ps : List Held) → AllByRecursion P (put x ps) → AllByRecursion P ps
rest_of_put P x [] h = tt
rest_of_put P x (p ∷ ps) h = by (nat_lt x.0 p.0) h (rest_of_put P x ps)
  where
    by : (b : Bool) → AllByRecursion P (if b then x ∷ p ∷ ps else p ∷ put x ps) → (AllByRecursion P (put x ps) → AllByRecursion P ps) → AllByRecursion P (p ∷ ps)
    by true g rest = g.1
    by false g rest = (g.0, rest g.1)

rest_of_merged : (P : Held → Type 0) (ps xs : List Held) → AllByRecursion P (merged ps xs) → AllByRecursion P ps
rest_of_merged P ps [] h = h
rest_of_merged P ps (x ∷ xs) h = rest_of_merged P ps xs (rest_of_put P x (merged ps xs) h)

pub all_of_waits : (P : Row → Type 0) (s : Stores) → All P (all s) → AllByRecursion P (rows (waits s))
all_of_waits P s h =
    all_rows P (waits s)
    (rest_of_merged (λ p. P p.1) (waits s) s.settled.items (rows_all P (merged (waits s) s.settled.items) (recursion_from_All P (all s) h)))

pub length_of_waits : (s : Stores) → length (waits s) ≤ length (all s)
length_of_waits s = omega (arith, length-rows (merged (waits s) s.settled.items), length-merged (waits s) s.settled.items)
