-- What the stores keep once a row is put in.
use Rattle.std.proofs.Common.{◌≡◌, ℕ, suc, ◌+◌, ◌<◌, ◌≤◌, Bool, true, false, nat_lt, nat_cmp, ◌==◌, not, cond, List, [], ◌∷◌, ◌++◌, filter, length, if◌then◌else◌, refl, ap, sym, subst, ◌∙◌, arith, Option, Some, None}
use Rattle.std.specs.List.{AllByRecursion}
use Rattle.std.specs.HashMap.{HashMap, get, hash_map_len}
use Rattle.std.specs.Map.{lookup}
use Rattle.std.specs.VecDeque.{deque_capacity}
use Rattle.std.specs.declared.collections.VecDeque.{VecDeque}
use Rattle.std.specs.Global.{Global}
use Rattle.std.specs.declared.random_state.RandomState.{RandomState}
use Rattle.std.specs.BTreeMap.{BTreeMap, insert_entry}
use Rattle.pending_table.specs.declared.key.Key.{Key}
use Rattle.pending_table.specs.declared.stores.Stores.{Stores}
use Rattle.pending_table.specs.declared.stores.Number.{Number}
use Rattle.pending_table.specs.declared.stores.RowPlace.{RowPlace}
use Rattle.pending_table.specs.declared.stores.RowPlace.TheVariants.{Waiting}
use Rattle.pending_table.specs.Table.{Row, same_key, is_waiting}
use Rattle.pending_table.specs.Merged.{Held, rows, Pairs}
use Rattle.pending_table.specs.KeyLaws.{same_key_equiv}
use Rattle.pending_table.specs.Stores.{IsKept, CountedFrom, CanFollow, HasRoom, waits, drafts, same_number, number_of, ends_before}
use Rattle.pending_table.proofs.Merging.{all_weaker, filter_all}
use Rattle.pending_table.proofs.Hints.{all_both, same_number-equal}
use Rattle.pending_table.proofs.Dropping.{none_waits}

-- another list of rows that wait, whose first ones are the same: nothing else is written
pub kept-waiting :
    (s : Stores) (store : BTreeMap ℕ Row)
    → IsKept s
    → filter (λ p. nat_lt p.0 s.next) store.entries ≡ waits s
    → Pairs (λ p q. p.0 < q.0) store.entries
    → IsKept (record s { waiting = store })
kept-waiting s store h same rising = record {
  by_key = subst (AllByRecursion (λ p. get same_key s.keys p.1.0 ≡ Some (Waiting p.0))) (sym same) h.by_key;
  by_count = h.by_count;
  by_number = subst (AllByRecursion (λ p. get same_number s.numbers (number_of p.1) ≡ Some p.0)) (sym same) h.by_number;
  waiting = subst (AllByRecursion (λ p. is_waiting p.1.1.answer ≡ true)) (sym same) h.waiting;
  answered = h.answered;
  rising = rising;
  older = h.older;
  aged = subst (λ ps. Pairs (ends_before s) (rows ps)) (sym same) h.aged;
  cooled = h.cooled;
  counted = omega (arith, h.counted, ap length same);
  unused = subst (λ ps. (n : Number) → AllByRecursion (λ p. same_number (number_of p.1) n ≡ false) ps → get same_number s.numbers n ≡ None) (sym same) h.unused;
  numbered = omega (arith, h.numbered, ap length same);
  room = omega (arith, h.room, ap length same);
}

-- a list with one more at its end

pub all_last : {X : Type 0} → (P : X → Type 0) (xs : List X) (x : X) → AllByRecursion P xs → P x → AllByRecursion P (xs ++ x ∷ [])
all_last P [] x h hx = (hx, tt)
all_last P (y ∷ ys) x h hx = (h.0, all_last P ys x h.1 hx)

pub all_before : {X : Type 0} → (P : X → Type 0) (xs : List X) (x : X) → AllByRecursion P (xs ++ x ∷ []) → AllByRecursion P xs
all_before P [] x h = tt
all_before P (y ∷ ys) x h = (h.0, all_before P ys x h.1)

pub at_last : {X : Type 0} → (P : X → Type 0) (xs : List X) (x : X) → AllByRecursion P (xs ++ x ∷ []) → P x
at_last P [] x h = h.0
at_last P (y ∷ ys) x h = at_last P ys x h.1

pub all_of_rows : (P : Row → Type 0) (ps : List Held) → AllByRecursion (λ p. P p.1) ps → AllByRecursion P (rows ps)
all_of_rows P [] h = h
all_of_rows P (p ∷ ps) h = (h.0, all_of_rows P ps h.1)

pub pairs_last : {X : Type 0} → (R : X → X → Type 0) (xs : List X) (x : X) → Pairs R xs → AllByRecursion (λ y. R y x) xs → Pairs R (xs ++ x ∷ [])
pairs_last R [] x h hx = (tt, tt)
pairs_last R (y ∷ ys) x h hx = (all_last (R y) ys x h.0 hx.0, pairs_last R ys x h.1 hx.1)

pub rows-last : (ps : List Held) (x : Held) → rows (ps ++ x ∷ []) ≡ rows ps ++ x.1 ∷ []
rows-last [] x = refl
rows-last (p ∷ ps) x = ap (λ l. p.1 ∷ l) (rows-last ps x)

pub length-last : (ps : List Held) (x : Held) → length (ps ++ x ∷ []) ≡ length ps + 1
length-last [] x = omega arith
length-last (p ∷ ps) x = omega (arith, length-last ps x)

-- the draft

pub filter_short : (q : Held → Bool) (ps : List Held) → length (filter q ps) ≤ length ps
filter_short q [] = omega arith
filter_short q (p ∷ ps) = by (q p) (filter_short q ps)
  where
    by : (b : Bool) → length (filter q ps) ≤ length ps → length (if b then p ∷ filter q ps else filter q ps) ≤ suc (length ps)
    by true h = omega (arith, h)
    by false h = omega (arith, h)

pub whole-below : (n : ℕ) (ps : List Held) → filter (λ p. nat_lt p.0 n) ps ≡ ps → AllByRecursion (λ p. p.0 < n) ps
whole-below n [] e = tt
whole-below n (p ∷ ps) e = by (nat_lt p.0 n) refl e (whole-below n ps)
  where
    by :
        (b : Bool)
        → nat_lt p.0 n ≡ b
        → (if b then p ∷ filter (λ q. nat_lt q.0 n) ps else filter (λ q. nat_lt q.0 n) ps) ≡ p ∷ ps
        → (filter (λ q. nat_lt q.0 n) ps ≡ ps → AllByRecursion (λ q. q.0 < n) ps)
        → AllByRecursion (λ q. q.0 < n) (p ∷ ps)
    by true k h rest = (grind (arith, k), rest (cc))
    by false k h rest = absurd (omega (arith, filter_short (λ q. nat_lt q.0 n) ps, ap length h))

pub insert-last : (n : ℕ) (r : Row) (ps : List Held) → AllByRecursion (λ p. p.0 < n) ps → insert_entry nat_cmp ps n r ≡ ps ++ (n, r) ∷ []
insert-last n r [] below = refl
insert-last n r (p ∷ ps) below =
    let less : nat_lt n p.0 ≡ false = grind (arith, below.0) in
    let other : (n == p.0) ≡ false = grind (arith, below.0) in
    rw (less, other) (ap (λ l. p ∷ l) (insert-last n r ps below.1))

pub waits-draft : (n : ℕ) (r : Row) (ps : List Held) → filter (λ p. nat_lt p.0 n) (ps ++ (n, r) ∷ []) ≡ filter (λ p. nat_lt p.0 n) ps
waits-draft n r [] = let e : nat_lt n n ≡ false = grind arith in rw e refl
waits-draft n r (p ∷ ps) = by (nat_lt p.0 n) (waits-draft n r ps)
  where
    by :
        (b : Bool)
        → filter (λ q. nat_lt q.0 n) (ps ++ (n, r) ∷ []) ≡ filter (λ q. nat_lt q.0 n) ps
        → (if b then p ∷ filter (λ q. nat_lt q.0 n) (ps ++ (n, r) ∷ []) else filter (λ q. nat_lt q.0 n) (ps ++ (n, r) ∷ []))
        ≡ (if b then p ∷ filter (λ q. nat_lt q.0 n) ps else filter (λ q. nat_lt q.0 n) ps)
    by true h = ap (λ l. p ∷ l) h
    by false h = h

pub drafts-draft : (n : ℕ) (r : Row) (ps : List Held) → AllByRecursion (λ p. p.0 < n) ps → filter (λ p. not (nat_lt p.0 n)) (ps ++ (n, r) ∷ []) ≡ (n, r) ∷ []
drafts-draft n r [] below = let e : nat_lt n n ≡ false = grind arith in rw e refl
drafts-draft n r (p ∷ ps) below = let e : nat_lt p.0 n ≡ true = grind (arith, below.0) in rw e (drafts-draft n r ps below.1)

-- indexes and a store with the same entries and as much room
pub kept-room :
    (s : Stores) (keys : HashMap Key RowPlace RandomState) (numbers : HashMap Number ℕ RandomState) (settled : VecDeque Held Global)
    → IsKept s
    → keys.entries ≡ s.keys.entries
    → numbers.entries ≡ s.numbers.entries
    → settled.items ≡ s.settled.items
    → deque_capacity s.settled ≤ deque_capacity settled
    → IsKept (record s { keys = keys; numbers = numbers; settled = settled })
kept-room s keys numbers settled h same_keys same_numbers same_settled room = record {
  by_key = subst (λ es. AllByRecursion (λ p. lookup (same_key p.1.0) es ≡ Some (Waiting p.0)) (waits s)) (sym same_keys) h.by_key;
  by_count =
      subst (λ xs. CountedFrom (λ k. lookup (same_key k) keys.entries) s.dropped xs) (sym same_settled)
      (subst (λ es. CountedFrom (λ k. lookup (same_key k) es) s.dropped s.settled.items) (sym same_keys) h.by_count);
  by_number = subst (λ es. AllByRecursion (λ p. lookup (same_number (number_of p.1)) es ≡ Some p.0) (waits s)) (sym same_numbers) h.by_number;
  waiting = h.waiting;
  answered = subst (AllByRecursion (λ x. is_waiting x.1.1.answer ≡ false)) (sym same_settled) h.answered;
  rising = h.rising;
  older = subst (AllByRecursion (λ x. x.0 < s.next)) (sym same_settled) h.older;
  aged = h.aged;
  cooled = subst (λ xs. Pairs (ends_before s) (rows xs)) (sym same_settled) h.cooled;
  counted = omega (arith, h.counted, ap length same_settled);
  unused = subst (λ es. (n : Number) → AllByRecursion (λ p. same_number (number_of p.1) n ≡ false) (waits s) → lookup (same_number n) es ≡ None) (sym same_numbers) h.unused;
  numbered = omega (arith, h.numbered, ap length same_numbers);
  room = omega (arith, h.room, room, ap length same_settled);
}

-- the draft among the rows that wait

pub parted : (n : ℕ) (ps : List Held) → Pairs (λ p q. p.0 < q.0) ps → filter (λ p. nat_lt p.0 n) ps ++ filter (λ p. not (nat_lt p.0 n)) ps ≡ ps
parted n [] h = refl
parted n (p ∷ ps) h = by (nat_lt p.0 n) refl (parted n ps h.1)
  where
    by :
        (b : Bool)
        → nat_lt p.0 n ≡ b
        → filter (λ q. nat_lt q.0 n) ps ++ filter (λ q. not (nat_lt q.0 n)) ps ≡ ps
        → (if b then p ∷ filter (λ q. nat_lt q.0 n) ps else filter (λ q. nat_lt q.0 n) ps)
        ++ (if not b then p ∷ filter (λ q. not (nat_lt q.0 n)) ps else filter (λ q. not (nat_lt q.0 n)) ps)
        ≡ p ∷ ps
    by true e rest = ap (λ l. p ∷ l) rest
    by false e rest =
        let none : filter (λ q. nat_lt q.0 n) ps ≡ [] = none_waits n ps p.0 (grind (arith, e)) h.0 in
        ap (λ l. l ++ p ∷ filter (λ q. not (nat_lt q.0 n)) ps) none
        ∙ ap (λ l. p ∷ l) (ap (λ l. l ++ filter (λ q. not (nat_lt q.0 n)) ps) (sym none) ∙ rest)

pub below-filter : (n : ℕ) (ps : List Held) → AllByRecursion (λ p. p.0 < n) (filter (λ p. nat_lt p.0 n) ps)
below-filter n [] = tt
below-filter n (p ∷ ps) = by (nat_lt p.0 n) refl (below-filter n ps)
  where
    by :
        (b : Bool)
        → nat_lt p.0 n ≡ b
        → AllByRecursion (λ q. q.0 < n) (filter (λ q. nat_lt q.0 n) ps)
        → AllByRecursion (λ q. q.0 < n) (if b then p ∷ filter (λ q. nat_lt q.0 n) ps else filter (λ q. nat_lt q.0 n) ps)
    by true e rest = (grind (arith, e), rest)
    by false e rest = rest

-- all rows of a store with one draft wait, once it has its serial number
pub waits-entered :
    (s : Stores) (r : Row)
    → Pairs (λ p q. p.0 < q.0) s.waiting.entries
    → drafts s ≡ (s.next, r) ∷ []
    → (filter (λ p. nat_lt p.0 (s.next + 1)) s.waiting.entries ≡ s.waiting.entries) × (s.waiting.entries ≡ waits s ++ (s.next, r) ∷ [])
waits-entered s r rising drafted = (filter_all (λ p. nat_lt p.0 (s.next + 1)) s.waiting.entries within, split)
  where
    split : s.waiting.entries ≡ waits s ++ (s.next, r) ∷ []
    split = sym (parted s.next s.waiting.entries rising) ∙ ap (λ l. waits s ++ l) drafted

    within : AllByRecursion (λ p. nat_lt p.0 (s.next + 1) ≡ true) s.waiting.entries
    within =
        subst (AllByRecursion (λ p. nat_lt p.0 (s.next + 1) ≡ true)) (sym split)
        (all_last (λ p. nat_lt p.0 (s.next + 1) ≡ true) (waits s) (s.next, r)
        (all_weaker (λ p. p.0 < s.next) (λ p. nat_lt p.0 (s.next + 1) ≡ true) (waits s) (λ p less. grind (arith, less)) (below-filter s.next s.waiting.entries))
        (grind arith))

both_ways : (a b : Bool) → (a ≡ true → b ≡ true) → (b ≡ true → a ≡ true) → a ≡ b
both_ways true b f g = sym (f refl)
both_ways false true f g = g refl
both_ways false false f g = refl

same_number-refl : (n : Number) → same_number n n ≡ true
same_number-refl n = let link : (n.link == n.link) ≡ true = grind arith in let number : (n.number == n.number) ≡ true = grind arith in rw (link, number) refl

pub same_number-symm : (a b : Number) → same_number a b ≡ same_number b a
same_number-symm a b =
    both_ways (same_number a b) (same_number b a)
    (λ e. ap (λ n. same_number n a) (sym (same_number-equal a b e)) ∙ same_number-refl a)
    (λ e. ap (λ n. same_number n b) (sym (same_number-equal b a e)) ∙ same_number-refl b)

-- another key than the one that is put in keeps what it leads to
module _ (f g : Key → Option RowPlace) (k : Key) (place : RowPlace) (updates : (q : Key) → g q ≡ cond (same_key k q) (Some place) (f q)) where
  put-other : (q : Key) → same_key q k ≡ false → g q ≡ f q
  put-other q other = updates q ∙ ap (λ b. cond b (Some place) (f q)) (same_key_equiv.symm k q ∙ other)

  pub put-own : g k ≡ Some place
  put-own = updates k ∙ ap (λ b. cond b (Some place) (f k)) (same_key_equiv.refl k)

  pub counted-put : (n : ℕ) (xs : List Held) → AllByRecursion (λ x. same_key x.1.0 k ≡ false) xs → CountedFrom f n xs → CountedFrom g n xs
  counted-put n [] others h = h
  counted-put n (x ∷ xs) others h = (put-other x.1.0 others.0 ∙ h.0, counted-put (n + 1) xs others.1 h.1)

  pub keyed-put :
      (ps : List Held)
      → AllByRecursion (λ p. same_key p.1.0 k ≡ false) ps
      → AllByRecursion (λ p. f p.1.0 ≡ Some (Waiting p.0)) ps
      → AllByRecursion (λ p. g p.1.0 ≡ Some (Waiting p.0)) ps
  keyed-put ps =
      all_both (λ p. same_key p.1.0 k ≡ false) (λ p. f p.1.0 ≡ Some (Waiting p.0)) (λ p. g p.1.0 ≡ Some (Waiting p.0)) ps
      (λ p other hint. put-other p.1.0 other ∙ hint)

module _ (f g : Number → Option ℕ) (k : Number) (serial : ℕ) (updates : (q : Number) → g q ≡ cond (same_number k q) (Some serial) (f q)) where
  number-other : (q : Number) → same_number q k ≡ false → g q ≡ f q
  number-other q other = updates q ∙ ap (λ b. cond b (Some serial) (f q)) (same_number-symm k q ∙ other)

  pub number-own : g k ≡ Some serial
  number-own = updates k ∙ ap (λ b. cond b (Some serial) (f k)) (same_number-refl k)

  pub numbered-put :
      (ps : List Held)
      → AllByRecursion (λ p. same_number (number_of p.1) k ≡ false) ps
      → AllByRecursion (λ p. f (number_of p.1) ≡ Some p.0) ps
      → AllByRecursion (λ p. g (number_of p.1) ≡ Some p.0) ps
  numbered-put ps =
      all_both (λ p. same_number (number_of p.1) k ≡ false) (λ p. f (number_of p.1) ≡ Some p.0) (λ p. g (number_of p.1) ≡ Some p.0) ps
      (λ p other hint. number-other (number_of p.1) other ∙ hint)

pub kept-entered :
    (s : Stores) (keys : HashMap Key RowPlace RandomState) (numbers : HashMap Number ℕ RandomState) (r : Row)
    → IsKept s
    → drafts s ≡ (s.next, r) ∷ []
    → CanFollow s (waits s) s.settled.items r
    → HasRoom s
    → ((q : Key) → get same_key keys q ≡ cond (same_key r.0 q) (Some (Waiting s.next)) (get same_key s.keys q))
    → ((q : Number) → get same_number numbers q ≡ cond (same_number (number_of r) q) (Some s.next) (get same_number s.numbers q))
    → hash_map_len numbers ≡ hash_map_len s.numbers + 1
    → IsKept (record s { keys = keys; numbers = numbers; next = s.next + 1 })
kept-entered s keys numbers r h drafted follows room key_updates number_updates longer =
    let all_rows = waits-entered s r h.rising drafted in
    let is : filter (λ p. nat_lt p.0 (s.next + 1)) s.waiting.entries ≡ waits s ++ (s.next, r) ∷ [] = all_rows.0 ∙ all_rows.1 in
    let f = get same_key s.keys in
    let g = get same_key keys in
    let m = get same_number s.numbers in
    let n = get same_number numbers in
    let more : length (filter (λ p. nat_lt p.0 (s.next + 1)) s.waiting.entries) ≡ length (waits s) + 1 = ap length is ∙ length-last (waits s) (s.next, r) in
    record {
      by_key =
          subst (AllByRecursion (λ p. g p.1.0 ≡ Some (Waiting p.0))) (sym is)
          (all_last (λ p. g p.1.0 ≡ Some (Waiting p.0)) (waits s) (s.next, r)
          (keyed-put f g r.0 (Waiting s.next) key_updates (waits s) follows.key h.by_key)
          (put-own f g r.0 (Waiting s.next) key_updates));
      by_count = counted-put f g r.0 (Waiting s.next) key_updates s.dropped s.settled.items follows.settled_key h.by_count;
      by_number =
          subst (AllByRecursion (λ p. n (number_of p.1) ≡ Some p.0)) (sym is)
          (all_last (λ p. n (number_of p.1) ≡ Some p.0) (waits s) (s.next, r)
          (numbered-put m n (number_of r) s.next number_updates (waits s) follows.number h.by_number)
          (number-own m n (number_of r) s.next number_updates));
      waiting =
          subst (AllByRecursion (λ p. is_waiting p.1.1.answer ≡ true)) (sym is)
          (all_last (λ p. is_waiting p.1.1.answer ≡ true) (waits s) (s.next, r) h.waiting follows.waits);
      answered = h.answered;
      rising = h.rising;
      older = all_weaker (λ x. x.0 < s.next) (λ x. x.0 < s.next + 1) s.settled.items (λ x less. omega (arith, less)) h.older;
      aged =
          subst (λ ps. Pairs (ends_before s) (rows ps)) (sym is)
          (subst (Pairs (ends_before s)) (sym (rows-last (waits s) (s.next, r)))
          (pairs_last (ends_before s) (rows (waits s)) r h.aged (all_of_rows (λ t. ends_before s t r) (waits s) follows.last)));
      cooled = h.cooled;
      counted = omega (arith, h.counted, more);
      unused = subst (λ ps. (q : Number) → AllByRecursion (λ p. same_number (number_of p.1) q ≡ false) ps → n q ≡ None) (sym is)
          (λ q none. number_updates q
          ∙ ap (λ b. cond b (Some s.next) (m q)) (at_last (λ p. same_number (number_of p.1) q ≡ false) (waits s) (s.next, r) none)
          ∙ h.unused q (all_before (λ p. same_number (number_of p.1) q ≡ false) (waits s) (s.next, r) none));
      numbered = omega (arith, h.numbered, more, longer);
      room = omega (arith, room.settled, more);
    }
