-- What the stores keep once a row that waited is settled.
use Rattle.std.proofs.Common.{◌≡◌, ◌≢◌, ℕ, ◌+◌, ◌<◌, ◌≤◌, Bool, true, false, true≢false, nat_lt, nat_cmp, ◌==◌, ◌&&◌, cond, List, [], ◌∷◌, ◌++◌, filter, length, if◌then◌else◌, refl, ap, sym, subst, ◌∙◌, arith, Option, Some, None, IsSome, is_some, option_and_then}
use Rattle.std.proofs.lemmas.Bool.{eqb-true}
use Rattle.std.specs.List.{AllByRecursion}
use Rattle.std.specs.HashMap.{HashMap, get, hash_map_len}
use Rattle.std.specs.Map.{lookup, remove_entry}
use Rattle.std.specs.BTreeMap.{BTreeMap, is_at}
use Rattle.std.specs.VecDeque.{deque_capacity}
use Rattle.std.specs.declared.collections.VecDeque.{VecDeque}
use Rattle.std.specs.Global.{Global}
use Rattle.std.specs.declared.random_state.RandomState.{RandomState}
use Rattle.pending_table.specs.declared.key.Key.{Key}
use Rattle.pending_table.specs.declared.entry.Entry.{Entry}
use Rattle.pending_table.specs.declared.entry.Answer.{Answer}
use Rattle.pending_table.specs.declared.entry.Answer.TheVariants as answers
use Rattle.pending_table.specs.declared.stores.Stores.{Stores}
use Rattle.pending_table.specs.declared.stores.Number.{Number}
use Rattle.pending_table.specs.declared.stores.RowPlace.{RowPlace}
use Rattle.pending_table.specs.declared.stores.RowPlace.TheVariants.{Waiting, Settled}
use Rattle.pending_table.specs.Table.{Row, same_key, has_number, is_waiting, ends, update_first}
use Rattle.pending_table.specs.Merged.{Held, put, merged, rows, Pairs, changed_first}
use Rattle.pending_table.specs.KeyLaws.{same_key-equal, same_key_equiv}
use Rattle.pending_table.specs.Stores.{IsKept, IsWhole, CountedFrom, waits, all, by_number, waiting_at, passing, same_number, number_of, ends_before}
use Rattle.pending_table.proofs.Merging.{all_weaker, filter_all, update_first-rows, changed_first-merged, merged-end}
use Rattle.pending_table.proofs.Hints.{all_both, same_number-equal}
use Rattle.pending_table.proofs.Dropping.{keeps-other}
use Rattle.pending_table.proofs.Entering.{whole-below, all_last, pairs_last, rows-last, length-last}

-- a list with an element in its middle

module _ {X : Type 0} (P : X → Type 0) where
  pub all_join : (ys : List X) (x : X) (zs : List X) → AllByRecursion P (ys ++ zs) → P x → AllByRecursion P (ys ++ x ∷ zs)
  all_join [] x zs h hx = (hx, h)
  all_join (y ∷ ys) x zs h hx = (h.0, all_join ys x zs h.1 hx)

  pub all_without : (ys : List X) (x : X) (zs : List X) → AllByRecursion P (ys ++ x ∷ zs) → AllByRecursion P (ys ++ zs)
  all_without [] x zs h = h.1
  all_without (y ∷ ys) x zs h = (h.0, all_without ys x zs h.1)

  pub all_middle : (ys : List X) (x : X) (zs : List X) → AllByRecursion P (ys ++ x ∷ zs) → P x
  all_middle [] x zs h = h.0
  all_middle (y ∷ ys) x zs h = all_middle ys x zs h.1

  pub all_append : (ys zs : List X) → AllByRecursion P ys → AllByRecursion P zs → AllByRecursion P (ys ++ zs)
  all_append [] zs h k = k
  all_append (y ∷ ys) zs h k = (h.0, all_append ys zs h.1 k)

pub pairs_without : {X : Type 0} → (R : X → X → Type 0) (ys : List X) (x : X) (zs : List X) → Pairs R (ys ++ x ∷ zs) → Pairs R (ys ++ zs)
pairs_without R [] x zs h = h.1
pairs_without R (y ∷ ys) x zs h = (all_without (R y) ys x zs h.0, pairs_without R ys x zs h.1)

pub rows-middle : (ys : List Held) (x : Held) (zs : List Held) → rows (ys ++ x ∷ zs) ≡ rows ys ++ x.1 ∷ rows zs
rows-middle [] x zs = refl
rows-middle (y ∷ ys) x zs = ap (λ l. y.1 ∷ l) (rows-middle ys x zs)

pub rows-without : (ys zs : List Held) → rows (ys ++ zs) ≡ rows ys ++ rows zs
rows-without [] zs = refl
rows-without (y ∷ ys) zs = ap (λ l. y.1 ∷ l) (rows-without ys zs)

pub length-middle : (ys : List Held) (x : Held) (zs : List Held) → length (ys ++ x ∷ zs) ≡ length (ys ++ zs) + 1
length-middle [] x zs = omega arith
length-middle (y ∷ ys) x zs = omega (arith, length-middle ys x zs)

-- the place of a serial number in a store

pub record Split (n : ℕ) (r : Row) (ps : List Held) : Type 0 where
  pub before : List Held
  pub after : List Held
  pub is : ps ≡ before ++ (n, r) ∷ after
  pub removed : remove_entry (is_at (nat_cmp n)) ps ≡ before ++ after
  pub below : AllByRecursion (λ p. p.0 < n) before
  pub above : AllByRecursion (λ p. n < p.0) after

is_at-equal : (n k : ℕ) → is_at (nat_cmp n) k ≡ true → n ≡ k
is_at-equal n k e = by (nat_lt n k) (n == k) refl e
  where
    by : (a b : Bool) → (n == k) ≡ b → is_at (λ j. nat_cmp n k) k ≡ true → n ≡ k
    by a true same h = eqb-true n k same
    by a false same h = absurd (grind (arith, same, h))

pub split :
    (n : ℕ) (r : Row) (ps : List Held)
    → Pairs (λ p q. p.0 < q.0) ps
    → lookup (is_at (nat_cmp n)) ps ≡ Some r
    → Split n r ps
split n r [] h e = absurd cc
split n r (p ∷ ps) h e = by (is_at (nat_cmp n) p.0) refl e (split n r ps h.1)
  where
    by :
        (b : Bool)
        → is_at (nat_cmp n) p.0 ≡ b
        → cond b (Some p.1) (lookup (is_at (nat_cmp n)) ps) ≡ Some r
        → (lookup (is_at (nat_cmp n)) ps ≡ Some r → Split n r ps)
        → Split n r (p ∷ ps)
    by true k found rest =
        let serial : n ≡ p.0 = is_at-equal n p.0 k in
        let row : p.1 ≡ r = cc in
        record {
          before = [];
          after = ps;
          is = ap (λ m. (m, p.1) ∷ ps) (sym serial) ∙ ap (λ t. (n, t) ∷ ps) row;
          removed = rw k refl;
          below = tt;
          above = subst (λ m. AllByRecursion (λ q. m < q.0) ps) (sym serial) h.0;
        }
    by false k found rest =
        let s = rest found in
        record {
          before = p ∷ s.before;
          after = s.after;
          is = ap (λ l. p ∷ l) s.is;
          removed = rw k (ap (λ l. p ∷ l) s.removed);
          below = (all_middle (λ q. p.0 < q.0) s.before (n, r) s.after (subst (AllByRecursion (λ q. p.0 < q.0)) s.is h.0), s.below);
          above = s.above;
        }

-- the row goes back to its place, with the answer

put-between :
    (n : ℕ) (r : Row) (ys zs : List Held)
    → AllByRecursion (λ p. p.0 < n) ys
    → AllByRecursion (λ p. n < p.0) zs
    → put (n, r) (ys ++ zs) ≡ ys ++ (n, r) ∷ zs
put-between n r [] [] below above = refl
put-between n r [] (z ∷ zs) below above = let e : nat_lt n z.0 ≡ true = grind (arith, above.0) in rw e refl
put-between n r (y ∷ ys) zs below above =
    let e : nat_lt n y.0 ≡ false = grind (arith, below.0) in rw e (ap (λ l. y ∷ l) (put-between n r ys zs below.1 above))

changed_first-middle :
    (test : Entry → Bool) (change : Entry → Entry) (n : ℕ) (r : Row) (ys zs : List Held)
    → AllByRecursion (λ p. test p.1.1 ≡ false) ys
    → test r.1 ≡ true
    → changed_first test change (ys ++ (n, r) ∷ zs) ≡ ys ++ (n, (r.0, change r.1)) ∷ zs
changed_first-middle test change n r [] zs fails passes = rw passes refl
changed_first-middle test change n r (y ∷ ys) zs fails passes =
    rw fails.0 (ap (λ l. y ∷ l) (changed_first-middle test change n r ys zs fails.1 passes))

pub settled-list :
    (s : Stores) (n : ℕ) (r : Row) (test : Entry → Bool) (change : Entry → Entry)
    → (parts : Split n r (waits s))
    → AllByRecursion (λ p. test p.1.1 ≡ false) parts.before
    → test r.1 ≡ true
    → AllByRecursion (λ x. test x.1.1 ≡ false) s.settled.items
    → rows (merged (parts.before ++ parts.after) (s.settled.items ++ (n, (r.0, change r.1)) ∷ [])) ≡ update_first test change (all s)
settled-list s n r test change parts fails passes settled_fail =
    ap rows (
    merged-end (n, (r.0, change r.1)) (parts.before ++ parts.after) s.settled.items
    ∙ ap (λ ps. merged ps s.settled.items) (
    put-between n (r.0, change r.1) parts.before parts.after parts.below parts.above
    ∙ sym (changed_first-middle test change n r parts.before parts.after fails passes)
    ∙ ap (changed_first test change) (sym parts.is)
    )
    ∙ sym (changed_first-merged test change (waits s) s.settled.items settled_fail)
    )
    ∙ sym (update_first-rows test change (merged (waits s) s.settled.items))

-- the row that waits for an answer

pub awaited :
    (s : Stores) (link number n : ℕ) (r : Row)
    → get same_number s.numbers (record { link = link; number = number }) ≡ Some n
    → waiting_at s n ≡ Some r
    → IsSome (by_number s link number)
    → has_number link number r.1 ≡ true
awaited s link number n r hint found some =
    by (has_number link number r.1) refl
    (subst (λ o. IsSome (passing (λ t. has_number link number t.1) (option_and_then (waiting_at s) o))) hint some)
  where
    by : (b : Bool) → has_number link number r.1 ≡ b → IsSome (passing (λ t. has_number link number t.1) (waiting_at s n)) → has_number link number r.1 ≡ true
    by true e h = e
    by false e h = absurd (gone (subst (λ o. IsSome (passing (λ t. has_number link number t.1) o)) found h))
      where
        gone : IsSome (if has_number link number r.1 then Some r else None) → ⊥
        gone k = true≢false (sym k ∙ ap (λ b. is_some (if b then Some r else None)) e)

both_fail : (a b : Bool) → b ≡ false → (a && b) ≡ false
both_fail true b e = e
both_fail false b e = refl

-- those before it wait for other answers
pub others-fail :
    (s : Stores) (link number n : ℕ) (ps : List Held)
    → get same_number s.numbers (record { link = link; number = number }) ≡ Some n
    → AllByRecursion (λ p. p.0 < n) ps
    → AllByRecursion (λ p. get same_number s.numbers (number_of p.1) ≡ Some p.0) ps
    → AllByRecursion (λ p. (is_waiting p.1.1.answer && has_number link number p.1.1) ≡ false) ps
others-fail s link number n ps hint =
    all_both (λ p. p.0 < n) (λ p. get same_number s.numbers (number_of p.1) ≡ Some p.0) (λ p. (is_waiting p.1.1.answer && has_number link number p.1.1) ≡ false) ps
    (λ p below own. both_fail (is_waiting p.1.1.answer) (has_number link number p.1.1) (other p below own (has_number link number p.1.1) refl))
  where
    asked : Number
    asked = record { link = link; number = number }

    other : (p : Held) → p.0 < n → get same_number s.numbers (number_of p.1) ≡ Some p.0 → (b : Bool) → has_number link number p.1.1 ≡ b → has_number link number p.1.1 ≡ false
    other p below own false e = e
    other p below own true e =
        let same : number_of p.1 ≡ asked = same_number-equal (number_of p.1) asked e in
        let one : Some p.0 ≡ Some n = sym own ∙ ap (get same_number s.numbers) same ∙ hint in
        let serial : p.0 ≡ n = cc in
        absurd (omega (arith, below, serial))

-- a settled row is counted after those before it
counted_last : (f : Key → Option RowPlace) (n : ℕ) (xs : List Held) (x : Held) → CountedFrom f n xs → f x.1.0 ≡ Some (Settled (n + length xs)) → CountedFrom f n (xs ++ x ∷ [])
counted_last f n [] x h own = (own ∙ ap (λ m. Some (Settled m)) (omega arith), tt)
counted_last f n (y ∷ ys) x h own = (h.0, counted_last f (n + 1) ys x h.1 (own ∙ ap (λ m. Some (Settled m)) (omega arith)))

-- another key than the one whose place changes keeps its own
moved-other :
    (f g : Key → Option RowPlace) (k q : Key) (old own place : RowPlace)
    → ((r : Key) → g r ≡ cond (same_key k r) (Some place) (f r))
    → f k ≡ Some old
    → f q ≡ Some own
    → old ≢ own
    → g q ≡ Some own
moved-other f g k q old own place updates fk fq apart = updates q ∙ by (same_key k q) refl
  where
    by : (b : Bool) → same_key k q ≡ b → cond b (Some place) (f q) ≡ Some own
    by true e = absurd (apart (let p : Some old ≡ Some own = sym fk ∙ ap f (same_key-equal k q e) ∙ fq in cc))
    by false e = fq

module _ (f g : Key → Option RowPlace) (k : Key) (n : ℕ) (place : RowPlace) (updates : (r : Key) → g r ≡ cond (same_key k r) (Some place) (f r)) (at : f k ≡ Some (Waiting n)) where
  counted-moved : (m : ℕ) (xs : List Held) → CountedFrom f m xs → CountedFrom g m xs
  counted-moved m [] h = h
  counted-moved m (x ∷ xs) h = (moved-other f g k x.1.0 (Waiting n) (Settled m) place updates at h.0 (λ e. absurd cc), counted-moved (m + 1) xs h.1)

  keyed-moved :
      (ps : List Held)
      → AllByRecursion (λ p. p.0 ≢ n) ps
      → AllByRecursion (λ p. f p.1.0 ≡ Some (Waiting p.0)) ps
      → AllByRecursion (λ p. g p.1.0 ≡ Some (Waiting p.0)) ps
  keyed-moved ps =
      all_both (λ p. p.0 ≢ n) (λ p. f p.1.0 ≡ Some (Waiting p.0)) (λ p. g p.1.0 ≡ Some (Waiting p.0)) ps
      (λ p apart hint. moved-other f g k p.1.0 (Waiting n) (Waiting p.0) place updates at hint (λ e. apart (let m : n ≡ p.0 = cc in sym m)))

  moved-own : g k ≡ Some place
  moved-own = updates k ∙ ap (λ b. cond b (Some place) (f k)) (same_key_equiv.refl k)

numbered-left :
    (f g : Number → Option ℕ) (k : Number) (n : ℕ)
    → ((r : Number) → g r ≡ cond (same_number k r) None (f r))
    → f k ≡ Some n
    → (ps : List Held)
    → AllByRecursion (λ p. p.0 ≢ n) ps
    → AllByRecursion (λ p. f (number_of p.1) ≡ Some p.0) ps
    → AllByRecursion (λ p. g (number_of p.1) ≡ Some p.0) ps
numbered-left f g k n updates at ps =
    all_both (λ p. p.0 ≢ n) (λ p. f (number_of p.1) ≡ Some p.0) (λ p. g (number_of p.1) ≡ Some p.0) ps
    (λ p apart hint. keeps-other same_number same_number-equal f g k (number_of p.1) n p.0 updates at hint (λ e. apart (sym e)))

pub kept-settled :
    (s : Stores) (n count : ℕ) (r : Row) (answer : Answer)
    (keys : HashMap Key RowPlace RandomState) (numbers : HashMap Number ℕ RandomState) (waiting : BTreeMap ℕ Row) (settled : VecDeque Held Global)
    → IsKept s
    → IsWhole s
    → (parts : Split n r s.waiting.entries)
    → waiting.entries ≡ parts.before ++ parts.after
    → settled.items ≡ s.settled.items ++ (n, (r.0, record r.1 { answer = answer })) ∷ []
    → deque_capacity settled ≡ deque_capacity s.settled
    → ((q : Key) → get same_key keys q ≡ cond (same_key r.0 q) (Some (Settled count)) (get same_key s.keys q))
    → ((q : Number) → get same_number numbers q ≡ cond (same_number (number_of r) q) None (get same_number s.numbers q))
    → hash_map_len s.numbers ≤ hash_map_len numbers + 1
    → count ≡ s.dropped + length s.settled.items
    → is_waiting answer ≡ false
    → AllByRecursion (λ t. ends_before s t (r.0, record r.1 { answer = answer })) (rows s.settled.items)
    → IsKept (record s { keys = keys; numbers = numbers; waiting = waiting; settled = settled })
kept-settled s n count r answer keys numbers waiting settled h whole parts left more capacity key_updates number_updates longer counts answered last =
    record {
      by_key = subst (AllByRecursion (λ p. g p.1.0 ≡ Some (Waiting p.0))) (sym is) (keyed-moved f g r.0 n (Settled count) key_updates at others apart (all_without (λ p. f p.1.0 ≡ Some (Waiting p.0)) parts.before (n, r) parts.after by_key));
      by_count =
          subst (CountedFrom g s.dropped) (sym more)
          (counted_last g s.dropped s.settled.items (n, (r.0, record r.1 { answer = answer }))
          (counted-moved f g r.0 n (Settled count) key_updates at s.dropped s.settled.items h.by_count)
          (moved-own f g r.0 n (Settled count) key_updates at ∙ ap (λ m. Some (Settled m)) counts));
      by_number = subst (AllByRecursion (λ p. v (number_of p.1) ≡ Some p.0)) (sym is) (numbered-left u v (number_of r) n number_updates numbered others apart (all_without (λ p. u (number_of p.1) ≡ Some p.0) parts.before (n, r) parts.after by_number));
      waiting = subst (AllByRecursion (λ p. is_waiting p.1.1.answer ≡ true)) (sym is) (all_without (λ p. is_waiting p.1.1.answer ≡ true) parts.before (n, r) parts.after waits_all);
      answered = subst (AllByRecursion (λ x. is_waiting x.1.1.answer ≡ false)) (sym more) (all_last (λ x. is_waiting x.1.1.answer ≡ false) s.settled.items (n, (r.0, record r.1 { answer = answer })) h.answered answered);
      rising = subst (Pairs (λ p q. p.0 < q.0)) (sym left) (pairs_without (λ p q. p.0 < q.0) parts.before (n, r) parts.after (subst (Pairs (λ p q. p.0 < q.0)) parts.is h.rising));
      older = subst (AllByRecursion (λ x. x.0 < s.next)) (sym more) (all_last (λ x. x.0 < s.next) s.settled.items (n, (r.0, record r.1 { answer = answer })) h.older (all_middle (λ p. p.0 < s.next) parts.before (n, r) parts.after below));
      aged =
          subst (λ ps. Pairs (ends_before s) (rows ps)) (sym is)
          (subst (Pairs (ends_before s)) (sym (rows-without parts.before parts.after))
          (pairs_without (ends_before s) (rows parts.before) r (rows parts.after)
          (subst (Pairs (ends_before s)) (ap rows now ∙ rows-middle parts.before (n, r) parts.after) h.aged)));
      cooled =
          subst (λ xs. Pairs (ends_before s) (rows xs)) (sym more)
          (subst (Pairs (ends_before s)) (sym (rows-last s.settled.items (n, (r.0, record r.1 { answer = answer }))))
          (pairs_last (ends_before s) (rows s.settled.items) (r.0, record r.1 { answer = answer }) h.cooled last));
      counted = omega (arith, h.counted, fewer, ap length more ∙ length-last s.settled.items (n, (r.0, record r.1 { answer = answer })));
      unused = subst (λ ps. (q : Number) → AllByRecursion (λ p. same_number (number_of p.1) q ≡ false) ps → v q ≡ None) (sym is)
          (λ q none. number_updates q ∙ unused_left q none (same_number (number_of r) q) refl);
      numbered = omega (arith, h.numbered, fewer, longer);
      room = omega (arith, h.room, fewer, capacity, ap length more ∙ length-last s.settled.items (n, (r.0, record r.1 { answer = answer })));
    }
  where
    f : Key → Option RowPlace
    f = get same_key s.keys

    g : Key → Option RowPlace
    g = get same_key keys

    u : Number → Option ℕ
    u = get same_number s.numbers

    v : Number → Option ℕ
    v = get same_number numbers

    others : List Held
    others = parts.before ++ parts.after

    now : waits s ≡ parts.before ++ (n, r) ∷ parts.after
    now = whole ∙ parts.is

    below : AllByRecursion (λ p. p.0 < s.next) (parts.before ++ (n, r) ∷ parts.after)
    below = subst (AllByRecursion (λ p. p.0 < s.next)) parts.is (whole-below s.next s.waiting.entries whole)

    is : filter (λ p. nat_lt p.0 s.next) waiting.entries ≡ others
    is =
        ap (filter (λ p. nat_lt p.0 s.next)) left
        ∙ filter_all (λ p. nat_lt p.0 s.next) others
        (all_weaker (λ p. p.0 < s.next) (λ p. nat_lt p.0 s.next ≡ true) others (λ p less. grind (arith, less))
        (all_without (λ p. p.0 < s.next) parts.before (n, r) parts.after below))

    apart : AllByRecursion (λ p. p.0 ≢ n) others
    apart =
        all_append (λ p. p.0 ≢ n) parts.before parts.after
        (all_weaker (λ p. p.0 < n) (λ p. p.0 ≢ n) parts.before (λ p less e. omega (arith, less, e)) parts.below)
        (all_weaker (λ p. n < p.0) (λ p. p.0 ≢ n) parts.after (λ p more_than e. omega (arith, more_than, e)) parts.above)

    by_key : AllByRecursion (λ p. f p.1.0 ≡ Some (Waiting p.0)) (parts.before ++ (n, r) ∷ parts.after)
    by_key = subst (AllByRecursion (λ p. f p.1.0 ≡ Some (Waiting p.0))) now h.by_key

    by_number : AllByRecursion (λ p. u (number_of p.1) ≡ Some p.0) (parts.before ++ (n, r) ∷ parts.after)
    by_number = subst (AllByRecursion (λ p. u (number_of p.1) ≡ Some p.0)) now h.by_number

    waits_all : AllByRecursion (λ p. is_waiting p.1.1.answer ≡ true) (parts.before ++ (n, r) ∷ parts.after)
    waits_all = subst (AllByRecursion (λ p. is_waiting p.1.1.answer ≡ true)) now h.waiting

    at : f r.0 ≡ Some (Waiting n)
    at = all_middle (λ p. f p.1.0 ≡ Some (Waiting p.0)) parts.before (n, r) parts.after by_key

    numbered : u (number_of r) ≡ Some n
    numbered = all_middle (λ p. u (number_of p.1) ≡ Some p.0) parts.before (n, r) parts.after by_number

    fewer : length (waits s) ≡ length (filter (λ p. nat_lt p.0 s.next) waiting.entries) + 1
    fewer = ap length now ∙ length-middle parts.before (n, r) parts.after ∙ ap (λ m. m + 1) (ap length (sym is))

    unused_left : (q : Number) → AllByRecursion (λ p. same_number (number_of p.1) q ≡ false) others → (b : Bool) → same_number (number_of r) q ≡ b → cond b None (u q) ≡ None
    unused_left q none true e = refl
    unused_left q none false e =
        h.unused q (subst (AllByRecursion (λ p. same_number (number_of p.1) q ≡ false)) (sym now)
        (all_join (λ p. same_number (number_of p.1) q ≡ false) parts.before (n, r) parts.after none e))

pub asked_for : (link number : ℕ) (r : Row) → has_number link number r.1 ≡ true → number_of r ≡ record { link = link; number = number }
asked_for link number r e = same_number-equal (number_of r) (record { link = link; number = number }) e

-- the key of a row that waits leads to its serial number
pub key_at : (s : Stores) (n : ℕ) (r : Row) → IsKept s → IsWhole s → Split n r s.waiting.entries → get same_key s.keys r.0 ≡ Some (Waiting n)
key_at s n r h whole parts =
    all_middle (λ p. get same_key s.keys p.1.0 ≡ Some (Waiting p.0)) parts.before (n, r) parts.after
    (subst (AllByRecursion (λ p. get same_key s.keys p.1.0 ≡ Some (Waiting p.0))) (whole ∙ parts.is) h.by_key)

-- the end of a settled row doesn't come from its taking
pub ends_settled : (patience retention taken other : ℕ) (answer : Answer) → is_waiting answer ≡ false → ends patience retention taken answer ≡ ends patience retention other answer
ends_settled patience retention taken other (answers.Waiting sent) e = absurd (true≢false e)
ends_settled patience retention taken other (answers.Silent at) e = refl
ends_settled patience retention taken other (answers.Replied at reply) e = refl

-- all that are left wait
pub whole-settled :
    (s : Stores) (n : ℕ) (r : Row) (waiting : BTreeMap ℕ Row)
    → IsWhole s
    → (parts : Split n r s.waiting.entries)
    → waiting.entries ≡ parts.before ++ parts.after
    → filter (λ p. nat_lt p.0 s.next) waiting.entries ≡ parts.before ++ parts.after
whole-settled s n r waiting whole parts left =
    ap (filter (λ p. nat_lt p.0 s.next)) left
    ∙ filter_all (λ p. nat_lt p.0 s.next) (parts.before ++ parts.after)
    (all_weaker (λ p. p.0 < s.next) (λ p. nat_lt p.0 s.next ≡ true) (parts.before ++ parts.after) (λ p less. grind (arith, less))
    (all_without (λ p. p.0 < s.next) parts.before (n, r) parts.after (subst (AllByRecursion (λ p. p.0 < s.next)) parts.is (whole-below s.next s.waiting.entries whole))))

all_left : {X : Type 0} → (P : X → Type 0) (ys zs : List X) → AllByRecursion P (ys ++ zs) → AllByRecursion P ys
all_left P [] zs h = tt
all_left P (y ∷ ys) zs h = (h.0, all_left P ys zs h.1)

-- the list of rows, where the one that awaited this answer has it
pub rows-settled :
    (s : Stores) (link number n : ℕ) (r : Row) (answer : Answer) (waiting settled : List Held)
    → IsKept s
    → IsWhole s
    → (parts : Split n r s.waiting.entries)
    → get same_number s.numbers (record { link = link; number = number }) ≡ Some n
    → has_number link number r.1 ≡ true
    → waiting ≡ parts.before ++ parts.after
    → settled ≡ s.settled.items ++ (n, (r.0, record r.1 { answer = answer })) ∷ []
    → rows (merged waiting settled)
    ≡ update_first (λ e. is_waiting e.answer && has_number link number e) (λ e. record e { answer = answer }) (all s)
rows-settled s link number n r answer waiting settled h whole parts hint has left more =
    ap (λ ps. rows (merged ps settled)) left
    ∙ ap (λ xs. rows (merged (parts.before ++ parts.after) xs)) more
    ∙ settled-list s n r test (λ e. record e { answer = answer }) there
    (others-fail s link number n parts.before hint parts.below (all_left (λ p. get same_number s.numbers (number_of p.1) ≡ Some p.0) parts.before ((n, r) ∷ parts.after) by_number))
    (let waits_yet : is_waiting r.1.answer ≡ true = all_middle (λ p. is_waiting p.1.1.answer ≡ true) parts.before (n, r) parts.after waits_all in rw (waits_yet, has) refl)
    (all_weaker (λ x. is_waiting x.1.1.answer ≡ false) (λ x. test x.1.1 ≡ false) s.settled.items (λ x e. rw e refl) h.answered)
  where
    test : Entry → Bool
    test e = is_waiting e.answer && has_number link number e

    there : Split n r (waits s)
    there = record {
      before = parts.before;
      after = parts.after;
      is = whole ∙ parts.is;
      removed = ap (remove_entry (is_at (nat_cmp n))) whole ∙ parts.removed;
      below = parts.below;
      above = parts.above;
    }

    by_number : AllByRecursion (λ p. get same_number s.numbers (number_of p.1) ≡ Some p.0) (parts.before ++ (n, r) ∷ parts.after)
    by_number = subst (AllByRecursion (λ p. get same_number s.numbers (number_of p.1) ≡ Some p.0)) (whole ∙ parts.is) h.by_number

    waits_all : AllByRecursion (λ p. is_waiting p.1.1.answer ≡ true) (parts.before ++ (n, r) ∷ parts.after)
    waits_all = subst (AllByRecursion (λ p. is_waiting p.1.1.answer ≡ true)) (whole ∙ parts.is) h.waiting
