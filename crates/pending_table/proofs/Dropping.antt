-- What the stores keep once a row is dropped.
use Rattle.std.proofs.Common.{◌≡◌, ◌≢◌, ℕ, ◌+◌, ◌<◌, ◌≤◌, Bool, true, false, nat_lt, ◌&&◌, not, cond, List, [], ◌∷◌, filter, length, slice_get, drop, if◌then◌else◌, refl, ap, sym, subst, ◌∙◌, arith, Option, Some, None, is_some}
use Rattle.std.specs.List.{AllByRecursion}
use Rattle.pending_table.specs.declared.key.Key.{Key}
use Rattle.pending_table.specs.declared.stores.Stores.{Stores}
use Rattle.pending_table.specs.declared.stores.Number.{Number}
use Rattle.pending_table.specs.declared.stores.RowPlace.{RowPlace}
use Rattle.pending_table.specs.declared.stores.RowPlace.TheVariants.{Waiting, Settled}
use Rattle.pending_table.specs.Table.{Row, same_key, is_live as entry_is_live}
use Rattle.pending_table.specs.Merged.{Held, rows, Pairs}
use Rattle.pending_table.specs.Stores.{CountedFrom, is_live, is_first_dead, same_number, number_of, ends_before}
use Rattle.pending_table.specs.KeyLaws.{same_key-equal}
use Rattle.pending_table.proofs.Hints.{all_both, same_number-equal}

-- the first row that waits

pub none_waits : (next : ℕ) (ps : List Held) (n : ℕ) → next ≤ n → AllByRecursion (λ p. n < p.0) ps → filter (λ p. nat_lt p.0 next) ps ≡ []
none_waits next [] n past h = refl
none_waits next (p ∷ ps) n past h = let e : nat_lt p.0 next ≡ false = grind (arith, past, h.0) in rw e (none_waits next ps n past h.1)

pub first_waits :
    (s : Stores) (moment n : ℕ) (r : Row) (ps : List Held)
    → Pairs (λ p q. p.0 < q.0) ps
    → slice_get ps 0 ≡ Some (n, r)
    → is_first_dead s moment (filter (λ p. nat_lt p.0 s.next) ps) ≡ (nat_lt n s.next && not (is_live s moment r))
first_waits s moment n r [] h e = absurd cc
first_waits s moment n r (p ∷ ps) h e = subst (λ q. is_first_dead s moment (filter (λ p. nat_lt p.0 s.next) (p ∷ ps)) ≡ (nat_lt q.0 s.next && not (is_live s moment q.1))) is (by (nat_lt p.0 s.next) refl)
  where
    is : p ≡ (n, r)
    is = cc

    by : (b : Bool) → nat_lt p.0 s.next ≡ b → is_first_dead s moment (if b then p ∷ filter (λ p. nat_lt p.0 s.next) ps else filter (λ p. nat_lt p.0 s.next) ps) ≡ (b && not (is_live s moment p.1))
    by true k = refl
    by false k = rw (none_waits s.next ps p.0 (grind (arith, k)) h.0) refl

-- another key than the one that is taken out keeps what it leads to

pub keeps-other :
    {K X : Type 0}
    → (eq : K → K → Bool)
    → ((a b : K) → eq a b ≡ true → a ≡ b)
    → (f g : K → Option X) (k q : K) (x y : X)
    → ((r : K) → g r ≡ cond (eq k r) None (f r))
    → f k ≡ Some x
    → f q ≡ Some y
    → x ≢ y
    → g q ≡ Some y
keeps-other eq same f g k q x y updates fk fq apart = updates q ∙ by (eq k q) refl
  where
    by : (b : Bool) → eq k q ≡ b → cond b None (f q) ≡ Some y
    by true e = absurd (apart (let p : Some x ≡ Some y = sym fk ∙ ap f (same k q e) ∙ fq in cc))
    by false e = fq

waiting_apart : (a b : ℕ) → a < b → Waiting a ≢ Waiting b
waiting_apart a b less e = let k : a ≡ b = cc in omega (arith, k, less)

settled_apart : (a b : ℕ) → a < b → Settled a ≢ Settled b
settled_apart a b less e = let k : a ≡ b = cc in omega (arith, k, less)

kinds_apart : (a b : ℕ) → Waiting a ≢ Settled b
kinds_apart a b e = absurd cc

module _ (f g : Key → Option RowPlace) (k : Key) (updates : (r : Key) → g r ≡ cond (same_key k r) None (f r)) where
  -- a row that waits is dropped: the settled ones and the later ones keep their hints
  pub counted-waiting : (serial : ℕ) → f k ≡ Some (Waiting serial) → (n : ℕ) (xs : List Held) → CountedFrom f n xs → CountedFrom g n xs
  counted-waiting serial at n [] h = h
  counted-waiting serial at n (x ∷ xs) h = (
    keeps-other same_key same_key-equal f g k x.1.0 (Waiting serial) (Settled n) updates at h.0 (kinds_apart serial n),
    counted-waiting serial at (n + 1) xs h.1,
  )

  pub keyed-waiting :
      (serial : ℕ)
      → f k ≡ Some (Waiting serial)
      → (qs : List Held)
      → AllByRecursion (λ q. serial < q.0) qs
      → AllByRecursion (λ q. f q.1.0 ≡ Some (Waiting q.0)) qs
      → AllByRecursion (λ q. g q.1.0 ≡ Some (Waiting q.0)) qs
  keyed-waiting serial at qs =
      all_both (λ q. serial < q.0) (λ q. f q.1.0 ≡ Some (Waiting q.0)) (λ q. g q.1.0 ≡ Some (Waiting q.0)) qs
      (λ q below hint. keeps-other same_key same_key-equal f g k q.1.0 (Waiting serial) (Waiting q.0) updates at hint (waiting_apart serial q.0 below))

  -- a settled row is dropped: the same of those behind it and of those that wait
  pub counted-settled : (m : ℕ) → f k ≡ Some (Settled m) → (n : ℕ) (xs : List Held) → m < n → CountedFrom f n xs → CountedFrom g n xs
  counted-settled m at n [] below h = h
  counted-settled m at n (x ∷ xs) below h = (
    keeps-other same_key same_key-equal f g k x.1.0 (Settled m) (Settled n) updates at h.0 (settled_apart m n below),
    counted-settled m at (n + 1) xs (omega (arith, below)) h.1,
  )

  pub keyed-settled :
      (m : ℕ)
      → f k ≡ Some (Settled m)
      → (qs : List Held)
      → AllByRecursion (λ q. f q.1.0 ≡ Some (Waiting q.0)) qs
      → AllByRecursion (λ q. g q.1.0 ≡ Some (Waiting q.0)) qs
  keyed-settled m at [] h = h
  keyed-settled m at (q ∷ qs) h = (
    keeps-other same_key same_key-equal f g k q.1.0 (Settled m) (Waiting q.0) updates at h.0 (λ e. kinds_apart q.0 m (sym e)),
    keyed-settled m at qs h.1,
  )

pub numbered-waiting :
    (f g : Number → Option ℕ) (p : Held)
    → ((r : Number) → g r ≡ cond (same_number (number_of p.1) r) None (f r))
    → f (number_of p.1) ≡ Some p.0
    → (qs : List Held)
    → AllByRecursion (λ q. p.0 < q.0) qs
    → AllByRecursion (λ q. f (number_of q.1) ≡ Some q.0) qs
    → AllByRecursion (λ q. g (number_of q.1) ≡ Some q.0) qs
numbered-waiting f g p updates at qs =
    all_both (λ q. p.0 < q.0) (λ q. f (number_of q.1) ≡ Some q.0) (λ q. g (number_of q.1) ≡ Some q.0) qs
    (λ q below hint. keeps-other same_number same_number-equal f g (number_of p.1) (number_of q.1) p.0 q.0 updates at hint (λ e. omega (arith, e, below)))

-- a number of no row left leads nowhere
pub unused-waiting :
    (f g : Number → Option ℕ) (p : Held) (later : List Held)
    → ((r : Number) → g r ≡ cond (same_number (number_of p.1) r) None (f r))
    → ((n : Number) → AllByRecursion (λ q. same_number (number_of q.1) n ≡ false) (p ∷ later) → f n ≡ None)
    → (n : Number)
    → AllByRecursion (λ q. same_number (number_of q.1) n ≡ false) later
    → g n ≡ None
unused-waiting f g p later updates unused n none = updates n ∙ by (same_number (number_of p.1) n) refl
  where
    by : (b : Bool) → same_number (number_of p.1) n ≡ b → cond b None (f n) ≡ None
    by true e = refl
    by false e = unused n (e, none)

-- a removal takes one entry at most
pub one_less : {X : Type 0} → (o : Option X) (n m : ℕ) → n + (if is_some o then 1 else 0) ≡ m → m ≤ n + 1
one_less None n m e = omega (arith, e)
one_less (Some x) n m e = omega (arith, e)

-- where a row waits, the first of the store is one
pub first-is_waiting :
    (next : ℕ) (p : Held) (ps : List Held)
    → AllByRecursion (λ q. p.0 < q.0) ps
    → 0 < length (filter (λ q. nat_lt q.0 next) (p ∷ ps))
    → nat_lt p.0 next ≡ true
first-is_waiting next p ps later some = by (nat_lt p.0 next) refl some
  where
    by : (b : Bool) → nat_lt p.0 next ≡ b → 0 < length (if b then p ∷ filter (λ q. nat_lt q.0 next) ps else filter (λ q. nat_lt q.0 next) ps) → nat_lt p.0 next ≡ true
    by true e h = e
    by false e h = absurd (omega (arith, h, ap length (none_waits next ps p.0 (grind (arith, e)) later)))

-- a dead first row is none of the live ones, and from a live first row on all are live

pub live-drop :
    (s : Stores) (moment : ℕ) (ps : List Held)
    → is_first_dead s moment ps ≡ true
    → filter (λ p. is_live s moment p.1) (drop 1 ps) ≡ filter (λ p. is_live s moment p.1) ps
live-drop s moment [] dead = refl
live-drop s moment (p ∷ ps) dead = by (is_live s moment p.1) refl dead
  where
    by :
        (b : Bool)
        → is_live s moment p.1 ≡ b
        → not b ≡ true
        → filter (λ q. is_live s moment q.1) ps ≡ (if b then p ∷ filter (λ q. is_live s moment q.1) ps else filter (λ q. is_live s moment q.1) ps)
    by true e h = absurd cc
    by false e h = refl

pub live_all :
    (s : Stores) (moment : ℕ) (ps : List Held)
    → Pairs (ends_before s) (rows ps)
    → is_first_dead s moment ps ≡ false
    → filter (λ p. is_live s moment p.1) ps ≡ ps
live_all s moment [] pairs lives = refl
live_all s moment (p ∷ ps) pairs lives = rw first (ap (λ l. p ∷ l) (later ps pairs.0))
  where
    first : is_live s moment p.1 ≡ true
    first = by (is_live s moment p.1) lives
      where
        by : (b : Bool) → not b ≡ false → b ≡ true
        by true h = refl
        by false h = absurd cc

    later : (qs : List Held) → AllByRecursion (ends_before s p.1) (rows qs) → filter (λ q. is_live s moment q.1) qs ≡ qs
    later [] h = refl
    later (q ∷ qs) h = let e : is_live s moment q.1 ≡ true = grind (arith, h.0, first) in rw e (ap (λ l. q ∷ l) (later qs h.1))

pub first_dead-some : (s : Stores) (moment : ℕ) (ps : List Held) → is_first_dead s moment ps ≡ true → 0 < length ps
first_dead-some s moment [] dead = absurd cc
first_dead-some s moment (p ∷ ps) dead = omega arith

pub length-drop_less : (ps : List Held) → 0 < length ps → length (drop 1 ps) < length ps
length-drop_less [] h = h
length-drop_less (p ∷ ps) h = omega arith

-- the same, where the times are those of another moment's stores
pub live_left :
    (s t : Stores) (moment : ℕ) (ps : List Held)
    → t.patience ≡ s.patience
    → t.retention ≡ s.retention
    → Pairs (ends_before t) (rows ps)
    → is_first_dead t moment ps ≡ false
    → filter (λ p. is_live s moment p.1) ps ≡ ps
live_left s t moment ps patience retention pairs lives = same ∙ live_all t moment ps pairs lives
  where
    same : filter (λ p. is_live s moment p.1) ps ≡ filter (λ p. is_live t moment p.1) ps
    same =
        ap (λ n. filter (λ p. entry_is_live n s.retention moment p.1.1) ps) (sym patience)
        ∙ ap (λ n. filter (λ p. entry_is_live t.patience n moment p.1.1) ps) (sym retention)
