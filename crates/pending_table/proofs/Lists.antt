-- Filters and changes of lists of rows, and what holds of all their elements.
use Rattle.std.proofs.Common.{◌≡◌, ℕ, suc, ◌+◌, ◌≤◌, Bool, true, false, true≢false, nat_lt, not, List, [], ◌∷◌, filter, find, length, if◌then◌else◌, refl, ap, sym, ◌∙◌, arith, Some, None}
use Rattle.std.proofs.lemmas.List.Sums.{length-filter, count_by-le-length}
use Rattle.std.specs.List.{AllByRecursion}
use Rattle.pending_table.specs.declared.entry.Entry.{Entry}
use Rattle.pending_table.specs.Table.{Row, update_first, numbered}
use Rattle.pending_table.specs.Merged.{Held, put, merged, rows, Pairs}

-- what holds of all

pub pairs_weaker : (R Q : Held → Held → Type 0) (ps : List Held) → ((p q : Held) → R p q → Q p q) → Pairs R ps → Pairs Q ps
pairs_weaker R Q [] f h = h
pairs_weaker R Q (p ∷ ps) f h = (each ps h.0, pairs_weaker R Q ps f h.1)
  where
    each : (qs : List Held) → AllByRecursion (R p) qs → AllByRecursion (Q p) qs
    each [] k = k
    each (q ∷ qs) k = (f p q k.0, each qs k.1)

pub all_of_rows : (P : Row → Type 0) (ps : List Held) → AllByRecursion P (rows ps) → AllByRecursion (λ p. P p.1) ps
all_of_rows P [] h = h
all_of_rows P (p ∷ ps) h = (h.0, all_of_rows P ps h.1)

all_of_put : (P : Held → Type 0) (x : Held) (ps : List Held) → AllByRecursion P (put x ps) → P x × AllByRecursion P ps
all_of_put P x [] h = h
all_of_put P x (p ∷ ps) h = by (nat_lt x.0 p.0) h (all_of_put P x ps)
  where
    by :
        (b : Bool)
        → AllByRecursion P (if b then x ∷ p ∷ ps else p ∷ put x ps)
        → (AllByRecursion P (put x ps) → P x × AllByRecursion P ps)
        → P x × (P p × AllByRecursion P ps)
    by true k later = k
    by false k later = let two = later k.1 in (two.0, (k.0, two.1))

pub all_of_merged : (P : Held → Type 0) (ps xs : List Held) → AllByRecursion P (merged ps xs) → AllByRecursion P ps × AllByRecursion P xs
all_of_merged P ps [] h = (h, tt)
all_of_merged P ps (x ∷ xs) h = let first = all_of_put P x (merged ps xs) h in let two = all_of_merged P ps xs first.1 in (two.0, (first.0, two.1))

pub all_of_filter : (P : Row → Type 0) (q : Row → Bool) (rs : List Row) → AllByRecursion P (filter q rs) → AllByRecursion (λ r. q r ≡ true → P r) rs
all_of_filter P q [] h = h
all_of_filter P q (r ∷ rs) h = by (q r) refl h (all_of_filter P q rs)
  where
    by :
        (b : Bool)
        → q r ≡ b
        → AllByRecursion P (if b then r ∷ filter q rs else filter q rs)
        → (AllByRecursion P (filter q rs) → AllByRecursion (λ s. q s ≡ true → P s) rs)
        → (q r ≡ true → P r) × AllByRecursion (λ s. q s ≡ true → P s) rs
    by true e k later = ((λ t. k.0), later k.1)
    by false e k later = ((λ t. absurd (true≢false (sym t ∙ e))), later k)

pub all_from_find : (test : Row → Bool) (rs : List Row) → find test rs ≡ None → AllByRecursion (λ r. test r ≡ false) rs
all_from_find test [] none = tt
all_from_find test (r ∷ rs) none = by (test r) refl none (all_from_find test rs)
  where
    by :
        (b : Bool)
        → test r ≡ b
        → (if b then Some r else find test rs) ≡ None
        → (find test rs ≡ None → AllByRecursion (λ s. test s ≡ false) rs)
        → (test r ≡ false) × AllByRecursion (λ s. test s ≡ false) rs
    by true e k later = absurd cc
    by false e k later = (e, later k)

-- filters

pub filter_congr : (q t : Held → Bool) (ps : List Held) → AllByRecursion (λ p. q p ≡ t p) ps → filter q ps ≡ filter t ps
filter_congr q t [] h = refl
filter_congr q t (p ∷ ps) h = rw h.0 (by (t p) (filter_congr q t ps h.1))
  where
    by : (b : Bool) → filter q ps ≡ filter t ps → (if b then p ∷ filter q ps else filter q ps) ≡ (if b then p ∷ filter t ps else filter t ps)
    by true k = ap (λ l. p ∷ l) k
    by false k = k

pub length-filter_below : {X : Type 0} → (q : X → Bool) (xs : List X) → length (filter q xs) ≤ length xs
length-filter_below q xs = omega (arith, length-filter q xs, count_by-le-length q xs)

-- a filter that loses nothing, and the one that keeps what it loses

pub none_lost : (q : Held → Bool) (ps : List Held) → filter q ps ≡ ps → filter (λ p. not (q p)) ps ≡ []
none_lost q [] whole = refl
none_lost q (p ∷ ps) whole = by (q p) whole (none_lost q ps)
  where
    by :
        (b : Bool)
        → (if b then p ∷ filter q ps else filter q ps) ≡ p ∷ ps
        → (filter q ps ≡ ps → filter (λ r. not (q r)) ps ≡ [])
        → (if not b then p ∷ filter (λ r. not (q r)) ps else filter (λ r. not (q r)) ps) ≡ []
    by true k later = later cc
    by false k later = absurd (omega (arith, ap length k, length-filter_below q ps))

pub whole_filter : (q : Held → Bool) (ps : List Held) → filter (λ p. not (q p)) ps ≡ [] → filter q ps ≡ ps
whole_filter q [] none = refl
whole_filter q (p ∷ ps) none = by (q p) none (whole_filter q ps)
  where
    by :
        (b : Bool)
        → (if not b then p ∷ filter (λ r. not (q r)) ps else filter (λ r. not (q r)) ps) ≡ []
        → (filter (λ r. not (q r)) ps ≡ [] → filter q ps ≡ ps)
        → (if b then p ∷ filter q ps else filter q ps) ≡ p ∷ ps
    by true k later = ap (λ l. p ∷ l) (later k)
    by false k later = absurd cc

-- changes of rows

pub update_first-congr :
    (t u : Entry → Bool) (change : Entry → Entry) (rs : List Row)
    → AllByRecursion (λ r. t r.1 ≡ u r.1) rs
    → update_first t change rs ≡ update_first u change rs
update_first-congr t u change [] h = refl
update_first-congr t u change (r ∷ rs) h = rw h.0 (by (u r.1) (update_first-congr t u change rs h.1))
  where
    by :
        (b : Bool)
        → update_first t change rs ≡ update_first u change rs
        → (if b then (r.0, change r.1) ∷ rs else r ∷ update_first t change rs) ≡ (if b then (r.0, change r.1) ∷ rs else r ∷ update_first u change rs)
    by true k = refl
    by false k = ap (λ l. r ∷ l) k

pub length-update_first : (test : Entry → Bool) (change : Entry → Entry) (rs : List Row) → length (update_first test change rs) ≡ length rs
length-update_first test change [] = refl
length-update_first test change (r ∷ rs) = by (test r.1) (length-update_first test change rs)
  where
    by :
        (b : Bool)
        → length (update_first test change rs) ≡ length rs
        → length (if b then (r.0, change r.1) ∷ rs else r ∷ update_first test change rs) ≡ suc (length rs)
    by true k = refl
    by false k = ap suc k

pub length-numbered : (test : Entry → Bool) (link n : ℕ) (rs : List Row) → length (numbered test link n rs) ≡ length rs
length-numbered test link n [] = refl
length-numbered test link n (r ∷ rs) = by (test r.1) (length-numbered test link n rs) (length-numbered test link (n + 1) rs)
  where
    by :
        (b : Bool)
        → length (numbered test link n rs) ≡ length rs
        → length (numbered test link (n + 1) rs) ≡ length rs
        → length (if b then (r.0, record r.1 { link = link; number = n }) ∷ numbered test link (n + 1) rs else r ∷ numbered test link n rs) ≡ suc (length rs)
    by true k l = ap suc l
    by false k l = ap suc k
