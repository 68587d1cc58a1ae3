-- Filters, counts and changes of the two stores are those of the one list.
use Rattle.std.proofs.Common.{◌≡◌, ℕ, suc, ◌+◌, ◌<◌, ◌≤◌, Bool, true, false, nat_lt, List, [], ◌∷◌, ◌++◌, filter, length, if◌then◌else◌, refl, ap, sym, ◌∙◌, arith}
use Rattle.std.specs.List.{AllByRecursion}
use Rattle.pending_table.specs.declared.entry.Entry.{Entry}
use Rattle.pending_table.specs.Table.{Row, update_first, numbered}
use Rattle.pending_table.specs.Merged.{Held, put, merged, rows, Rising, changed_first, renumbered}

-- All, by parts

pub all_filter : (P : Held → Type 0) (q : Held → Bool) (ps : List Held) → AllByRecursion P ps → AllByRecursion P (filter q ps)
all_filter P q [] h = h
all_filter P q (p ∷ ps) h = by (q p) (all_filter P q ps h.1)
  where
    by : (b : Bool) → AllByRecursion P (filter q ps) → AllByRecursion P (if b then p ∷ filter q ps else filter q ps)
    by true rest = (h.0, rest)
    by false rest = rest

pub all_weaker : (P Q : Held → Type 0) (ps : List Held) → ((p : Held) → P p → Q p) → AllByRecursion P ps → AllByRecursion Q ps
all_weaker P Q [] f h = h
all_weaker P Q (p ∷ ps) f h = (f p h.0, all_weaker P Q ps f h.1)

pub all_put : (P : Held → Type 0) (x : Held) (ps : List Held) → P x → AllByRecursion P ps → AllByRecursion P (put x ps)
all_put P x [] hx h = (hx, h)
all_put P x (p ∷ ps) hx h = by (nat_lt x.0 p.0) (all_put P x ps hx h.1)
  where
    by : (b : Bool) → AllByRecursion P (put x ps) → AllByRecursion P (if b then x ∷ p ∷ ps else p ∷ put x ps)
    by true rest = (hx, h)
    by false rest = (h.0, rest)

pub all_merged : (P : Held → Type 0) (ps xs : List Held) → AllByRecursion P ps → AllByRecursion P xs → AllByRecursion P (merged ps xs)
all_merged P ps [] h hx = h
all_merged P ps (x ∷ xs) h hx = all_put P x (merged ps xs) hx.0 (all_merged P ps xs h hx.1)

-- where x goes

put-first : (x : Held) (ps : List Held) → AllByRecursion (λ p. x.0 < p.0) ps → put x ps ≡ x ∷ ps
put-first x [] h = refl
put-first x (p ∷ ps) h = let e : nat_lt x.0 p.0 ≡ true = grind (arith, h.0) in rw e refl

pub put-last : (x y : Held) (ps : List Held) → x.0 < y.0 → put x (ps ++ y ∷ []) ≡ put x ps ++ y ∷ []
put-last x y [] below = let e : nat_lt x.0 y.0 ≡ true = grind (arith, below) in rw e refl
put-last x y (p ∷ ps) below = by (nat_lt x.0 p.0) (put-last x y ps below)
  where
    by :
        (b : Bool)
        → put x (ps ++ y ∷ []) ≡ put x ps ++ y ∷ []
        → (if b then x ∷ p ∷ (ps ++ y ∷ []) else p ∷ put x (ps ++ y ∷ [])) ≡ (if b then x ∷ p ∷ ps else p ∷ put x ps) ++ y ∷ []
    by true h = refl
    by false h = ap (λ l. p ∷ l) h

pub merged-last : (y : Held) (ps xs : List Held) → AllByRecursion (λ x. x.0 < y.0) xs → merged (ps ++ y ∷ []) xs ≡ merged ps xs ++ y ∷ []
merged-last y ps [] h = refl
merged-last y ps (x ∷ xs) h = ap (put x) (merged-last y ps xs h.1) ∙ put-last x y (merged ps xs) h.0

pub rising-put : (x : Held) (ps : List Held) → Rising ps → Rising (put x ps)
rising-put x [] h = (tt, tt)
rising-put x (p ∷ ps) h = by (nat_lt x.0 p.0) refl (rising-put x ps h.1)
  where
    by : (b : Bool) → nat_lt x.0 p.0 ≡ b → Rising (put x ps) → Rising (if b then x ∷ p ∷ ps else p ∷ put x ps)
    by true e rest =
        let below : x.0 ≤ p.0 = grind (arith, e) in
        ((below, all_weaker (λ q. p.0 ≤ q.0) (λ q. x.0 ≤ q.0) ps (λ q le. omega (arith, le, below)) h.0), h)
    by false e rest =
        let above : p.0 ≤ x.0 = grind (arith, e) in
        (all_put (λ q. p.0 ≤ q.0) x ps above h.0, rest)

pub rising-merged : (ps xs : List Held) → Rising ps → Rising (merged ps xs)
rising-merged ps [] h = h
rising-merged ps (x ∷ xs) h = rising-put x (merged ps xs) (rising-merged ps xs h)

-- a filter of the one list filters the two

filter-put : (q : Held → Bool) (x : Held) (ps : List Held) → Rising ps → filter q (put x ps) ≡ (if q x then put x (filter q ps) else filter q ps)
filter-put q x [] h = refl
filter-put q x (p ∷ ps) h = by (nat_lt x.0 p.0) refl (filter-put q x ps h.1)
  where
    by :
        (b : Bool)
        → nat_lt x.0 p.0 ≡ b
        → filter q (put x ps) ≡ (if q x then put x (filter q ps) else filter q ps)
        → filter q (if b then x ∷ p ∷ ps else p ∷ put x ps) ≡ (if q x then put x (filter q (p ∷ ps)) else filter q (p ∷ ps))
    by true e rest =
        let below : x.0 < p.0 = grind (arith, e) in
        let first : put x (filter q (p ∷ ps)) ≡ x ∷ filter q (p ∷ ps) =
        put-first x (filter q (p ∷ ps))
        (all_filter (λ r. x.0 < r.0) q (p ∷ ps)
        (below, all_weaker (λ r. p.0 ≤ r.0) (λ r. x.0 < r.0) ps (λ r le. omega (arith, le, below)) h.0)) in
        ap (λ l. if q x then l else filter q (p ∷ ps)) (sym first)
    by false e rest = each (q x) (q p) rest
      where
        each :
            (a c : Bool)
            → filter q (put x ps) ≡ (if a then put x (filter q ps) else filter q ps)
            → (if c then p ∷ filter q (put x ps) else filter q (put x ps))
            ≡ (if a then put x (if c then p ∷ filter q ps else filter q ps) else (if c then p ∷ filter q ps else filter q ps))
        each true true k = rw e (ap (λ l. p ∷ l) k)
        each false true k = ap (λ l. p ∷ l) k
        each true false k = k
        each false false k = k

pub filter-merged : (q : Held → Bool) (ps xs : List Held) → Rising ps → filter q (merged ps xs) ≡ merged (filter q ps) (filter q xs)
filter-merged q ps [] h = refl
filter-merged q ps (x ∷ xs) h = filter-put q x (merged ps xs) (rising-merged ps xs h) ∙ by (q x) (filter-merged q ps xs h)
  where
    by :
        (b : Bool)
        → filter q (merged ps xs) ≡ merged (filter q ps) (filter q xs)
        → (if b then put x (filter q (merged ps xs)) else filter q (merged ps xs)) ≡ merged (filter q ps) (if b then x ∷ filter q xs else filter q xs)
    by true k = ap (put x) k
    by false k = k

length-put : (x : Held) (ps : List Held) → length (put x ps) ≡ suc (length ps)
length-put x [] = refl
length-put x (p ∷ ps) = by (nat_lt x.0 p.0) (length-put x ps)
  where
    by : (b : Bool) → length (put x ps) ≡ suc (length ps) → length (if b then x ∷ p ∷ ps else p ∷ put x ps) ≡ suc (length (p ∷ ps))
    by true k = refl
    by false k = ap suc k

pub length-merged : (ps xs : List Held) → length (merged ps xs) ≡ length ps + length xs
length-merged ps [] = omega arith
length-merged ps (x ∷ xs) = omega (arith, length-put x (merged ps xs), length-merged ps xs)

-- with or without serial numbers

pub filter-rows : (q : Row → Bool) (ps : List Held) → filter q (rows ps) ≡ rows (filter (λ p. q p.1) ps)
filter-rows q [] = refl
filter-rows q (p ∷ ps) = by (q p.1) (filter-rows q ps)
  where
    by :
        (b : Bool)
        → filter q (rows ps) ≡ rows (filter (λ r. q r.1) ps)
        → (if b then p.1 ∷ filter q (rows ps) else filter q (rows ps)) ≡ rows (if b then p ∷ filter (λ r. q r.1) ps else filter (λ r. q r.1) ps)
    by true k = ap (λ l. p.1 ∷ l) k
    by false k = k

pub filter_all : (q : Held → Bool) (ps : List Held) → AllByRecursion (λ p. q p ≡ true) ps → filter q ps ≡ ps
filter_all q [] h = refl
filter_all q (p ∷ ps) h = rw h.0 (ap (λ l. p ∷ l) (filter_all q ps h.1))

pub filter_none : (q : Held → Bool) (ps : List Held) → AllByRecursion (λ p. q p ≡ false) ps → filter q ps ≡ []
filter_none q [] h = refl
filter_none q (p ∷ ps) h = rw h.0 (filter_none q ps h.1)

-- a change of a row that waits, among others

pub update_first-rows :
    (test : Entry → Bool) (change : Entry → Entry) (ps : List Held)
    → update_first test change (rows ps) ≡ rows (changed_first test change ps)
update_first-rows test change [] = refl
update_first-rows test change (p ∷ ps) = by (test p.1.1) (update_first-rows test change ps)
  where
    by :
        (b : Bool)
        → update_first test change (rows ps) ≡ rows (changed_first test change ps)
        → (if b then (p.1.0, change p.1.1) ∷ rows ps else p.1 ∷ update_first test change (rows ps))
        ≡ rows (if b then (p.0, (p.1.0, change p.1.1)) ∷ ps else p ∷ changed_first test change ps)
    by true k = refl
    by false k = ap (λ l. p.1 ∷ l) k

changed_first-put :
    (test : Entry → Bool) (change : Entry → Entry) (x : Held) (ps : List Held)
    → test x.1.1 ≡ false
    → changed_first test change (put x ps) ≡ put x (changed_first test change ps)
changed_first-put test change x [] fails = rw fails refl
changed_first-put test change x (p ∷ ps) fails = by (nat_lt x.0 p.0) refl (changed_first-put test change x ps fails)
  where
    by :
        (b : Bool)
        → nat_lt x.0 p.0 ≡ b
        → changed_first test change (put x ps) ≡ put x (changed_first test change ps)
        → changed_first test change (if b then x ∷ p ∷ ps else p ∷ put x ps) ≡ put x (changed_first test change (p ∷ ps))
    by true e k = rw fails (each (test p.1.1))
      where
        each :
            (c : Bool)
            → x ∷ (if c then (p.0, (p.1.0, change p.1.1)) ∷ ps else p ∷ changed_first test change ps)
            ≡ put x (if c then (p.0, (p.1.0, change p.1.1)) ∷ ps else p ∷ changed_first test change ps)
        each true = rw e refl
        each false = rw e refl
    by false e k = each (test p.1.1)
      where
        each :
            (c : Bool)
            → (if c then (p.0, (p.1.0, change p.1.1)) ∷ put x ps else p ∷ changed_first test change (put x ps))
            ≡ put x (if c then (p.0, (p.1.0, change p.1.1)) ∷ ps else p ∷ changed_first test change ps)
        each true = rw e refl
        each false = rw e (ap (λ l. p ∷ l) k)

pub changed_first-merged :
    (test : Entry → Bool) (change : Entry → Entry) (ps xs : List Held)
    → AllByRecursion (λ x. test x.1.1 ≡ false) xs
    → changed_first test change (merged ps xs) ≡ merged (changed_first test change ps) xs
changed_first-merged test change ps [] fails = refl
changed_first-merged test change ps (x ∷ xs) fails =
    changed_first-put test change x (merged ps xs) fails.0 ∙ ap (put x) (changed_first-merged test change ps xs fails.1)

pub merged-end : (x : Held) (ps xs : List Held) → merged ps (xs ++ x ∷ []) ≡ merged (put x ps) xs
merged-end x ps [] = refl
merged-end x ps (y ∷ xs) = ap (put y) (merged-end x ps xs)

-- new numbers, likewise

pub numbered-rows : (test : Entry → Bool) (link n : ℕ) (ps : List Held) → numbered test link n (rows ps) ≡ rows (renumbered test link n ps)
numbered-rows test link n [] = refl
numbered-rows test link n (p ∷ ps) = by (test p.1.1) (numbered-rows test link n ps) (numbered-rows test link (n + 1) ps)
  where
    by :
        (b : Bool)
        → numbered test link n (rows ps) ≡ rows (renumbered test link n ps)
        → numbered test link (n + 1) (rows ps) ≡ rows (renumbered test link (n + 1) ps)
        → (if b then (p.1.0, record p.1.1 { link = link; number = n }) ∷ numbered test link (n + 1) (rows ps) else p.1 ∷ numbered test link n (rows ps))
        ≡ rows (if b then (p.0, (p.1.0, record p.1.1 { link = link; number = n })) ∷ renumbered test link (n + 1) ps else p ∷ renumbered test link n ps)
    by true k l = ap (λ m. (p.1.0, record p.1.1 { link = link; number = n }) ∷ m) l
    by false k l = ap (λ m. p.1 ∷ m) k

renumbered-put :
    (test : Entry → Bool) (link n : ℕ) (x : Held) (ps : List Held)
    → test x.1.1 ≡ false
    → renumbered test link n (put x ps) ≡ put x (renumbered test link n ps)
renumbered-put test link n x [] fails = rw fails refl
renumbered-put test link n x (p ∷ ps) fails =
    by (nat_lt x.0 p.0) refl (renumbered-put test link n x ps fails) (renumbered-put test link (n + 1) x ps fails)
  where
    by :
        (b : Bool)
        → nat_lt x.0 p.0 ≡ b
        → renumbered test link n (put x ps) ≡ put x (renumbered test link n ps)
        → renumbered test link (n + 1) (put x ps) ≡ put x (renumbered test link (n + 1) ps)
        → renumbered test link n (if b then x ∷ p ∷ ps else p ∷ put x ps) ≡ put x (renumbered test link n (p ∷ ps))
    by true e k l = rw fails (each (test p.1.1))
      where
        each :
            (c : Bool)
            → x ∷ (if c then (p.0, (p.1.0, record p.1.1 { link = link; number = n })) ∷ renumbered test link (n + 1) ps else p ∷ renumbered test link n ps)
            ≡ put x (if c then (p.0, (p.1.0, record p.1.1 { link = link; number = n })) ∷ renumbered test link (n + 1) ps else p ∷ renumbered test link n ps)
        each true = rw e refl
        each false = rw e refl
    by false e k l = each (test p.1.1)
      where
        each :
            (c : Bool)
            → (if c then (p.0, (p.1.0, record p.1.1 { link = link; number = n })) ∷ renumbered test link (n + 1) (put x ps) else p ∷ renumbered test link n (put x ps))
            ≡ put x (if c then (p.0, (p.1.0, record p.1.1 { link = link; number = n })) ∷ renumbered test link (n + 1) ps else p ∷ renumbered test link n ps)
        each true = rw e (ap (λ m. (p.0, (p.1.0, record p.1.1 { link = link; number = n })) ∷ m) l)
        each false = rw e (ap (λ m. p ∷ m) k)

pub renumbered-merged :
    (test : Entry → Bool) (link n : ℕ) (ps xs : List Held)
    → AllByRecursion (λ x. test x.1.1 ≡ false) xs
    → renumbered test link n (merged ps xs) ≡ merged (renumbered test link n ps) xs
renumbered-merged test link n ps [] fails = refl
renumbered-merged test link n ps (x ∷ xs) fails =
    renumbered-put test link n x (merged ps xs) fails.0 ∙ ap (put x) (renumbered-merged test link n ps xs fails.1)
