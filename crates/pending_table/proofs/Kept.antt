-- The one row of a key, and the one that awaits an answer, are those to which the indexes lead.
use Rattle.std.proofs.Common.{◌≡◌, ℕ, suc, inl, inr, Bool, true, false, true≢false, List, [], ◌∷◌, filter, find, length, if◌then◌else◌, refl, ap, sym, ◌∙◌, arith, Option, Some, None, option_and_then}
use Rattle.std.specs.List.{AllByRecursion}
use Rattle.pending_table.specs.Table.{Row}
use Rattle.pending_table.specs.Merged.{Held, rows, Pairs}
use Rattle.pending_table.specs.declared.stores.Stores.{Stores}
use Rattle.pending_table.specs.Stores.{Within, IsOnly, is_live, ends_before}

-- with one element at most that meets a test, a filter keeps it or loses it
pub only-find :
    {X : Type 0}
    → (test keep : X → Bool) (o : Option X) (xs : List X)
    → IsOnly test o xs
    → find test (filter keep xs) ≡ option_and_then (λ x. if keep x then Some x else None) o
only-find test keep None [] h = refl
only-find test keep None (y ∷ ys) h = by (keep y) (only-find test keep None ys h.1)
  where
    by : (b : Bool) → find test (filter keep ys) ≡ None → find test (if b then y ∷ filter keep ys else filter keep ys) ≡ None
    by true rest = rw h.0 rest
    by false rest = rest
only-find {X = X} test keep (Some x) xs h = within xs h.1 h.2
  where
    kept : Option X
    kept = if keep x then Some x else None

    -- past it, or where it isn't there, what passes is the same element
    lost : (ys : List X) → keep x ≡ false → AllByRecursion (λ y. test y ≡ true → y ≡ x) ys → find test (filter keep ys) ≡ None
    lost [] e all = refl
    lost (y ∷ ys) e all = each (keep y) (test y) refl refl (lost ys e all.1)
      where
        each :
            (b c : Bool)
            → keep y ≡ b
            → test y ≡ c
            → find test (filter keep ys) ≡ None
            → find test (if b then y ∷ filter keep ys else filter keep ys) ≡ None
        each true true k t rest = absurd (true≢false (sym k ∙ ap keep (all.0 t) ∙ e))
        each true false k t rest = rw t rest
        each false c k t rest = rest

    within : (ys : List X) → Within x ys → AllByRecursion (λ y. test y ≡ true → y ≡ x) ys → find test (filter keep ys) ≡ kept
    within [] w all = absurd w
    within (y ∷ ys) (inl same) all = by (keep x) refl
      where
        by : (b : Bool) → keep x ≡ b → find test (filter keep (y ∷ ys)) ≡ (if b then Some x else None)
        by false e = lost (y ∷ ys) e all
        by true e = rw (same, e, h.0) refl
    within (y ∷ ys) (inr later) all = by (keep x) refl (within ys later all.1)
      where
        by : (b : Bool) → keep x ≡ b → find test (filter keep ys) ≡ kept → find test (filter keep (y ∷ ys)) ≡ (if b then Some x else None)
        by false e rest = lost (y ∷ ys) e all
        by true e rest = step (keep y) (test y) refl (rest ∙ ap (λ b. if b then Some x else None) e)
          where
            step :
                (b c : Bool)
                → test y ≡ c
                → find test (filter keep ys) ≡ Some x
                → find test (if b then y ∷ filter keep ys else filter keep ys) ≡ Some x
            step true true t found = rw t (ap Some (all.0 t))
            step true false t found = rw t found
            step false c t found = found

-- from the first live row on, all are live where none ends before it
pub live_on :
    (s : Stores) (moment : ℕ) (r : Row) (rs : List Row)
    → Pairs (ends_before s) (r ∷ rs)
    → is_live s moment r ≡ true
    → length (filter (is_live s moment) (r ∷ rs)) ≡ length (r ∷ rs)
live_on s moment r rs pairs lives = rw lives (ap suc (all rs pairs.0))
  where
    all : (ts : List Row) → AllByRecursion (ends_before s r) ts → length (filter (is_live s moment) ts) ≡ length ts
    all [] h = refl
    all (t ∷ ts) h = let e : is_live s moment t ≡ true = grind (arith, h.0, lives) in rw e (ap suc (all ts h.1))

pub length-rows : (hs : List Held) → length (rows hs) ≡ length hs
length-rows [] = refl
length-rows (h ∷ hs) = ap suc (length-rows hs)

pub live_on-rows :
    (s : Stores) (moment : ℕ) (h : Held) (hs : List Held)
    → Pairs (ends_before s) (rows (h ∷ hs))
    → is_live s moment h.1 ≡ true
    → length (filter (is_live s moment) (rows (h ∷ hs))) ≡ suc (length hs)
live_on-rows s moment h hs pairs lives = live_on s moment h.1 (rows hs) pairs lives ∙ ap suc (length-rows hs)
