-- What holds of all entries, over the calls that change some of them.
use Rattle.std.proofs.Common.{◌≡◌, ℕ, ◌+◌, ◌<◌, ◌≤◌, Bool, true, false, List, [], ◌∷◌, ◌++◌, if◌then◌else◌, All, arith, Option, Some, None}
use Rattle.std.specs.List.{AllByRecursion}
use Rattle.std.proofs.lemmas.List.Elements.{All-from_recursion, recursion_from_All, All-filter, All-push, All-weaker}
use Rattle.session_carrier.specs.declared.kept.Kept.{Kept}
use Rattle.pending_table.specs.declared.key.Key.{Key}
use Rattle.pending_table.specs.declared.entry.Entry.{Entry}
use Rattle.pending_table.specs.Table.{Row, TableParts, IsBy, has_number, is_live, is_live_waiting, live, new_entry, answer_of, awaits, update_first, settled, numbered, relinked}

all_of_updated :
    (P : Row → Type 0) (test : Entry → Bool) (change : Entry → Entry) (rs : List Row)
    → ((r : Row) → P r → P (r.0, change r.1))
    → AllByRecursion P rs
    → AllByRecursion P (update_first test change rs)
all_of_updated P test change [] f h = tt
all_of_updated P test change (r ∷ rs) f h = by (test r.1) (all_of_updated P test change rs f h.1)
  where
    by : (b : Bool) → AllByRecursion P (update_first test change rs) → AllByRecursion P (if b then (r.0, change r.1) ∷ rs else r ∷ update_first test change rs)
    by true k = (f r h.0, h.1)
    by false k = (h.0, k)

all_of_numbered :
    (P Q : Row → Type 0) (test : Entry → Bool) (link n : ℕ) (rs : List Row)
    → ((r : Row) → P r → Q r)
    → ((r : Row) (k : ℕ) → P r → Q (r.0, record r.1 { link = link; number = k }))
    → AllByRecursion P rs
    → AllByRecursion Q (numbered test link n rs)
all_of_numbered P Q test link n [] f g h = tt
all_of_numbered P Q test link n (r ∷ rs) f g h = by (test r.1) (all_of_numbered P Q test link n rs f g h.1) (all_of_numbered P Q test link (n + 1) rs f g h.1)
  where
    by :
        (b : Bool)
        → AllByRecursion Q (numbered test link n rs)
        → AllByRecursion Q (numbered test link (n + 1) rs)
        → AllByRecursion Q (if b then (r.0, record r.1 { link = link; number = n }) ∷ numbered test link (n + 1) rs else r ∷ numbered test link n rs)
    by true k l = (g r n h.0, l)
    by false k l = (f r h.0, k)

pub All-updated :
    (P : Row → Type 0) (test : Entry → Bool) (change : Entry → Entry) (rs : List Row)
    → ((r : Row) → P r → P (r.0, change r.1))
    → All P rs
    → All P (update_first test change rs)
All-updated P test change rs f h = All-from_recursion P (update_first test change rs) (all_of_updated P test change rs f (recursion_from_All P rs h))

pub All-numbered :
    (P Q : Row → Type 0) (test : Entry → Bool) (link n : ℕ) (rs : List Row)
    → ((r : Row) → P r → Q r)
    → ((r : Row) (k : ℕ) → P r → Q (r.0, record r.1 { link = link; number = k }))
    → All P rs
    → All Q (numbered test link n rs)
All-numbered P Q test link n rs f g h = All-from_recursion Q (numbered test link n rs) (all_of_numbered P Q test link n rs f g (recursion_from_All P rs h))

-- what a caller knows of all entries: none is of a later moment, or of a later link
abbrev pub IsBefore : ℕ → ℕ → Row → Type 0
IsBefore moment link r = IsBy moment r.1 × (r.1.link ≤ link)

pub All-live : (t : TableParts) (moment link : ℕ) → All (IsBefore moment link) t.entries → All (IsBefore moment link) (live t moment)
All-live t moment link h = All-filter (λ r. is_live t.patience t.retention moment r.1) (IsBefore moment link) t.entries h

pub All-in_order : (moment link : ℕ) (rs : List Row) → All (IsBefore moment link) rs → All (λ r. IsBy moment r.1) rs
All-in_order moment link rs h = All-weaker (IsBefore moment link) (λ r. IsBy moment r.1) (λ r k. k.0) rs h

is_unused : (link number old : ℕ) (e : Entry) → e.link ≤ old → old < link → has_number link number e ≡ false
is_unused link number old e below above = grind (arith, below, above)

pub All-unused : (moment old link number : ℕ) (rs : List Row) → old < link → All (IsBefore moment old) rs → All (λ r. has_number link number r.1 ≡ false) rs
All-unused moment old link number rs above h = All-weaker (IsBefore moment old) (λ r. has_number link number r.1 ≡ false) (λ r k. is_unused link number old r.1 k.1 above) rs h

pub All-later : (moment old link : ℕ) (rs : List Row) → old ≤ link → All (IsBefore moment old) rs → All (IsBefore moment link) rs
All-later moment old link rs above h = All-weaker (IsBefore moment old) (IsBefore moment link) (λ r k. (k.0, omega (arith, k.1, above))) rs h

pub All-joined :
    (moment old link : ℕ) (rs : List Row) (key : Key) (number : ℕ) (kept : Kept) (sent : List ℕ)
    → old < link
    → All (IsBefore moment old) rs
    → All (IsBefore moment link) (rs ++ (key, new_entry key link number kept sent moment) ∷ [])
All-joined moment old link rs key number kept sent above h =
    All-push (IsBefore moment link) rs (key, new_entry key link number kept sent moment)
    (All-later moment old link rs (omega (arith, above)) h)
    (omega arith, omega arith)

pub All-relinked :
    (t : TableParts) (moment old link : ℕ)
    → old < link
    → All (IsBefore moment old) t.entries
    → All (IsBefore moment link) (relinked t link moment)
All-relinked t moment old link above h =
    All-numbered (IsBefore moment old) (IsBefore moment link) (is_live_waiting t.patience t.retention moment) link 0 t.entries
    (λ r k. (k.0, omega (arith, k.1, above))) (λ r n k. (k.0, omega arith)) h

answered_at : (moment : ℕ) (e : Entry) (reply : Option (List ℕ)) → IsBy moment (record e { answer = answer_of moment reply })
answered_at moment e None = omega arith
answered_at moment e (Some reply) = omega arith

pub All-settled :
    (t : TableParts) (moment last link number : ℕ) (reply : Option (List ℕ))
    → All (IsBefore moment last) t.entries
    → All (IsBefore moment last) (settled t link number moment reply)
All-settled t moment last link number reply h =
    All-updated (IsBefore moment last) (awaits t.patience t.retention moment link number) (λ e. record e { answer = answer_of moment reply }) t.entries
    (λ r k. (answered_at moment r.1 reply, k.1)) h
