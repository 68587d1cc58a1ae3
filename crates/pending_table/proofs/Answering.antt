-- The row that gets an answer is the only one that awaits it, and it becomes the last of the settled ones.
use Rattle.std.proofs.Common.{◌≡◌, ℕ, ◌+◌, ◌≤◌, Bool, true, false, true≢false, nat_lt, ◌&&◌, List, filter, find, if◌then◌else◌, refl, ap, sym, ◌∙◌, arith, Option, Some, None, is_some, option_and_then}
use Rattle.std.specs.List.{AllByRecursion}
use Rattle.pending_table.specs.declared.entry.Answer.{Answer}
use Rattle.pending_table.specs.declared.entry.Answer.TheVariants.{Waiting, Silent, Replied}
use Rattle.pending_table.specs.declared.stores.Stores.{Stores}
use Rattle.pending_table.specs.Table.{Row, has_number, is_waiting, is_live_waiting, awaits, last_change, ends, IsBy, answer_of, update_first}
use Rattle.pending_table.specs.Merged.{Held, merged, rows}
use Rattle.pending_table.specs.Stores.{IsKept, IsWhole, IsOnly, is_live, waits, all, by_number}
use Rattle.pending_table.proofs.Merging.{all_merged, all_weaker}
use Rattle.pending_table.proofs.Hints.{all_both, all_rows}
use Rattle.pending_table.proofs.Lists.{all_of_rows, all_of_merged, all_of_filter, update_first-congr}
use Rattle.pending_table.proofs.Seen.{found_by_number, only_by_number}

-- the answer is given at its moment

pub is_waiting-answer_of : (moment : ℕ) (reply : Option (List ℕ)) → is_waiting (answer_of moment reply) ≡ false
is_waiting-answer_of moment None = refl
is_waiting-answer_of moment (Some octets) = refl

ends-answer_of : (patience retention taken moment : ℕ) (reply : Option (List ℕ)) → ends patience retention taken (answer_of moment reply) ≡ moment + retention
ends-answer_of patience retention taken moment None = refl
ends-answer_of patience retention taken moment (Some octets) = refl

-- a settled one ends by the retention after this moment, if it was settled by then or is dead
ends_by :
    (patience retention moment taken : ℕ) (answer : Answer)
    → is_waiting answer ≡ false
    → (nat_lt moment (ends patience retention taken answer) ≡ true → last_change taken answer ≤ moment)
    → ends patience retention taken answer ≤ moment + retention
ends_by patience retention moment taken (Waiting sent) answered by = absurd cc
ends_by patience retention moment taken (Silent at) answered by = each (nat_lt moment (at + retention)) refl
  where
    each : (b : Bool) → nat_lt moment (at + retention) ≡ b → at + retention ≤ moment + retention
    each true e = omega (arith, by e)
    each false e = grind (arith, e)
ends_by patience retention moment taken (Replied at reply) answered by = each (nat_lt moment (at + retention)) refl
  where
    each : (b : Bool) → nat_lt moment (at + retention) ≡ b → at + retention ≤ moment + retention
    each true e = omega (arith, by e)
    each false e = grind (arith, e)

pub settled_last :
    (s : Stores)
    → IsKept s
    → (moment : ℕ) (reply : Option (List ℕ))
    → AllByRecursion (λ r. IsBy moment r.1) (filter (is_live s moment) (all s))
    → AllByRecursion (λ r. ends s.patience s.retention r.1.taken r.1.answer ≤ ends s.patience s.retention 0 (answer_of moment reply)) (rows s.settled.items)
settled_last s h moment reply in_order =
    all_rows (λ r. ends s.patience s.retention r.1.taken r.1.answer ≤ ends s.patience s.retention 0 (answer_of moment reply)) s.settled.items
    (all_both (λ x. is_waiting x.1.1.answer ≡ false) (λ x. is_live s moment x.1 ≡ true → IsBy moment x.1.1)
    (λ x. ends s.patience s.retention x.1.1.taken x.1.1.answer ≤ ends s.patience s.retention 0 (answer_of moment reply)) s.settled.items
    (λ x answered by. rw (ends-answer_of s.patience s.retention 0 moment reply) (ends_by s.patience s.retention moment x.1.1.taken x.1.1.answer answered by))
    h.answered
    (all_of_merged (λ p. is_live s moment p.1 ≡ true → IsBy moment p.1.1) (waits s) s.settled.items
    (all_of_rows (λ r. is_live s moment r ≡ true → IsBy moment r.1) (merged (waits s) s.settled.items)
    (all_of_filter (λ r. IsBy moment r.1) (is_live s moment) (all s) in_order))).1)

-- an answer that is awaited has a row

live_some : (s : Stores) (moment : ℕ) (r : Row) → is_some (if is_live s moment r then Some r else None) ≡ true → is_live s moment r ≡ true
live_some s moment r some = by (is_live s moment r) some
  where
    by : (b : Bool) → is_some (if b then Some r else None) ≡ true → b ≡ true
    by true e = refl
    by false e = absurd cc

pub is_found : (s : Stores) (moment : ℕ) (o : Option Row) → is_some (option_and_then (λ r. if is_live s moment r then Some r else None) o) ≡ true → is_some o ≡ true
is_found s moment None some = absurd cc
is_found s moment (Some r) some = refl

-- whether a row awaits the answer is told by its number, since the one of this number lives

number_tells :
    (s : Stores) (moment link number : ℕ) (o : Option Row) (ps : List Held)
    → IsOnly (λ r. has_number link number r.1) o (rows ps)
    → is_some (option_and_then (λ r. if is_live s moment r then Some r else None) o) ≡ true
    → AllByRecursion (λ p. has_number link number p.1.1 ≡ true → is_live s moment p.1 ≡ true) ps
number_tells s moment link number None ps only some = absurd cc
number_tells s moment link number (Some x) ps only some =
    all_weaker (λ p. has_number link number p.1.1 ≡ true → p.1 ≡ x) (λ p. has_number link number p.1.1 ≡ true → is_live s moment p.1 ≡ true) ps
    (λ p same e. ap (is_live s moment) (same e) ∙ live_some s moment x some)
    (all_of_rows (λ r. has_number link number r.1 ≡ true → r ≡ x) ps only.2)

live_where : (live waiting numbered : Bool) → (numbered ≡ true → live ≡ true) → ((live && waiting) && numbered) ≡ (waiting && numbered)
live_where true waiting numbered told = refl
live_where false waiting true told = absurd (true≢false (sym (told refl)))
live_where false true false told = refl
live_where false false false told = refl

not_where : (live waiting numbered : Bool) → waiting ≡ false → ((live && waiting) && numbered) ≡ (waiting && numbered)
not_where live true numbered answered = absurd (true≢false answered)
not_where true false numbered answered = refl
not_where false false numbered answered = refl

pub settled_same :
    (s : Stores)
    → IsKept s
    → IsWhole s
    → (link number moment : ℕ) (answer : Answer)
    → is_some (find (λ r. has_number link number r.1) (filter (λ r. is_live_waiting s.patience s.retention moment r.1) (all s))) ≡ true
    → update_first (λ e. is_waiting e.answer && has_number link number e) (λ e. record e { answer = answer }) (all s)
    ≡ update_first (awaits s.patience s.retention moment link number) (λ e. record e { answer = answer }) (all s)
settled_same s h whole link number moment answer some =
    sym
    (update_first-congr (awaits s.patience s.retention moment link number) (λ e. is_waiting e.answer && has_number link number e) (λ e. record e { answer = answer }) (all s)
    (all_rows (λ r. Same r) (merged (waits s) s.settled.items)
    (all_merged (λ p. Same p.1) (waits s) s.settled.items
    (all_weaker (λ p. has_number link number p.1.1 ≡ true → is_live s moment p.1 ≡ true) (λ p. Same p.1) (waits s)
    (λ p. live_where (is_live s moment p.1) (is_waiting p.1.1.answer) (has_number link number p.1.1))
    (number_tells s moment link number (by_number s link number) (waits s) (only_by_number s h whole link number) found))
    (all_weaker (λ x. is_waiting x.1.1.answer ≡ false) (λ x. Same x.1) s.settled.items
    (λ x. not_where (is_live s moment x.1) (is_waiting x.1.1.answer) (has_number link number x.1.1))
    h.answered))))
  where
    Same : Row → Type 0
    Same r = awaits s.patience s.retention moment link number r.1 ≡ (is_waiting r.1.answer && has_number link number r.1)

    found : is_some (option_and_then (λ r. if is_live s moment r then Some r else None) (by_number s link number)) ≡ true
    found = sym (ap is_some (found_by_number s h whole link number moment)) ∙ some
