-- A request that the table takes up can follow the live rows.
use Rattle.std.proofs.Common.{◌≡◌, ℕ, ◌+◌, ◌≤◌, true, false, List, filter, find, refl, subst, arith, None}
use Rattle.std.specs.List.{AllByRecursion}
use Rattle.std.specs.Prelude.{Result, Ok, Err, OnOk, OnErr}
use Rattle.pending_table.specs.declared.key.Key.{Key}
use Rattle.pending_table.specs.declared.entry.Answer.{Answer}
use Rattle.pending_table.specs.declared.entry.Answer.TheVariants.{Waiting, Silent, Replied}
use Rattle.pending_table.specs.declared.stores.Stores.{Stores}
use Rattle.pending_table.specs.Table.{Row, same_key, has_number, is_waiting, last_change, ends, IsBy, new_entry}
use Rattle.session_carrier.specs.declared.kept.Kept.{Kept}
use Rattle.pending_table.specs.Merged.{merged}
use Rattle.pending_table.specs.Stores.{IsKept, CanJoin, is_live, ends_before, waits, all}
use Rattle.pending_table.proofs.Merging.{all_filter}
use Rattle.pending_table.proofs.Hints.{all_both}
use Rattle.pending_table.proofs.Lists.{all_of_rows, all_of_merged, all_from_find}
use Rattle.pending_table.proofs.Seen.{filter-all}

-- what holds of the live rows holds of those of each store
live_parts :
    (P : Row → Type 0) (s : Stores)
    → IsKept s
    → (moment : ℕ)
    → AllByRecursion P (filter (is_live s moment) (all s))
    → AllByRecursion (λ p. P p.1) (filter (λ p. is_live s moment p.1) (waits s)) × AllByRecursion (λ x. P x.1) (filter (λ x. is_live s moment x.1) s.settled.items)
live_parts P s h moment holds =
    let first = filter (λ p. is_live s moment p.1) (waits s) in
    let second = filter (λ x. is_live s moment x.1) s.settled.items in
    all_of_merged (λ p. P p.1) first second
    (all_of_rows P (merged first second) (subst (AllByRecursion P) (filter-all (is_live s moment) s h) holds))

-- one that waits and was taken by this moment ends by the patience after it
ends_by : (patience retention moment taken : ℕ) (answer : Answer) → is_waiting answer ≡ true → last_change taken answer ≤ moment → ends patience retention taken answer ≤ moment + patience
ends_by patience retention moment taken (Waiting sent) waits by = omega (arith, by)
ends_by patience retention moment taken (Silent at) waits by = absurd cc
ends_by patience retention moment taken (Replied at reply) waits by = absurd cc

pub can_join :
    (s : Stores)
    → IsKept s
    → (key : Key) (link number : ℕ) (kept : Kept) (sent : List ℕ) (moment : ℕ)
    → find (λ r. same_key r.0 key) (filter (is_live s moment) (all s)) ≡ None
    → AllByRecursion (λ r. has_number link number r.1 ≡ false) (filter (is_live s moment) (all s))
    → AllByRecursion (λ r. IsBy moment r.1) (filter (is_live s moment) (all s))
    → CanJoin s moment (key, new_entry key link number kept sent moment)
can_join s h key link number kept sent moment unknown unused in_order =
    let live = filter (λ p. is_live s moment p.1) (waits s) in
    let keys = live_parts (λ r. same_key r.0 key ≡ false) s h moment (all_from_find (λ r. same_key r.0 key) (filter (is_live s moment) (all s)) unknown) in
    record {
      waits = refl;
      last = all_both (λ p. is_waiting p.1.1.answer ≡ true) (λ p. IsBy moment p.1.1) (λ p. ends_before s p.1 (key, new_entry key link number kept sent moment)) live
          (λ p waiting by. ends_by s.patience s.retention moment p.1.1.taken p.1.1.answer waiting by)
          (all_filter (λ p. is_waiting p.1.1.answer ≡ true) (λ p. is_live s moment p.1) (waits s) h.waiting)
          (live_parts (λ r. IsBy moment r.1) s h moment in_order).0;
      key = keys.0;
      settled_key = keys.1;
      number = (live_parts (λ r. has_number link number r.1 ≡ false) s h moment unused).0;
    }

-- what holds after success and after failure
pub either_way : {T E : Type 0} → (r : Result T E) (A B C : Type 0) → OnOk r A → OnErr r B → (A → C) → (B → C) → C
either_way (Ok x) A B C ok err f g = f ok
either_way (Err e) A B C ok err f g = g err
