-- A steady ledger stays steady as time goes on.
use Rattle.std.proofs.Common.{◌≡◌, ℕ, ◌+◌, ◌<◌, ◌≤◌, max, Bool, true, List, filter, length, ap, subst, arith}
use Rattle.std.specs.Prelude.{nat_lt, count_by}
use Rattle.std.specs.List.{AllByRecursion}
use Rattle.std.proofs.lemmas.Bool.{and_parts, and_from, ltb-true, lt-ltb}
use Rattle.std.proofs.lemmas.List.Sums.{length-filter, count_by-le-length}
use Rattle.pending_table.specs.declared.entry.Entry.{Entry}
use Rattle.pending_table.specs.Table as table
use Rattle.pending_table.specs.Table.{Row}
use Rattle.agent_core.specs.declared.ledger.Ledger.{Ledger}
use Rattle.agent_core.specs.Machine.{at_moment, kept_waiting}
use Rattle.agent_core.specs.Standing.{IsSteady, EntryFits, RoomsFit}
use Rattle.agent_core.proofs.ListLemmas.Lists.{filter-within, AllByRecursion-filter, AllByRecursion-weaken}
use Rattle.agent_core.proofs.StandingLemmas.Rows.{lives}

-- a stricter test keeps no more
length-filter-within : {X : Type 0} (p q : X → Bool) → ((x : X) → q x ≡ true → p x ≡ true) → (xs : List X) → length (filter q xs) ≤ length (filter p xs)
length-filter-within p q implies xs =
    let same : length (filter q (filter p xs)) ≡ length (filter q xs) = ap length (filter-within p q implies xs) in
    let counted : length (filter q (filter p xs)) ≡ count_by q (filter p xs) = length-filter q (filter p xs) in
    let few : count_by q (filter p xs) ≤ length (filter p xs) = count_by-le-length q (filter p xs) in
    omega arith

before-max : (a b x : ℕ) → nat_lt (max a b) x ≡ true → nat_lt a x ≡ true
before-max a b x e = let later : max a b < x = ltb-true (max a b) x e in lt-ltb a x (omega arith)

-- what lives later lives now
lives-later : (S : Ledger) (m : ℕ) (r : Row) → lives S (max S.moment m) r ≡ true → lives S S.moment r ≡ true
lives-later S m r e = before-max S.moment m (table.ends S.table.patience S.table.retention r.1.taken r.1.answer) e

abbrev waits : Ledger → ℕ → Row → Bool
waits S m r = table.is_live_waiting S.table.patience S.table.retention m r.1

waits-later : (S : Ledger) (m : ℕ) (r : Row) → waits S (max S.moment m) r ≡ true → waits S S.moment r ≡ true
waits-later S m r e =
    let parts = and_parts (lives S (max S.moment m) r) (table.is_waiting r.1.answer) e in
    and_from (lives S S.moment r) (table.is_waiting r.1.answer) (lives-later S m r parts.0) parts.1

-- no more wait
waiting-later : (S : Ledger) (m : ℕ) → length (kept_waiting (at_moment S m)) ≤ length (kept_waiting S)
waiting-later S m = length-filter-within (waits S S.moment) (waits S (max S.moment m)) (waits-later S m) S.table.entries

rooms-later : (S : Ledger) (m : ℕ) → RoomsFit S → RoomsFit (at_moment S m)
rooms-later S m rooms =
    let fewer : length (kept_waiting (at_moment S m)) ≤ length (kept_waiting S) = waiting-later S m in
    let outbox : S.outbox + length (kept_waiting S) ≤ S.config.backlog + 64 = rooms.outbox in
    let used : S.used + length (kept_waiting S) ≤ 2147483648 = rooms.used in
    let again = rooms.again in
    record { outbox = omega arith; again = omega arith; used = omega arith }

entry-later : (S : Ledger) (m : ℕ) (e : Entry) → EntryFits S e → EntryFits (at_moment S m) e
entry-later S m e fits =
    let by : table.last_change e.taken e.answer ≤ S.moment = fits.by in
    record { linked = fits.linked; numbered = fits.numbered; by = omega arith; kept = fits.kept; sendable = fits.sendable }

entries-later : (S : Ledger) (m : ℕ) → AllByRecursion (λ r. EntryFits S r.1) (table.live S.table S.moment) → AllByRecursion (λ r. EntryFits (at_moment S m) r.1) (table.live S.table (max S.moment m))
entries-later S m all =
    let later = lives S (max S.moment m) in
    let kept : AllByRecursion (λ r. EntryFits S r.1) (filter later (table.live S.table S.moment)) = AllByRecursion-filter (λ r. EntryFits S r.1) later (table.live S.table S.moment) all in
    subst (λ (rs : List Row). AllByRecursion (λ r. EntryFits (at_moment S m) r.1) rs)
    (filter-within (lives S S.moment) later (lives-later S m) S.table.entries)
    (AllByRecursion-weaken (λ r. EntryFits S r.1) (λ r. EntryFits (at_moment S m) r.1) (λ r. entry-later S m r.1) (filter later (table.live S.table S.moment)) kept)

pub steady-later : (S : Ledger) (m : ℕ) → IsSteady S → IsSteady (at_moment S m)
steady-later S m steady = record {
  limits = steady.limits;
  capacity = steady.capacity;
  rooms = rooms-later S m steady.rooms;
  greeting = steady.greeting;
  entries = entries-later S m steady.entries;
}
