-- A row's draft goes in and the dead rows go out.
use Rattle.std.proofs.Common.{◌≡◌, ℕ, ◌<◌, ◌≤◌, nat_lt, List, [], ◌∷◌, ◌++◌, filter, length, ap, sym, ◌∙◌, arith, Result, Ok, Err, OnErr}
use Rattle.std.specs.List.{AllByRecursion}
use Rattle.std.specs.HashMap.{spare}
use Rattle.std.specs.VecDeque.{deque_capacity}
use Rattle.pending_table.specs.declared.stores.Stores.{Stores}
use Rattle.pending_table.specs.Table.{Row, is_live as entry_is_live}
use Rattle.pending_table.specs.Merged.{Held, merged, rows, Pairs, Rising}
use Rattle.pending_table.specs.Stores.{IsKept, IsWhole, waits, all, drafts, is_live, HasSameTimes, HasSameRows, HasSameIndexes, HasSameList, HasRoom, KeepsRest, IsPrepared}
use Rattle.pending_table.proofs.Merging.{all_filter, all_weaker, merged-last, filter-merged, filter-rows}
use Rattle.pending_table.proofs.Hints.{pairs_filter}
use Rattle.pending_table.proofs.Entering.{filter_short, rows-last}

pub on_err : {A E P : Type 0} → (r : Result A E) → P → OnErr r P
on_err (Ok x) p = tt
on_err (Err e) p = p

pub same_waits : (s t : Stores) → HasSameRows s t → waits t ≡ waits s
same_waits s t same =
    ap (λ n. filter (λ p. nat_lt p.0 n) t.waiting.entries) same.next ∙ ap (λ w. filter (λ p. nat_lt p.0 s.next) w.entries) same.waiting

pub same_all : (s t : Stores) → waits t ≡ waits s → t.settled.items ≡ s.settled.items → all t ≡ all s
same_all s t waiting settled =
    ap (λ ps. rows (merged ps t.settled.items)) waiting ∙ ap (λ xs. rows (merged (waits s) xs)) settled

pub list-room : (s t : Stores) → IsWhole s → HasSameRows s t → HasSameList s t
list-room s t whole same = record {
  whole = same_waits s t same ∙ whole ∙ ap (λ w. w.entries) (sym same.waiting);
  rows_are = same_all s t (same_waits s t same) same.settled;
}

pub times_then : (s t u : Stores) → HasSameTimes s t → HasSameTimes t u → HasSameTimes s u
times_then s t u a b = record { patience = b.patience ∙ a.patience; retention = b.retention ∙ a.retention }

pub rest_times : (s t : Stores) → KeepsRest s t → HasSameTimes s t
rest_times s t rest = record { patience = rest.patience; retention = rest.retention }

pub live_same : (s t : Stores) (moment : ℕ) (ps : List Held) → HasSameTimes s t → filter (λ p. is_live t moment p.1) ps ≡ filter (λ p. is_live s moment p.1) ps
live_same s t moment ps same =
    ap (λ n. filter (λ p. entry_is_live n t.retention moment p.1.1) ps) same.patience
    ∙ ap (λ n. filter (λ p. entry_is_live s.patience n moment p.1.1) ps) same.retention

-- the four states: with room, with the draft, without the dead rows that wait, without the dead settled ones
pub prepared :
    (s a b c d : Stores) (moment : ℕ) (r : Row)
    → HasSameRows s a
    → HasRoom a
    → HasSameIndexes a b
    → waits b ≡ waits a
    → drafts b ≡ (a.next, r) ∷ []
    → KeepsRest b c
    → waits c ≡ filter (λ p. is_live b moment p.1) (waits b)
    → c.settled.items ≡ b.settled.items
    → KeepsRest c d
    → d.settled.items ≡ filter (λ x. is_live c moment x.1) c.settled.items
    → waits d ≡ waits c
    → IsPrepared s moment r d
prepared s a b c d moment r rows_same room indexes_same waits_same drafted rest_c live_c settled_c rest_d live_d waits_d = record {
  drafted = rest_d.drafts ∙ rest_c.drafts ∙ drafted ∙ ap (λ n. (n, r) ∷ []) (sym (rest_d.next ∙ rest_c.next ∙ indexes_same.next));
  waiting = waiting;
  settled = settled;
  room = record {
    keys = let k : spare b.keys ≡ spare a.keys = ap spare indexes_same.keys in omega (arith, room.keys, k, rest_c.keys, rest_d.keys);
    numbers = let k : spare b.numbers ≡ spare a.numbers = ap spare indexes_same.numbers in omega (arith, room.numbers, k, rest_c.numbers, rest_d.numbers);
    settled =
        let capacity : deque_capacity d.settled ≡ deque_capacity a.settled = rest_d.capacity ∙ rest_c.capacity ∙ ap deque_capacity indexes_same.settled in
        let less : length d.settled.items ≤ length a.settled.items =
        omega (arith, ap length settled, filter_short (λ x. is_live s moment x.1) s.settled.items, ap length rows_same.settled) in
        let fewer : length (waits d) ≤ length (waits a) =
        omega (arith, ap length waiting, filter_short (λ p. is_live s moment p.1) (waits s), ap length (same_waits s a rows_same)) in
        omega (arith, room.settled, capacity, less, fewer);
  };
}
  where
    times_b : HasSameTimes s b
    times_b = times_then s a b rows_same.times indexes_same.times

    waiting : waits d ≡ filter (λ p. is_live s moment p.1) (waits s)
    waiting =
        waits_d ∙ live_c ∙ live_same s b moment (waits b) times_b
        ∙ ap (filter (λ p. is_live s moment p.1)) (waits_same ∙ same_waits s a rows_same)

    settled : d.settled.items ≡ filter (λ x. is_live s moment x.1) s.settled.items
    settled =
        live_d ∙ live_same s c moment c.settled.items (times_then s b c times_b (rest_times b c rest_c))
        ∙ ap (filter (λ x. is_live s moment x.1)) (settled_c ∙ ap (λ q. q.items) indexes_same.settled ∙ rows_same.settled)

-- the list with one more row

pairs_weaker : (R Q : Held → Held → Type 0) (ps : List Held) → ((p q : Held) → R p q → Q p q) → Pairs R ps → Pairs Q ps
pairs_weaker R Q [] f h = tt
pairs_weaker R Q (p ∷ ps) f h = (all_weaker (R p) (Q p) ps (f p) h.0, pairs_weaker R Q ps f h.1)

pub rising_waits : (s : Stores) → IsKept s → Rising (waits s)
rising_waits s h =
    pairs_weaker (λ p q. p.0 < q.0) (λ p q. p.0 ≤ q.0) (waits s) (λ p q less. omega (arith, less))
    (pairs_filter (λ p q. p.0 < q.0) (λ p. nat_lt p.0 s.next) s.waiting.entries h.rising)

pub admitted-list :
    (s d e : Stores) (moment : ℕ) (r : Row)
    → IsKept s
    → IsPrepared s moment r d
    → d.next ≡ s.next
    → waits e ≡ waits d ++ drafts d
    → e.settled.items ≡ d.settled.items
    → all e ≡ filter (is_live s moment) (all s) ++ r ∷ []
admitted-list s d e moment r h done next waiting settled =
    same_all_as (waits e) e.settled.items (left ++ (d.next, r) ∷ []) right
    (waiting ∙ ap (λ l. waits d ++ l) done.drafted ∙ ap (λ l. l ++ (d.next, r) ∷ []) done.waiting) (settled ∙ done.settled)
    ∙ ap rows (merged-last (d.next, r) left right older)
    ∙ rows-last (merged left right) (d.next, r)
    ∙ ap (λ l. l ++ r ∷ [])
    (ap rows (sym (filter-merged (λ p. is_live s moment p.1) (waits s) s.settled.items (rising_waits s h)))
    ∙ sym (filter-rows (is_live s moment) (merged (waits s) s.settled.items)))
  where
    left : List Held
    left = filter (λ p. is_live s moment p.1) (waits s)

    right : List Held
    right = filter (λ x. is_live s moment x.1) s.settled.items

    same_all_as : (ps xs qs ys : List Held) → ps ≡ qs → xs ≡ ys → rows (merged ps xs) ≡ rows (merged qs ys)
    same_all_as ps xs qs ys a b = ap (λ l. rows (merged l xs)) a ∙ ap (λ l. rows (merged qs l)) b

    older : AllByRecursion (λ x. x.0 < d.next) right
    older =
        all_filter (λ x. x.0 < d.next) (λ x. is_live s moment x.1) s.settled.items
        (all_weaker (λ x. x.0 < s.next) (λ x. x.0 < d.next) s.settled.items (λ x less. omega (arith, less, next)) h.older)
