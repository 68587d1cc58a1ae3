use Rattle.std.proofs.Common.{cond, None, ◌≡◌, ◌∷◌, ◌∙◌, ◌<◌, true, false, Some, nat_lt, not, filter, drop, length, refl, ap, sym, subst, arith}
use Rattle.std.specs.List.{AllByRecursion}
use Rattle.pending_table.specs.declared.key.Key.{Key}
use Rattle.std.specs.HashMap.{get, hash_map_len}
use Rattle.pending_table.specs.declared.stores.Number.{Number}
use Rattle.pending_table.specs.declared.stores.RowPlace.TheVariants.{Waiting}
use Rattle.pending_table.specs.Table.{same_key, is_waiting}
use Rattle.pending_table.specs.Merged.{Held, rows, Pairs}
use Rattle.pending_table.specs.Stores.{waits, ends_before, same_number, number_of}
use Rattle.pending_table.proofs.Merging.{all_filter}
use Rattle.pending_table.proofs.Dropping.{counted-waiting, keyed-waiting, numbered-waiting, unused-waiting, one_less, first-is_waiting}
use Rattle.pending_table.proofs.stores.Stores.drop_waiting.Goals as goal

pub returns-in-Some-clause-kept : goal.returns-in-Some-clause-kept
returns-in-Some-clause-kept c =
    let s = c.args.self.now in
    let h = c.requires.kept in
    let store = c.pop_first.new.self.entries in
    let first : Held = (c.in-Some.field-0-0, c.in-Some.row) in
    let split : s.waiting.entries ≡ first ∷ store = c.in-Some.ensures.removal in
    let pairs = subst (Pairs (λ p q. p.0 < q.0)) split h.rising in
    let waits_first : nat_lt first.0 s.next ≡ true =
    first-is_waiting s.next first store pairs.0 (subst (λ ps. 0 < length (filter (λ q. nat_lt q.0 s.next) ps)) split c.requires.some) in
    let later = filter (λ q. nat_lt q.0 s.next) store in
    let parts : waits s ≡ first ∷ later = ap (filter (λ q. nat_lt q.0 s.next)) split ∙ rw waits_first refl in
    let above = all_filter (λ q. first.0 < q.0) (λ q. nat_lt q.0 s.next) store pairs.0 in
    let keys = get same_key s.keys in
    let numbers = get same_number s.numbers in
    let keyed = subst (AllByRecursion (λ p. keys p.1.0 ≡ Some (Waiting p.0))) parts h.by_key in
    let numbered = subst (AllByRecursion (λ p. numbers (number_of p.1) ≡ Some p.0)) parts h.by_number in
    let without_key : (r : Key) → get same_key c.swap_remove.new.self r ≡ cond (same_key c.in-Some.row.0 r) None (get same_key s.keys r) =
    subst (λ k. (r : Key) → get same_key c.swap_remove.new.self r ≡ cond (same_key k r) None (get same_key s.keys r)) c.key.ensures c.swap_remove.ensures.updates.0 in
    let without_number : (n : Number) → get same_number c.swap_remove-in-Some.new.self n ≡ cond (same_number (number_of c.in-Some.row) n) None (get same_number s.numbers n) =
    subst (λ k. (n : Number) → get same_number c.swap_remove-in-Some.new.self n ≡ cond (same_number k n) None (get same_number s.numbers n)) c.number.ensures c.swap_remove-in-Some.ensures.updates.0 in
    let fewer = one_less c.swap_remove-in-Some.result (hash_map_len c.swap_remove-in-Some.new.self) (hash_map_len s.numbers) c.swap_remove-in-Some.ensures.len in
    record {
      by_key = keyed-waiting keys (get same_key c.swap_remove.new.self) c.in-Some.row.0 without_key first.0 keyed.0 later above keyed.1;
      by_count = counted-waiting keys (get same_key c.swap_remove.new.self) c.in-Some.row.0 without_key first.0 keyed.0 s.dropped s.settled.items h.by_count;
      by_number = numbered-waiting numbers (get same_number c.swap_remove-in-Some.new.self) first without_number numbered.0 later above numbered.1;
      waiting = (subst (AllByRecursion (λ p. is_waiting p.1.1.answer ≡ true)) parts h.waiting).1;
      answered = h.answered;
      rising = pairs.1;
      older = h.older;
      aged = (subst (λ ps. Pairs (ends_before s) (rows ps)) parts h.aged).1;
      cooled = h.cooled;
      counted = omega (arith, h.counted, ap length parts);
      unused = unused-waiting numbers (get same_number c.swap_remove-in-Some.new.self) first later without_number
          (subst (λ ps. (n : Number) → AllByRecursion (λ q. same_number (number_of q.1) n ≡ false) ps → numbers n ≡ None) parts h.unused);
      numbered = omega (arith, h.numbered, ap length parts, fewer);
      room = omega (arith, h.room, ap length parts);
    }

pub returns-in-Some-clause-rest : goal.returns-in-Some-clause-rest
returns-in-Some-clause-rest c =
    let s = c.args.self.now in
    let store = c.pop_first.new.self.entries in
    let first : Held = (c.in-Some.field-0-0, c.in-Some.row) in
    let split : s.waiting.entries ≡ first ∷ store = c.in-Some.ensures.removal in
    let pairs = subst (Pairs (λ p q. p.0 < q.0)) split c.requires.kept.rising in
    let waits_first : nat_lt first.0 s.next ≡ true =
    first-is_waiting s.next first store pairs.0 (subst (λ ps. 0 < length (filter (λ q. nat_lt q.0 s.next) ps)) split c.requires.some) in
    let same : filter (λ p. not (nat_lt p.0 s.next)) s.waiting.entries ≡ filter (λ p. not (nat_lt p.0 s.next)) store =
    ap (filter (λ p. not (nat_lt p.0 s.next))) split ∙ rw waits_first refl in
    record {
      patience = refl;
      retention = refl;
      next = refl;
      drafts = sym same;
      keys = c.swap_remove.ensures.room.0;
      numbers = c.swap_remove-in-Some.ensures.room.0;
      capacity = refl;
    }

pub returns-in-Some-clause-dropped : goal.returns-in-Some-clause-dropped
returns-in-Some-clause-dropped c =
    let s = c.args.self.now in
    let store = c.pop_first.new.self.entries in
    let first : Held = (c.in-Some.field-0-0, c.in-Some.row) in
    let split : s.waiting.entries ≡ first ∷ store = c.in-Some.ensures.removal in
    let pairs = subst (Pairs (λ p q. p.0 < q.0)) split c.requires.kept.rising in
    let waits_first : nat_lt first.0 s.next ≡ true =
    first-is_waiting s.next first store pairs.0 (subst (λ ps. 0 < length (filter (λ q. nat_lt q.0 s.next) ps)) split c.requires.some) in
    let parts : waits s ≡ first ∷ filter (λ q. nat_lt q.0 s.next) store = ap (filter (λ q. nat_lt q.0 s.next)) split ∙ rw waits_first refl in
    sym (ap (drop 1) parts)
