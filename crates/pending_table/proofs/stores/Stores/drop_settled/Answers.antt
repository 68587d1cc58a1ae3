use Rattle.std.proofs.Common.{cond, None, ◌≡◌, ◌∷◌, ◌+◌, ◌<◌, false, length, ap, subst, arith}
use Rattle.std.specs.List.{AllByRecursion}
use Rattle.pending_table.specs.declared.key.Key.{Key}
use Rattle.std.specs.HashMap.{get}
use Rattle.pending_table.specs.Table.{same_key, is_waiting}
use Rattle.pending_table.specs.Merged.{Held, rows, Pairs}
use Rattle.pending_table.specs.Stores.{CountedFrom, waits, ends_before}
use Rattle.pending_table.proofs.Dropping.{counted-settled, keyed-settled}
use Rattle.pending_table.proofs.stores.Stores.drop_settled.Goals as goal

pub returns-in-Some-clause-kept : goal.returns-in-Some-clause-kept
returns-in-Some-clause-kept c =
    let s = c.args.self.now in
    let h = c.requires in
    let later = c.pop_front.new.self.items in
    let first : Held = (c.in-Some.field-0-0, c.in-Some.row) in
    let split : s.settled.items ≡ first ∷ later = c.in-Some.ensures.items in
    let before = get same_key s.keys in
    let after = get same_key c.swap_remove.new.self in
    let updates : (r : Key) → get same_key c.swap_remove.new.self r ≡ cond (same_key c.in-Some.row.0 r) None (get same_key s.keys r) =
    subst (λ k. (r : Key) → get same_key c.swap_remove.new.self r ≡ cond (same_key k r) None (get same_key s.keys r)) c.key.ensures c.swap_remove.ensures.updates.0 in
    let counts = subst (CountedFrom before s.dropped) split h.by_count in
    record {
      by_key = keyed-settled before after c.in-Some.row.0 updates s.dropped counts.0 (waits s) h.by_key;
      by_count = counted-settled before after c.in-Some.row.0 updates s.dropped counts.0 (s.dropped + 1) later (omega arith) counts.1;
      by_number = h.by_number;
      waiting = h.waiting;
      answered = (subst (AllByRecursion (λ x. is_waiting x.1.1.answer ≡ false)) split h.answered).1;
      rising = h.rising;
      older = (subst (AllByRecursion (λ x. x.0 < s.next)) split h.older).1;
      aged = h.aged;
      cooled = (subst (λ xs. Pairs (ends_before s) (rows xs)) split h.cooled).1;
      counted = omega (arith, h.counted, ap length split);
      unused = h.unused;
      numbered = h.numbered;
      room = omega (arith, h.room, ap length split, c.pop_front.ensures.capacity);
    }
