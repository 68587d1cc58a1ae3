use Rattle.std.proofs.Common.{◌≡◌, ◌∙◌, ◌+◌, ◌++◌, Some, None, Result, Ok, Err, IsOk, IfOk, is_some, if◌then◌else◌, Option, cond, ℕ, false, ap, sym, subst}
use Rattle.std.specs.HashMap.{get, hash_map_len}
use Rattle.std.specs.List.{AllByRecursion}
use Rattle.pending_table.specs.declared.stores.Number.{Number}
use Rattle.pending_table.specs.declared.key.Key.{Key}
use Rattle.pending_table.specs.declared.stores.RowPlace.TheVariants.{Waiting}
use Rattle.pending_table.specs.Table.{Row, same_key}
use Rattle.pending_table.specs.Stores.{same_number, number_of, waits}
use Rattle.pending_table.proofs.Entering.{kept-entered, waits-entered}
use Rattle.pending_table.proofs.stores.Stores.enter.Goals as goal

-- what an insert that isn't refused does
on_ok : {A E : Type 0} → (r : Result A E) (P : A → Type 0) → IfOk r P → IsOk r → (x : A) × P x
on_ok (Ok x) P h e = (x, h)
on_ok (Err y) P h e = absurd (cc)

-- an insert of a new number makes the index longer
grows :
    {E : Type 0}
    → (r : Result (Option ℕ) E) (now : Option ℕ) (n m : ℕ)
    → IfOk r (λ old. old ≡ now)
    → IfOk r (λ old. m ≡ n + (if is_some old then 0 else 1))
    → IsOk r
    → now ≡ None
    → m ≡ n + 1
grows (Ok None) now n m is len e none = len
grows (Ok (Some x)) now n m is len e none = absurd (let k : Some x ≡ None = is ∙ none in cc)
grows (Err y) now n m is len e none = absurd (cc)

pub returns-clause-kept : goal.returns-clause-kept
returns-clause-kept c =
    let s = c.args.self.now in
    let draft = c.requires.draft in
    let r : Row = (c.args.key, draft.entry) in
    let keys = on_ok c.insert-2.result _ c.insert-2.ensures.updates (c.insert-2.ensures.succeeds c.requires.room.keys) in
    let numbers = on_ok c.insert.result _ c.insert.ensures.updates (c.insert.ensures.succeeds c.requires.room.numbers) in
    let key_updates : (q : Key) → get same_key c.insert-2.new.self q ≡ cond (same_key c.args.key q) (Some (Waiting s.next)) (get same_key s.keys q) = keys.1.0 in
    let number_updates : (q : Number) → get same_number c.insert.new.self q ≡ cond (same_number c.args.number q) (Some s.next) (get same_number s.numbers q) = numbers.1.0 in
    let others = subst (λ n. AllByRecursion (λ p. same_number (number_of p.1) n ≡ false) (waits s)) (sym draft.numbered) draft.follows.number in
    let longer =
    grows c.insert.result (get same_number s.numbers c.args.number) (hash_map_len s.numbers) (hash_map_len c.insert.new.self)
    c.insert.ensures.old c.insert.ensures.len (c.insert.ensures.succeeds c.requires.room.numbers)
    (c.requires.kept.unused c.args.number others)
    in
    kept-entered s c.insert-2.new.self c.insert.new.self r c.requires.kept draft.drafted draft.follows c.requires.room key_updates
    (subst (λ n. (q : Number) → get same_number c.insert.new.self q ≡ cond (same_number n q) (Some s.next) (get same_number s.numbers q)) draft.numbered number_updates)
    longer

pub returns-clause-whole : goal.returns-clause-whole
returns-clause-whole c =
    let s = c.args.self.now in
    let r : Row = (c.args.key, c.requires.draft.entry) in
    (waits-entered s r c.requires.kept.rising c.requires.draft.drafted).0

pub returns-clause-waits : goal.returns-clause-waits
returns-clause-waits c =
    let s = c.args.self.now in
    let r : Row = (c.args.key, c.requires.draft.entry) in
    let e = waits-entered s r c.requires.kept.rising c.requires.draft.drafted in
    e.0 ∙ e.1 ∙ ap (λ l. waits s ++ l) (sym c.requires.draft.drafted)
