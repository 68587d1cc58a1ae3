use Rattle.std.proofs.Common.{◌≡◌, ◌∙◌, ◌+◌, ◌≤◌, ◌∷◌, [], ◌++◌, ℕ, cond, Option, Some, None, is_some, IsSome, List, length, refl, ap, sym, subst, arith, MutBor}
use Rattle.std.proofs.lemmas.List.{length-append}
use Rattle.std.specs.Option.{option_copied_mut}
use Rattle.std.specs.List.{AllByRecursion}
use Rattle.std.specs.HashMap.{get, hash_map_len}
use Rattle.pending_table.specs.declared.key.Key.{Key}
use Rattle.pending_table.specs.declared.stores.Number.{Number}
use Rattle.pending_table.specs.declared.stores.RowPlace.{RowPlace}
use Rattle.pending_table.specs.declared.stores.RowPlace.TheVariants.{Waiting, Settled}
use Rattle.pending_table.specs.Table.{Row, same_key, ends}
use Rattle.pending_table.specs.Merged.{Held, rows}
use Rattle.pending_table.specs.Stores.{waits, waiting_at, same_number, number_of, ends_before}
use Rattle.pending_table.proofs.Dropping.{one_less}
use Rattle.pending_table.proofs.Settling.{Split, split, awaited, asked_for, key_at, ends_settled, kept-settled, whole-settled, rows-settled}
use Rattle.pending_table.proofs.stores.Stores.settle.Goals as goal

-- an index that has the key finds it
gone : (o : Option (MutBor RowPlace)) (place : RowPlace) → ((x : MutBor RowPlace) → o ≡ Some x → ⊥) → option_copied_mut o ≡ Some place → ⊥
gone None place none found = absurd cc
gone (Some x) place none found = none x refl

pub returns-in_default-get_mut-clause-kept : goal.returns-in_default-get_mut-clause-kept
returns-in_default-get_mut-clause-kept c =
    let s = c.args.self.now in
    let n = c.in-Some.serial in
    let r : Row = c.in-Some-remove.row in
    let asked : Number = record { link = c.args.link; number = c.args.number } in
    let hint : get same_number s.numbers asked ≡ Some n = sym c.swap_remove.ensures.value ∙ c.in-Some.is in
    let found : waiting_at s n ≡ Some r = sym c.remove.ensures.value ∙ c.in-Some-remove.is in
    let parts : Split n r s.waiting.entries = split n r s.waiting.entries c.requires.kept.rising found in
    let at : get same_key s.keys c.in-Some-remove.row.0 ≡ Some (Waiting n) = key_at s n r c.requires.kept c.requires.whole parts in
    let value : option_copied_mut c.get_mut.result ≡ Some (Waiting n) = c.get_mut.ensures.value ∙ ap (get same_key s.keys) c.key.ensures ∙ at in
    absurd (gone c.get_mut.result (Waiting n) c.in_default-get_mut.not-Some value)

pub returns-in_default-get_mut-clause-whole : goal.returns-in_default-get_mut-clause-whole
returns-in_default-get_mut-clause-whole c =
    let s = c.args.self.now in
    let n = c.in-Some.serial in
    let r : Row = c.in-Some-remove.row in
    let asked : Number = record { link = c.args.link; number = c.args.number } in
    let hint : get same_number s.numbers asked ≡ Some n = sym c.swap_remove.ensures.value ∙ c.in-Some.is in
    let found : waiting_at s n ≡ Some r = sym c.remove.ensures.value ∙ c.in-Some-remove.is in
    let parts : Split n r s.waiting.entries = split n r s.waiting.entries c.requires.kept.rising found in
    let at : get same_key s.keys c.in-Some-remove.row.0 ≡ Some (Waiting n) = key_at s n r c.requires.kept c.requires.whole parts in
    let value : option_copied_mut c.get_mut.result ≡ Some (Waiting n) = c.get_mut.ensures.value ∙ ap (get same_key s.keys) c.key.ensures ∙ at in
    absurd (gone c.get_mut.result (Waiting n) c.in_default-get_mut.not-Some value)

pub returns-in_default-get_mut-clause-rows : goal.returns-in_default-get_mut-clause-rows
returns-in_default-get_mut-clause-rows c =
    let s = c.args.self.now in
    let n = c.in-Some.serial in
    let r : Row = c.in-Some-remove.row in
    let asked : Number = record { link = c.args.link; number = c.args.number } in
    let hint : get same_number s.numbers asked ≡ Some n = sym c.swap_remove.ensures.value ∙ c.in-Some.is in
    let found : waiting_at s n ≡ Some r = sym c.remove.ensures.value ∙ c.in-Some-remove.is in
    let parts : Split n r s.waiting.entries = split n r s.waiting.entries c.requires.kept.rising found in
    let at : get same_key s.keys c.in-Some-remove.row.0 ≡ Some (Waiting n) = key_at s n r c.requires.kept c.requires.whole parts in
    let value : option_copied_mut c.get_mut.result ≡ Some (Waiting n) = c.get_mut.ensures.value ∙ ap (get same_key s.keys) c.key.ensures ∙ at in
    absurd (gone c.get_mut.result (Waiting n) c.in_default-get_mut.not-Some value)

-- what is pushed has its answer
pushed : (xs ys : List Held) (n : ℕ) {row answered : Row} → ys ≡ xs ++ (n, row) ∷ [] → row ≡ answered → ys ≡ xs ++ (n, answered) ∷ []
pushed xs ys n items is = items ∙ ap (λ r. xs ++ (n, r) ∷ []) is

-- what the push leaves is kept
pub returns-clause-kept : goal.returns-clause-kept
returns-clause-kept c =
    let s = c.args.self.now in
    let n = c.in-Some.serial in
    let r : Row = c.in-Some-remove.row in
    let asked : Number = record { link = c.args.link; number = c.args.number } in
    let hint : get same_number s.numbers asked ≡ Some n = sym c.swap_remove.ensures.value ∙ c.in-Some.is in
    let found : waiting_at s n ≡ Some r = sym c.remove.ensures.value ∙ c.in-Some-remove.is in
    let parts : Split n r s.waiting.entries = split n r s.waiting.entries c.requires.kept.rising found in
    let count = s.dropped + c.len.result in
    let at : get same_key s.keys c.in-Some-remove.row.0 ≡ Some (Waiting n) = key_at s n r c.requires.kept c.requires.whole parts in
    let there : IsSome (get same_key s.keys c.key.result.now) = ap is_some (ap (get same_key s.keys) c.key.ensures ∙ at) in
    let key_updates : (q : Key) → get same_key (c.get_mut.follows.lender (Settled count)) q ≡ cond (same_key c.in-Some-remove.row.0 q) (Some (Settled count)) (get same_key s.keys q) =
    subst (λ k. (q : Key) → get same_key (c.get_mut.follows.lender (Settled count)) q ≡ cond (same_key k q) (Some (Settled count)) (get same_key s.keys q)) c.key.ensures
    ((c.get_mut.follows.holds (Settled count)).3 there).0 in
    let same : number_of r ≡ asked = asked_for c.args.link c.args.number r (awaited s c.args.link c.args.number n r hint found c.requires.found) in
    let number_updates : (q : Number) → get same_number c.swap_remove.new.self q ≡ cond (same_number (number_of r) q) None (get same_number s.numbers q) =
    subst (λ k. (q : Number) → get same_number c.swap_remove.new.self q ≡ cond (same_number k q) None (get same_number s.numbers q)) (sym same) c.swap_remove.ensures.updates.0 in
    let fewer = one_less c.swap_remove.result (hash_map_len c.swap_remove.new.self) (hash_map_len s.numbers) c.swap_remove.ensures.len in
    let items : length c.as_slices.result.0.now + length c.as_slices.result.1.now ≡ length s.settled.items = sym (length-append c.as_slices.result.0.now c.as_slices.result.1.now) ∙ ap length c.as_slices.ensures.items in
    let counts : count ≡ s.dropped + length s.settled.items = omega (arith, c.len.ensures, c.as_slices.ensures.len, items) in
    let last : AllByRecursion (λ t. ends_before s t (r.0, record r.1 { answer = c.args.answer })) (rows s.settled.items) =
    subst (λ e. AllByRecursion (λ t. ends s.patience s.retention t.1.taken t.1.answer ≤ e) (rows s.settled.items)) (ends_settled s.patience s.retention 0 r.1.taken c.args.answer c.requires.answered) c.requires.last in
    kept-settled s n count r c.args.answer (c.get_mut.follows.lender (Settled count)) c.swap_remove.new.self c.remove.new.self c.push_back_reserved.new.self
    c.requires.kept c.requires.whole parts (c.remove.ensures.entries ∙ parts.removed) (pushed s.settled.items c.push_back_reserved.new.self.items n c.push_back_reserved.ensures.items c.set_answer.ensures.row) c.push_back_reserved.ensures.capacity
    key_updates number_updates fewer counts c.requires.answered last

pub returns-clause-whole : goal.returns-clause-whole
returns-clause-whole c =
    let s = c.args.self.now in
    let n = c.in-Some.serial in
    let r : Row = c.in-Some-remove.row in
    let asked : Number = record { link = c.args.link; number = c.args.number } in
    let hint : get same_number s.numbers asked ≡ Some n = sym c.swap_remove.ensures.value ∙ c.in-Some.is in
    let found : waiting_at s n ≡ Some r = sym c.remove.ensures.value ∙ c.in-Some-remove.is in
    let parts : Split n r s.waiting.entries = split n r s.waiting.entries c.requires.kept.rising found in
    whole-settled s n r c.remove.new.self c.requires.whole parts (c.remove.ensures.entries ∙ parts.removed) ∙ sym (c.remove.ensures.entries ∙ parts.removed)

pub returns-clause-rows : goal.returns-clause-rows
returns-clause-rows c =
    let s = c.args.self.now in
    let n = c.in-Some.serial in
    let r : Row = c.in-Some-remove.row in
    let asked : Number = record { link = c.args.link; number = c.args.number } in
    let hint : get same_number s.numbers asked ≡ Some n = sym c.swap_remove.ensures.value ∙ c.in-Some.is in
    let found : waiting_at s n ≡ Some r = sym c.remove.ensures.value ∙ c.in-Some-remove.is in
    let parts : Split n r s.waiting.entries = split n r s.waiting.entries c.requires.kept.rising found in
    rows-settled s c.args.link c.args.number n r c.args.answer (waits (record s { waiting = c.remove.new.self })) c.push_back_reserved.new.self.items c.requires.kept c.requires.whole parts
    hint (awaited s c.args.link c.args.number n r hint found c.requires.found)
    (whole-settled s n r c.remove.new.self c.requires.whole parts (c.remove.ensures.entries ∙ parts.removed)) (pushed s.settled.items c.push_back_reserved.new.self.items n c.push_back_reserved.ensures.items c.set_answer.ensures.row)
