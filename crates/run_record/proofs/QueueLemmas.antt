-- How a queue holds for one more turn, and what is known of it in the end.
use Rattle.std.proofs.Common.{◌≡◌, ◌≢◌, ◌==◌, cond, true, false, ℕ, zero, suc, List, [], ◌∷◌, ◌++◌, flat_map, Option, Some, None, refl, sym, ap, ◌∙◌, append_assoc, append-nil, arith}
use Rattle.std.specs.Option.{option_to_list}
use Rattle.std.proofs.lemmas.List.{flat_map_more}
use Rattle.turnstile.specs.Turns.{Numbered, StartsWith, Turn, of, plain}
use Rattle.run_record.specs.declared.entry.Entry.{Entry}
use Rattle.run_record.specs.declared.queue.Asked.{Asked}
use Rattle.run_record.specs.declared.queue.Asked.TheVariants.{Put, Take, Stop, End}
use Rattle.run_record.specs.declared.queue.Given.{Given}
use Rattle.run_record.specs.declared.queue.Queue.{Queue}
use Rattle.run_record.specs.Queues.{Acts, HoldsFor, put_at, puts, stop_at, stops, taken_at, takes}

abbrev QueueTurn : Type 0
QueueTurn = Option (Asked × Given)

push : {A : Type 0} (f : QueueTurn → List A) (turns : List QueueTurn) (turn : QueueTurn) → flat_map f (turns ++ turn ∷ []) ≡ flat_map f turns ++ f turn
push f turns turn = sym (flat_map_more f [] turns turn)

-- ---- one more turn

begins-put : (closed : Option ℕ) (old new : Queue) (turns : List QueueTurn) (more : List Entry) → new.closed ≡ closed
    → (new.closed ≡ None → (old.closed ≡ None) × (new.entries ≡ old.entries ++ more))
    → (new.closed ≢ None → new.entries ≡ old.entries) → HoldsFor old turns
    → StartsWith (puts turns ++ more) (takes turns ++ new.entries)
begins-put None old new turns more is kept same h =
    let (was, now) = kept is in (
      [],
      ap (λ xs. xs ++ more) (sym (h.whole was)) ∙ append_assoc (takes turns) old.entries (more) ∙ ap (λ xs. takes turns ++ xs) (sym now)
          ∙ sym (append-nil (takes turns ++ new.entries)),
    )
begins-put (Some moment) old new turns more is kept same h =
    let (rest, whole) = h.begins in
    let still : new.entries ≡ old.entries = same (λ none. cc (is, none)) in (
      rest ++ more,
      ap (λ xs. xs ++ more) whole ∙ append_assoc (takes turns ++ old.entries) rest (more)
          ∙ ap (λ xs. (takes turns ++ xs) ++ (rest ++ more)) (sym still),
    )

none-stopped : (turns : List QueueTurn) (turn : QueueTurn) → stop_at turn ≡ [] → stops turns ≡ [] → stops (turns ++ turn ∷ []) ≡ []
none-stopped turns turn no_stop none = push stop_at turns turn ∙ ap (λ ms. ms ++ stop_at turn) none ∙ no_stop

-- neither put in nor taken out, and no entry came or went
holds-still : (old new : Queue) (turns : List QueueTurn) (turn : QueueTurn) → put_at turn ≡ [] → taken_at turn ≡ [] → new.entries ≡ old.entries
    → (new.closed ≡ None → (old.closed ≡ None) × (stop_at turn ≡ [])) → HoldsFor old turns → HoldsFor new (turns ++ turn ∷ [])
holds-still old new turns turn no_put no_take same opened h =
    let put : puts (turns ++ turn ∷ []) ≡ puts turns = push put_at turns turn ∙ ap (λ xs. puts turns ++ xs) no_put ∙ append-nil (puts turns) in
    let took : takes (turns ++ turn ∷ []) ≡ takes turns = push taken_at turns turn ∙ ap (λ xs. takes turns ++ xs) no_take ∙ append-nil (takes turns) in
    let there : takes (turns ++ turn ∷ []) ++ new.entries ≡ takes turns ++ old.entries = ap (λ xs. xs ++ new.entries) took ∙ ap (λ xs. takes turns ++ xs) same in
    record {
      begins = (h.begins.0, put ∙ h.begins.1 ∙ ap (λ xs. xs ++ h.begins.0) (sym there));
      whole = λ none. there ∙ h.whole (opened none).0 ∙ sym put;
      unstopped = λ none. none-stopped turns turn (opened none).1 (h.unstopped (opened none).0);
    }

pub holds-on : (old new : Queue) (turns : List QueueTurn) (ask : Asked) (given : Given) → Acts ask given.entries old new → HoldsFor old turns
    → HoldsFor new (turns ++ Some (ask, given) ∷ [])
holds-on old new turns (Put entries last) given (none, kept, same) h =
    let turn : QueueTurn = Some (Put entries last, given) in
    let more : List Entry = entries ++ option_to_list last in
    let put : puts (turns ++ turn ∷ []) ≡ puts turns ++ more = push put_at turns turn in
    let took : takes (turns ++ turn ∷ []) ≡ takes turns = push taken_at turns turn ∙ append-nil (takes turns) in
    let (rest, whole) = begins-put new.closed old new turns more refl kept same h in
    record {
      begins = (rest, put ∙ whole ∙ ap (λ xs. (xs ++ new.entries) ++ rest) (sym took));
      whole = λ none.
          ap (λ xs. xs ++ new.entries) took ∙ ap (λ xs. takes turns ++ xs) (kept none).1 ∙ sym (append_assoc (takes turns) old.entries (more))
          ∙ ap (λ xs. xs ++ more) (h.whole (kept none).0) ∙ sym put;
      unstopped = λ none. none-stopped turns turn refl (h.unstopped (kept none).0);
    }
holds-on old new turns (Take room) given (all, empty, closed) h =
    let turn : QueueTurn = Some (Take room, given) in
    let put : puts (turns ++ turn ∷ []) ≡ puts turns = push put_at turns turn ∙ append-nil (puts turns) in
    let took : takes (turns ++ turn ∷ []) ++ new.entries ≡ takes turns ++ old.entries =
    ap (λ xs. xs ++ new.entries) (push taken_at turns turn) ∙ ap (λ xs. (takes turns ++ given.entries) ++ xs) empty ∙ append-nil (takes turns ++ given.entries)
    ∙ ap (λ xs. takes turns ++ xs) all in
    record {
      begins = (h.begins.0, put ∙ h.begins.1 ∙ ap (λ xs. xs ++ h.begins.0) (sym took));
      whole = λ none. took ∙ h.whole (sym closed ∙ none) ∙ sym put;
      unstopped = λ none. none-stopped turns turn refl (h.unstopped (sym closed ∙ none));
    }
holds-on old new turns (Stop moment) given (none, same, closed) h =
    holds-still old new turns (Some (Stop moment, given)) refl refl same (λ open_still. absurd (closed open_still)) h
holds-on old new turns End given (none, same, closed) h =
    holds-still old new turns (Some (End, given)) refl refl same (λ open_still. (sym closed ∙ open_still, refl)) h

-- ---- turns by their numbers

pub no-front : {A : Type 0} (xs ys : List A) → xs ++ ys ≡ [] → xs ≡ []
no-front [] ys none = refl
no-front (x ∷ xs) ys none = cc

pub no-back : {A : Type 0} (xs ys : List A) → xs ++ ys ≡ [] → ys ≡ []
no-back [] ys none = none
no-back (x ∷ xs) ys none = cc

-- what is found in turns that have none of the numbers 1 and 2, and nothing under 3, is found under 0
pub found-first : (f : QueueTurn → List Entry) (turns : List (Turn Asked Given)) → Numbered turns → of 1 turns ≡ [] → of 2 turns ≡ []
    → flat_map f (of 3 turns) ≡ [] → flat_map f (plain turns) ≡ flat_map f (of 0 turns)
found-first f [] numbered one two three = refl
found-first f ((zero, turn) ∷ turns) numbered one two three = ap (λ xs. f turn ++ xs) (found-first f turns numbered.1 one two three)
found-first f ((suc zero, turn) ∷ turns) numbered one two three = cc
found-first f ((suc (suc zero), turn) ∷ turns) numbered one two three = cc
found-first f ((suc (suc (suc zero)), turn) ∷ turns) numbered one two three =
    ap (λ xs. xs ++ flat_map f (plain turns)) (no-front (f turn) (flat_map f (of 3 turns)) three)
    ∙ found-first f turns numbered.1 one two (no-back (f turn) (flat_map f (of 3 turns)) three)
found-first f ((suc (suc (suc (suc n))), turn) ∷ turns) numbered one two three = absurd (omega (arith, numbered.0))

-- and with nothing under 0 it is found under 3
pub found-last : (f : QueueTurn → List Entry) (turns : List (Turn Asked Given)) → Numbered turns → of 1 turns ≡ [] → of 2 turns ≡ []
    → flat_map f (of 0 turns) ≡ [] → flat_map f (plain turns) ≡ flat_map f (of 3 turns)
found-last f [] numbered one two first = refl
found-last f ((zero, turn) ∷ turns) numbered one two first =
    ap (λ xs. xs ++ flat_map f (plain turns)) (no-front (f turn) (flat_map f (of 0 turns)) first)
    ∙ found-last f turns numbered.1 one two (no-back (f turn) (flat_map f (of 0 turns)) first)
found-last f ((suc zero, turn) ∷ turns) numbered one two first = cc
found-last f ((suc (suc zero), turn) ∷ turns) numbered one two first = cc
found-last f ((suc (suc (suc zero)), turn) ∷ turns) numbered one two first = ap (λ xs. f turn ++ xs) (found-last f turns numbered.1 one two first)
found-last f ((suc (suc (suc (suc n))), turn) ∷ turns) numbered one two first = absurd (omega (arith, numbered.0))

-- what isn't found in any turn isn't found under a number
pub none-of : {A : Type 0} (f : QueueTurn → List A) (n : ℕ) (turns : List (Turn Asked Given)) → flat_map f (plain turns) ≡ [] → flat_map f (of n turns) ≡ []
none-of f n [] none = refl
none-of f n (turn ∷ turns) none =
    elim (n == turn.0) as (λ b. flat_map f (cond b (turn.1 ∷ of n turns) (of n turns)) ≡ []) [
      | true ↦ ap (λ xs. xs ++ flat_map f (of n turns)) (no-front (f turn.1) (flat_map f (plain turns)) none)
          ∙ none-of f n turns (no-back (f turn.1) (flat_map f (plain turns)) none)
      | false ↦ none-of f n turns (no-back (f turn.1) (flat_map f (plain turns)) none)
    ]
