-- What is kept goes on to stand for the history, step by step, and the outputs are the rule's.
use Rattle.std.proofs.Common.{◌≡◌, ℕ, ◌+◌, ◌≤◌, Bool, true, false, cond, nat_lt, max, List, [], ◌∷◌, ◌++◌, filter, Result, Ok, Err, refl, sym, ap, ◌∙◌, subst, arith}
use Rattle.std.specs.Prelude.{IfOk, OnOk}
use Rattle.reverse_map.specs.declared.own.Reverse.{Reverse}
use Rattle.reverse_core.specs.declared.events.ReverseInput.{ReverseInput}
use Rattle.reverse_core.specs.declared.events.ReverseOutput.{ReverseOutput}
use Rattle.reverse_core.specs.declared.requests.KeptAnswer.{KeptAnswer}
use Rattle.reverse_core.specs.Requests.{after, answers_by, is_kept}
use Rattle.reverse_core.specs.Places.{ReverseEvent, ReversePlace, now, takings, count, sent_so_far, open_requests, answers, kept_answers}
use Rattle.reverse_core.specs.History.{Outcome, on_input, at_input, place, places, past, outputs_after}
use Rattle.reverse_core.specs.Standing.{ReverseState, ReverseStandsAt, ReverseStandsFor}
use Rattle.reverse_core.specs.State.{takes, kept_in, outcome_of, Leads}
use Rattle.reverse_core.proofs.Opening.{Numbered, numbered-after, count-after, open-after}
use Rattle.reverse_core.proofs.Taking.{fresh-input}

-- ---- numbers

pub numbered-place : (own : Reverse) (ps : List ReversePlace) (e : ReverseEvent) → Numbered ps → Numbered (place own ps e ∷ ps)
numbered-place own ps e all =
    let at = max (now ps) e.moment in
    numbered-after (place own ps e).deed (takings ps) (fresh-input own (open_requests ps) (kept_answers own ps at) (count ps) at e.input) all

pub numbered-places : (own : Reverse) (ps : List ReversePlace) (es : List ReverseEvent) → Numbered ps → Numbered (places own ps es)
numbered-places own ps [] all = all
numbered-places own ps (e ∷ es) all = numbered-places own (place own ps e ∷ ps) es (numbered-place own ps e all)

pub numbered-past : (own : Reverse) (history : List ReverseEvent) → Numbered (past own history)
numbered-past own history = numbered-places own [] history tt

-- ---- what is kept later was kept before

filter-append : (p : KeptAnswer → Bool) (xs ys : List KeptAnswer) → filter p (xs ++ ys) ≡ filter p xs ++ filter p ys
filter-append p [] ys = refl
filter-append p (x ∷ xs) ys =
    elim (p x) as (λ b. cond b (x ∷ filter p (xs ++ ys)) (filter p (xs ++ ys)) ≡ cond b (x ∷ filter p xs) (filter p xs) ++ filter p ys) [
      | true ↦ ap (λ l. x ∷ l) (filter-append p xs ys)
      | false ↦ filter-append p xs ys
    ]

filter-later : (own : Reverse) (n m : ℕ) (ks : List KeptAnswer) → n ≤ m → filter (is_kept own m) (filter (is_kept own n) ks) ≡ filter (is_kept own m) ks
filter-later own n m [] late = refl
filter-later own n m (k ∷ ks) late = by (is_kept own n k) refl (filter-later own n m ks late)
  where
    by : (b : Bool) → is_kept own n k ≡ b → filter (is_kept own m) (filter (is_kept own n) ks) ≡ filter (is_kept own m) ks
        → filter (is_kept own m) (cond b (k ∷ filter (is_kept own n) ks) (filter (is_kept own n) ks)) ≡ filter (is_kept own m) (k ∷ ks)
    by true e rest = ap (λ l. cond (is_kept own m k) (k ∷ l) l) rest
    by false e rest =
        let gone : is_kept own m k ≡ false = (let before : nat_lt n (k.at + own.retention) ≡ false = e in grind arith) in
        rest ∙ sym (ap (λ b. cond b (k ∷ filter (is_kept own m) ks) (filter (is_kept own m) ks)) gone)

-- what is kept at a later moment is the same, where it was the same before
pub kept-later : (own : Reverse) (n m : ℕ) (xs ys : List KeptAnswer) → n ≤ m → filter (is_kept own n) xs ≡ filter (is_kept own n) ys → filter (is_kept own m) xs ≡ filter (is_kept own m) ys
kept-later own n m xs ys late e = sym (filter-later own n m xs late) ∙ ap (filter (is_kept own m)) e ∙ filter-later own n m ys late

-- ---- one step

-- the step is the place
record Simulates (own : Reverse) (ps : List ReversePlace) (p : ReversePlace) (T : ReverseState) (outs : List ReverseOutput) : Type 0 where
  pub outputs : outs ≡ p.outputs
  pub stands : ReverseStandsAt (p ∷ ps) T
  pub own_is : T.own ≡ own

outcome-agrees : (ps : List ReversePlace) (S : ReverseState) (at : ℕ) (input : ReverseInput) → ReverseStandsAt ps S → now ps ≤ at
    → outcome_of S at input ≡ on_input S.own (open_requests ps) (kept_answers S.own ps at) (count ps) at input
outcome-agrees ps S at input s late =
    ap (λ os. on_input S.own os (kept_in S at) S.count at input) s.open_ones
    ∙ ap (λ ks. on_input S.own (open_requests ps) ks S.count at input) (kept-later S.own (now ps) at S.kept (answers S.own ps) late s.kept)
    ∙ ap (λ n. on_input S.own (open_requests ps) (kept_answers S.own ps at) n at input) s.count

input-simulates : (ps : List ReversePlace) (S T : ReverseState) (at : ℕ) (input : ReverseInput) (outs : List ReverseOutput) → ReverseStandsAt ps S → Numbered ps → now ps ≤ at
    → Leads at (outcome_of S at input) S T outs → Simulates S.own ps (at_input S.own ps at input) T outs
input-simulates ps S T at input outs s numbered late leads =
    let o = on_input S.own (open_requests ps) (kept_answers S.own ps at) (count ps) at input in
    let is : Leads at o S T outs = subst (λ (x : Outcome). Leads at x S T outs) (outcome-agrees ps S at input s late) leads in
    let p = at_input S.own ps at input in
    let d = is.done in
    let kept : filter (is_kept S.own at) T.kept ≡ filter (is_kept S.own at) (answers S.own ps ++ answers_by S.own o.deed at (open_requests ps)) =
    sym (ap (λ (w : Reverse). filter (is_kept w at) T.kept) d.own) ∙ d.kept
    ∙ filter-append (is_kept S.own at) S.kept (answers_by S.own o.deed at S.open_ones)
    ∙ ap (λ l. l ++ filter (is_kept S.own at) (answers_by S.own o.deed at S.open_ones)) (kept-later S.own (now ps) at S.kept (answers S.own ps) late s.kept)
    ∙ ap (λ os. filter (is_kept S.own at) (answers S.own ps) ++ filter (is_kept S.own at) (answers_by S.own o.deed at os)) s.open_ones
    ∙ sym (filter-append (is_kept S.own at) (answers S.own ps) (answers_by S.own o.deed at (open_requests ps))) in
    record {
      outputs = is.outputs;
      stands = record {
        count = d.count ∙ ap (λ n. n + takes o.deed) s.count ∙ count-after o.deed (takings ps);
        open_ones = d.open_ones ∙ ap (after o.deed at) s.open_ones
            ∙ open-after o.deed at (λ t. sent_so_far t ps) (takings ps) (fresh-input S.own (open_requests ps) (kept_answers S.own ps at) (count ps) at input) numbered;
        kept = subst (λ (w : Reverse). filter (is_kept w at) T.kept ≡ filter (is_kept w at) (answers w (p ∷ ps))) (sym d.own) kept;
        moment = d.moment;
      };
      own_is = d.own;
    }

-- ---- histories

pub places-append : (own : Reverse) (ps : List ReversePlace) (es : List ReverseEvent) (e : ReverseEvent) → places own ps (es ++ e ∷ []) ≡ place own (places own ps es) e ∷ places own ps es
places-append own ps [] e = refl
places-append own ps (x ∷ es) e = places-append own (place own ps x ∷ ps) es e

-- the step after a history
record HistorySteps (S T : ReverseState) (history : List ReverseEvent) (e : ReverseEvent) (outs : List ReverseOutput) : Type 0 where
  pub outputs : outs ≡ outputs_after S.own history e
  pub stands : ReverseStandsFor T (history ++ e ∷ [])

max-left : (n m : ℕ) → n ≤ max n m
max-left n m = omega arith

history-steps : (S T : ReverseState) (history : List ReverseEvent) (e : ReverseEvent) (outs : List ReverseOutput) → ReverseStandsFor S history
    → Leads (max S.moment e.moment) (outcome_of S (max S.moment e.moment) e.input) S T outs → HistorySteps S T history e outs
history-steps S T history e outs s leads =
    let ps = past S.own history in
    let at = max (now ps) e.moment in
    let leads' = subst (λ n. Leads (max n e.moment) (outcome_of S (max n e.moment) e.input) S T outs) s.moment leads in
    let p = input-simulates ps S T at e.input outs s (numbered-past S.own history) (max-left (now ps) e.moment) leads' in
    record {
      outputs = p.outputs;
      stands = subst (λ (w : Reverse). ReverseStandsAt (past w (history ++ e ∷ [])) T) (sym p.own_is)
          (subst (λ qs. ReverseStandsAt qs T) (sym (places-append S.own [] history e)) p.stands);
    }

-- ---- what a call says

pub answers-of : {E : Type 0} → (r : Result (List ReverseOutput) E) (S T : ReverseState) (history : List ReverseEvent) (e : ReverseEvent) → ReverseStandsFor S history
    → IfOk r (Leads (max S.moment e.moment) (outcome_of S (max S.moment e.moment) e.input) S T) → IfOk r (λ o. o ≡ outputs_after S.own history e)
answers-of (Ok o) S T history e s leads = (history-steps S T history e o s leads).outputs
answers-of (Err x) S T history e s leads = tt

pub stands-of : {E : Type 0} → (r : Result (List ReverseOutput) E) (S T : ReverseState) (history : List ReverseEvent) (e : ReverseEvent) → ReverseStandsFor S history
    → IfOk r (Leads (max S.moment e.moment) (outcome_of S (max S.moment e.moment) e.input) S T) → OnOk r (ReverseStandsFor T (history ++ e ∷ []))
stands-of (Ok o) S T history e s leads = (history-steps S T history e o s leads).stands
stands-of (Err x) S T history e s leads = tt
