-- Each law, place by place.
use Rattle.std.proofs.Common.{◌≡◌, ℕ, ◌+◌, ◌%◌, ◌≤◌, ◌<◌, Bool, true, false, cond, eqb, List, [], ◌∷◌, ◌++◌, max, Option, Some, None, refl, sym, ap, ◌∙◌, subst, arith}
use Rattle.std.specs.Prelude.{count_by, is_some}
use Rattle.std.specs.List.{AllByRecursion as Each, list_any}
use Rattle.std.proofs.lemmas.Bool.{eqb-true}
use Rattle.std.proofs.lemmas.List.Sums.{sum_by-append}
use Rattle.reverse_map.specs.declared.own.Reverse.{Reverse}
use Rattle.reverse_map.specs.Asked.{direction_of}
use Rattle.reverse_map.specs.Requests.{request_image}
use Rattle.reverse_core.specs.declared.events.ReverseInput.{ReverseInput}
use Rattle.reverse_core.specs.declared.events.ReverseInput.TheVariants as inputs
use Rattle.reverse_core.specs.declared.events.ReverseOutput.{ReverseOutput}
use Rattle.reverse_core.specs.declared.events.ReverseOutput.TheVariants.{Send, Answer}
use Rattle.reverse_core.specs.declared.requests.Taken.{Taken}
use Rattle.reverse_core.specs.declared.requests.Sent.{Sent}
use Rattle.reverse_core.specs.Keys.{same_key, key_of}
use Rattle.reverse_core.specs.Requests.{Deed, Nothing, Takes, Repeats, Closes, Ticks, first_sent, is_due, is_last, silence}
use Rattle.reverse_core.specs.Places.{ReverseEvent, ReversePlace, now, count, sent_after, sent_so_far, open_requests, kept_answers}
use Rattle.reverse_core.specs.History.{with_hop, at_input, place, places, past}
use Rattle.reverse_core.specs.Laws.{said_by, said_at, said_so_far, is_send, IsLimited, IsOfIts, IsOfInput, IsFree}
use Rattle.reverse_core.proofs.KnownLemmas.{find-any}
use Rattle.reverse_core.proofs.Members.{each-append}
use Rattle.reverse_core.proofs.Opening.{IsFresh}
use Rattle.reverse_core.proofs.Taking.{TakesUp, IsNoTake, fresh-input, new-unknown, none-reply, takes-request}
use Rattle.reverse_core.proofs.Spoken.{Sound, sound-event, sound-none}

-- ---- the same octets

same-if : (t : Taken) (b : Bool) → Each (IsOfIts t) (cond b (Send t.sent ∷ []) [])
same-if t true = (refl, tt)
same-if t false = tt

answer-if : (t : Taken) (a : List ℕ) (b : Bool) → Each (IsOfIts t) (cond b (Answer a ∷ []) [])
answer-if t a true = (tt, tt)
answer-if t a false = tt

same-overdue : (own : Reverse) (t : Taken) (due last : Bool) → Each (IsOfIts t) (cond due (cond last (Answer (silence own t)) (Send t.sent) ∷ []) [])
same-overdue own t true true = (tt, tt)
same-overdue own t true false = (refl, tt)
same-overdue own t false last = tt

same-said : (own : Reverse) (at : ℕ) (t : Taken) (before : Option Sent) (d : Deed) → Each (IsOfIts t) (said_by own at t before d)
same-said own at t before Nothing = tt
same-said own at t before (Takes u) = same-if t (eqb t.number u.number)
same-said own at t before (Repeats k hop) = answer-if t (with_hop hop k.answer) (eqb t.number k.number)
same-said own at t before (Closes u answer) = answer-if t answer (eqb t.number u.number)
same-said own at t None Ticks = tt
same-said own at t (Some s) Ticks = same-overdue own t (is_due at s) (is_last s)

same-far : (own : Reverse) (t : Taken) (ps : List ReversePlace) → Each (IsOfIts t) (said_so_far own t ps)
same-far own t [] = tt
same-far own t (p ∷ ps) =
    each-append (IsOfIts t) (said_so_far own t ps) (said_at own ps p t) (same-far own t ps) (same-said own p.moment t (sent_so_far t ps) p.deed)

pub each-same : (own : Reverse) (ps : List ReversePlace) (list : List Taken) → Each (λ t. Each (IsOfIts t) (said_so_far own t ps)) list
each-same own ps [] = tt
each-same own ps (t ∷ list) = (same-far own t ps, each-same own ps list)

-- ---- how many

count-append : (xs ys : List ReverseOutput) → count_by is_send (xs ++ ys) ≡ count_by is_send xs + count_by is_send ys
count-append xs ys = sum_by-append (λ x. cond (is_send x) 1 0) xs ys

-- by what was sent of a request: so many packets
abbrev Tally : Option Sent → ℕ → Type 0
Tally None n = n ≤ 3
Tally (Some s) n = (n ≡ s.times) × (s.times ≤ 3)

abbrev TallyWith : Reverse → ℕ → Taken → Option Sent → Deed → ℕ → Type 0
TallyWith own at t before d n = Tally (sent_after d at t before) (n + count_by is_send (said_by own at t before d))

still : (before : Option Sent) (n : ℕ) → Tally before n → Tally before (n + 0)
still None n tally = omega (arith, tally)
still (Some s) n tally = (omega (arith, tally.0), tally.1)

tally-takes : (at : ℕ) (t u : Taken) (before : Option Sent) (n : ℕ) (same : Bool) → eqb t.number u.number ≡ same → (t.number ≡ u.number → n ≡ 0) → Tally before n
    → Tally (cond same (Some (first_sent at)) before) (n + count_by is_send (cond same (Send t.sent ∷ []) []))
tally-takes at t u before n true e none tally = (omega (arith, none (eqb-true _ _ e)), omega arith)
tally-takes at t u before n false e none tally = still before n tally

tally-answer : (before : Option Sent) (n : ℕ) (a : List ℕ) (b : Bool) → Tally before n → Tally before (n + count_by is_send (cond b (Answer a ∷ []) []))
tally-answer None n a true tally = omega (arith, tally)
tally-answer None n a false tally = omega (arith, tally)
tally-answer (Some s) n a true tally = (omega (arith, tally.0), tally.1)
tally-answer (Some s) n a false tally = (omega (arith, tally.0), tally.1)

tally-none : (before : Option Sent) (n : ℕ) → Tally before n → n ≤ 3
tally-none None n tally = tally
tally-none (Some s) n tally = omega (arith, tally.0, tally.1)

tally-closes : (before : Option Sent) (n : ℕ) (a : List ℕ) (b : Bool) → Tally before n → Tally (cond b None before) (n + count_by is_send (cond b (Answer a ∷ []) []))
tally-closes before n a true tally = omega (arith, tally-none before n tally)
tally-closes before n a false tally = still before n tally

tally-due : (own : Reverse) (at : ℕ) (t : Taken) (s : Sent) (n : ℕ) (due last : Bool) → is_due at s ≡ due → is_last s ≡ last
    → Tally (Some s) n → TallyWith own at t (Some s) Ticks n
tally-due own at t s n false last e f tally = rw e (omega (arith, tally.0), tally.1)
tally-due own at t s n true true e f tally = rw (e, f) (omega (arith, tally.0, tally.1))
tally-due own at t s n true false e f tally =
    let low : s.times < 3 = grind arith in
    rw (e, f) (omega (arith, tally.0), omega (arith, low))

tally-step : (own : Reverse) (at : ℕ) (t : Taken) (before : Option Sent) (d : Deed) (n m : ℕ) → IsFresh d m → (m ≤ t.number → n ≡ 0) → Tally before n → TallyWith own at t before d n
tally-step own at t before Nothing n m fresh early tally = still before n tally
tally-step own at t before (Takes u) n m fresh early tally =
    tally-takes at t u before n (eqb t.number u.number) refl (λ same. (let number : u.number ≡ m = fresh in early (omega (arith, same, number)))) tally
tally-step own at t before (Repeats k hop) n m fresh early tally = tally-answer before n (with_hop hop k.answer) (eqb t.number k.number) tally
tally-step own at t before (Closes u answer) n m fresh early tally = tally-closes before n answer (eqb t.number u.number) tally
tally-step own at t None Ticks n m fresh early tally = still None n tally
tally-step own at t (Some s) Ticks n m fresh early tally = tally-due own at t s n (is_due at s) (is_last s) refl refl tally

abbrev Tallied : Reverse → Taken → List ReversePlace → Type 0
Tallied own t ps = Tally (sent_so_far t ps) (count_by is_send (said_so_far own t ps))

tallied-place : (own : Reverse) (t : Taken) (ps : List ReversePlace) (e : ReverseEvent) → Sound own ps → Tallied own t ps → Tallied own t (place own ps e ∷ ps)
tallied-place own t ps e s tally =
    let at = max (now ps) e.moment in
    let p = place own ps e in
    let fresh = fresh-input own (open_requests ps) (kept_answers own ps at) (count ps) at e.input in
    let step = tally-step own p.moment t (sent_so_far t ps) p.deed (count_by is_send (said_so_far own t ps)) (count ps) fresh (λ low. ap (count_by is_send) (s.early t low).1) tally in
    subst (Tally (sent_so_far t (p ∷ ps))) (sym (count-append (said_so_far own t ps) (said_at own ps p t))) step

tallied-places : (own : Reverse) (t : Taken) (ps : List ReversePlace) (es : List ReverseEvent) → Sound own ps → Tallied own t ps → Tallied own t (places own ps es)
tallied-places own t ps [] s tally = tally
tallied-places own t ps (e ∷ es) s tally = tallied-places own t (place own ps e ∷ ps) es (sound-event own ps e s) (tallied-place own t ps e s tally)

limited : (own : Reverse) (history : List ReverseEvent) (t : Taken) → IsLimited own (past own history) t
limited own history t =
    tally-none (sent_so_far t (past own history)) (count_by is_send (said_so_far own t (past own history)))
    (tallied-places own t [] history (sound-none own) (omega arith))

pub each-limited : (own : Reverse) (history : List ReverseEvent) (list : List Taken) → Each (IsLimited own (past own history)) list
each-limited own history [] = tt
each-limited own history (t ∷ list) = (limited own history t, each-limited own history list)

-- ---- what a request becomes, and its key

-- the request that was taken up
abbrev Taking : Reverse → List ReversePlace → ℕ → ReverseInput → Taken → Type 0
Taking own ps at input t = IsOfInput own ps input t × IsFree own ps (at_input own ps at input) t

up-taking : (own : Reverse) (ps : List ReversePlace) (at : ℕ) (octets random : List ℕ) (t : Taken) → TakesUp own (open_requests ps) (kept_answers own ps at) (count ps) octets random t
    → Taking own ps at (inputs.Request octets random) t
up-taking own ps at octets random t up =
    let new = new-unknown (key_of up.q) (open_requests ps) (kept_answers own ps at) up.unknown_is in
    let number : t.number ≡ count ps = ap (λ (x : Taken). x.number) up.taken_is in
    let key : t.key ≡ key_of up.q = ap (λ (x : Taken). x.key) up.taken_is in (
      record {
        q = up.q;
        asked = up.asked;
        number = number;
        key = key;
        image = ap (λ n. request_image (direction_of up.q.header) (n % 256) random own.secret up.q.avps) number ∙ up.image;
      },
      record {
        open_none = ap (λ k. list_any (λ o. same_key o.taken.key k) (open_requests ps)) key ∙ new.open_none;
        kept_none = ap (λ k. list_any (λ x. same_key x.key k) (kept_answers own ps at)) key
            ∙ sym (find-any (λ x. same_key x.key (key_of up.q)) (kept_answers own ps at)) ∙ ap is_some new.kept_none;
      },
    )

input-taking : (own : Reverse) (ps : List ReversePlace) (at : ℕ) (input : ReverseInput) (t : Taken) → (at_input own ps at input).deed ≡ Takes t → Taking own ps at input t
input-taking own ps at (inputs.Request octets random) t e =
    up-taking own ps at octets random t (takes-request own (open_requests ps) (kept_answers own ps at) (count ps) octets random t e)
input-taking own ps at (inputs.Reply octets) t e = absurd (subst IsNoTake e (none-reply own (open_requests ps) octets))
input-taking own ps at inputs.Tick t e = absurd (cc)

pub images : (own : Reverse) (ps : List ReversePlace) (e : ReverseEvent) (t : Taken) → (place own ps e).deed ≡ Takes t → IsOfInput own ps e.input t
images own ps e t is = (input-taking own ps (max (now ps) e.moment) e.input t is).0

pub apart : (own : Reverse) (ps : List ReversePlace) (e : ReverseEvent) (t : Taken) → (place own ps e).deed ≡ Takes t → IsFree own ps (place own ps e) t
apart own ps e t is = (input-taking own ps (max (now ps) e.moment) e.input t is).1
