-- The answers of one request differ in octets 12 to 15 alone.
use Rattle.std.proofs.Common.{◌≡◌, ℕ, ◌+◌, ◌≤◌, ◌<◌, ◌⊎◌, inl, inr, Bool, true, false, cond, eqb, ◌&&◌, List, [], ◌∷◌, ◌++◌, length, take, drop, max, Option, Some, None, refl, sym, ap, ◌∙◌, subst, arith}
use Rattle.std.specs.List.{AllByRecursion as Each, Contains}
use Rattle.std.proofs.lemmas.Bool.{eq-eqb, eqb-true}
use Rattle.std.proofs.lemmas.List.{length-append, length-drop, length-take-le, take-append-le}
use Rattle.std.proofs.Math.Seq.{drop-append_seam, take-append_seam}
use Rattle.wire_core.specs.Numbers.{u32}
use Rattle.diameter_avp.specs.Avps.{avps_text}
use Rattle.diameter_message.proofs.MessageLemmas.{length-message_text}
use Rattle.reverse_map.specs.declared.own.Reverse.{Reverse}
use Rattle.reverse_map.specs.Asked.{AskedParts, request_in}
use Rattle.reverse_map.specs.Answers.{answer_head, answer_header, refusal}
use Rattle.reverse_core.specs.declared.events.ReverseInput.{ReverseInput}
use Rattle.reverse_core.specs.declared.events.ReverseOutput.{ReverseOutput}
use Rattle.reverse_core.specs.declared.events.ReverseOutput.TheVariants.{Send, Answer, Dropped}
use Rattle.reverse_core.specs.declared.requests.Taken.{Taken}
use Rattle.reverse_core.specs.declared.requests.Sent.{Sent}
use Rattle.reverse_core.specs.declared.requests.OpenRequest.{OpenRequest}
use Rattle.reverse_core.specs.declared.requests.KeptAnswer.{KeptAnswer}
use Rattle.reverse_core.specs.Requests.{Deed, Nothing, Takes, Repeats, Closes, Ticks, answers_by, first_sent, given_up, is_due, is_last, is_spent, refusal_to, silence}
use Rattle.reverse_core.specs.Places.{ReverseEvent, ReversePlace, now, takings, count, sent_after, sent_so_far, open_requests, answers}
use Rattle.reverse_core.specs.History.{with_hop, place, places, past}
use Rattle.reverse_core.specs.Laws.{said_at, said_so_far, DifferInHop, AreAlike}
use Rattle.reverse_core.proofs.Members.{none-there, there-cases, each-there, each-end, each-append, each-of, each-from}
use Rattle.reverse_core.proofs.Spoken.{IsAsked, IsCounted, IsOwed, Sound, below-all, each-given, input-said, open-each, sound-event, sound-none}

-- ---- with another hop

hop-long : (hop : ℕ) → length (u32 hop) ≡ 4
unfolding u32
hop-long hop = refl

hop-differs : (hop : ℕ) (a : List ℕ) → 20 ≤ length a → DifferInHop a (with_hop hop a)
hop-differs hop a long =
    let first = take 12 a in
    let front = first ++ u32 hop in
    let head : length first ≡ 12 = length-take-le 12 a (omega (arith, long)) in
    let size : length front ≡ 16 = omega (arith, head, length-append first (u32 hop), hop-long hop) in
    record {
      length_same = omega (arith, long, size, length-append front (drop 16 a), length-drop 16 a);
      before = sym (take-append-le 12 front (drop 16 a) (omega (arith, size)) ∙ ap (λ n. take n front) (sym head) ∙ take-append_seam first (u32 hop));
      behind = sym (ap (λ n. drop n (front ++ drop 16 a)) (sym size) ∙ drop-append_seam front (drop 16 a));
    }

differ-none : (a : List ℕ) → DifferInHop a a
differ-none a = record { length_same = refl; before = refl; behind = refl }

differ-both : (a b c : List ℕ) → DifferInHop a b → DifferInHop a c → DifferInHop b c
differ-both a b c d e = record {
  length_same = sym d.length_same ∙ e.length_same;
  before = sym d.before ∙ e.before;
  behind = sym d.behind ∙ e.behind;
}

-- ---- what is said of one request

abbrev IsNoAnswer : ReverseOutput → Type 0
IsNoAnswer (Send octets) = Unit {0}
IsNoAnswer (Answer octets) = ⊥
IsNoAnswer (Dropped reason) = Unit {0}

abbrev IsLike : List ℕ → ReverseOutput → Type 0
IsLike a (Send octets) = Unit {0}
IsLike a (Answer octets) = DifferInHop a octets
IsLike a (Dropped reason) = Unit {0}

abbrev IsOther : ℕ → KeptAnswer → Type 0
IsOther n k = eqb k.number n ≡ false

abbrev HasThis : ℕ → List ℕ → KeptAnswer → Type 0
HasThis n a k = k.number ≡ n → k.answer ≡ a

-- no answer of it was given
record IsUnanswered (own : Reverse) (ps : List ReversePlace) (t : Taken) : Type 0 where
  none : Each (IsOther t.number) (answers own ps)
  said : Each IsNoAnswer (said_so_far own t ps)

-- this answer of it was given, and no other one
record IsAnswered (own : Reverse) (ps : List ReversePlace) (t : Taken) (a : List ℕ) : Type 0 where
  long : 20 ≤ length a
  ones : Each (HasThis t.number a) (answers own ps)
  said : Each (IsLike a) (said_so_far own t ps)
  closed : sent_so_far t ps ≡ None

abbrev Settled : Reverse → List ReversePlace → Taken → Type 0
Settled own ps t = IsUnanswered own ps t ⊎ ((a : List ℕ) × IsAnswered own ps t a)

no-answer-like : (a : List ℕ) (o : ReverseOutput) → IsNoAnswer o → IsLike a o
no-answer-like a (Send octets) is = tt
no-answer-like a (Answer octets) is = absurd is
no-answer-like a (Dropped reason) is = tt

others-have : (n : ℕ) (a : List ℕ) (k : KeptAnswer) → IsOther n k → HasThis n a k
others-have n a k other = λ same. absurd (let yes : eqb k.number n ≡ true = eq-eqb k.number n same in cc)

-- ---- one more place

abbrev Given : Reverse → List ReversePlace → ReversePlace → List KeptAnswer
Given own ps p = answers_by own p.deed p.moment (open_requests ps)

still-open : (own : Reverse) (ps : List ReversePlace) (p : ReversePlace) (t : Taken) → IsUnanswered own ps t → Each (IsOther t.number) (Given own ps p) → Each IsNoAnswer (said_at own ps p t)
    → Settled own (p ∷ ps) t
still-open own ps p t u none said = inl (record {
  none = each-append (IsOther t.number) (answers own ps) (Given own ps p) u.none none;
  said = each-append IsNoAnswer (said_so_far own t ps) (said_at own ps p t) u.said said;
})

now-closed : (own : Reverse) (ps : List ReversePlace) (p : ReversePlace) (t : Taken) (a : List ℕ) → IsUnanswered own ps t → 20 ≤ length a → Each (HasThis t.number a) (Given own ps p)
    → Each (IsLike a) (said_at own ps p t) → sent_so_far t (p ∷ ps) ≡ None → Settled own (p ∷ ps) t
now-closed own ps p t a u long ones said closed = inr (
  a,
  record {
    long = long;
    ones = each-append (HasThis t.number a) (answers own ps) (Given own ps p)
        (each-from (IsOther t.number) (HasThis t.number a) (answers own ps) (λ k other. others-have t.number a k other) u.none) ones;
    said = each-append (IsLike a) (said_so_far own t ps) (said_at own ps p t)
        (each-from IsNoAnswer (IsLike a) (said_so_far own t ps) (λ o is. no-answer-like a o is) u.said) said;
    closed = closed;
  },
)

still-closed : (own : Reverse) (ps : List ReversePlace) (p : ReversePlace) (t : Taken) (a : List ℕ) → IsAnswered own ps t a → Each (HasThis t.number a) (Given own ps p)
    → Each (IsLike a) (said_at own ps p t) → sent_so_far t (p ∷ ps) ≡ None → Settled own (p ∷ ps) t
still-closed own ps p t a w ones said closed = inr (
  a,
  record {
    long = w.long;
    ones = each-append (HasThis t.number a) (answers own ps) (Given own ps p) w.ones ones;
    said = each-append (IsLike a) (said_so_far own t ps) (said_at own ps p t) w.said said;
    closed = closed;
  },
)

-- ---- a Tick

-- a request of this number that is open is this one
abbrev IsItself : List ReversePlace → Taken → OpenRequest → Type 0
IsItself ps t o = o.taken.number ≡ t.number → (o.taken ≡ t) × (sent_so_far t ps ≡ Some o.sent)

from-all : (n : ℕ) (list : List Taken) → IsCounted n list → Each (λ t. n ≤ t.number) list
from-all n [] c = tt
from-all n (t ∷ list) c =
    (omega (arith, c.0), each-from (λ x. n + 1 ≤ x.number) (λ x. n ≤ x.number) list (λ x low. omega (arith, low)) (from-all (n + 1) list c.1))

same-number : (n : ℕ) (list : List Taken) (t u : Taken) → IsCounted n list → Contains list t → Contains list u → u.number ≡ t.number → u ≡ t
same-number n [] t u c there more same = absurd (none-there t there)
same-number n (x ∷ list) t u c there more same = by (there-cases x list t there) (there-cases x list u more) (λ a b. same-number (n + 1) list t u c.1 a b same)
  where
    above : (y : Taken) → Contains list y → x.number < y.number
    above y h = omega (arith, c.0, each-there (λ z. n + 1 ≤ z.number) list y (from-all (n + 1) list c.1) h)

    by : (x ≡ t) ⊎ Contains list t → (x ≡ u) ⊎ Contains list u → (Contains list t → Contains list u → u ≡ t) → u ≡ t
    by (inl a) (inl b) rest = sym b ∙ a
    by (inl a) (inr b) rest = absurd (omega (arith, above u b, same, ap (λ (z : Taken). z.number) a))
    by (inr a) (inl b) rest = absurd (omega (arith, above t a, same, ap (λ (z : Taken). z.number) b))
    by (inr a) (inr b) rest = rest a b

itself : (ps : List ReversePlace) (t : Taken) → IsCounted 0 (takings ps) → Contains (takings ps) t → Each (IsItself ps t) (open_requests ps)
itself ps t c there =
    let f : Taken → Option Sent = λ x. sent_so_far x ps in
    open-each (IsItself ps t) f (takings ps)
    (each-of (λ x. (s : Sent) → f x ≡ Some s → IsItself ps t (record { taken = x; sent = s })) (takings ps)
    (λ x more s e same. let is : x ≡ t = same-number 0 (takings ps) t x c there more same in (is, ap f (sym is) ∙ e)))

other-none : (ps : List ReversePlace) (t : Taken) (o : OpenRequest) → IsItself ps t o → sent_so_far t ps ≡ None → eqb o.taken.number t.number ≡ false
other-none ps t o is none = by (eqb o.taken.number t.number) refl
  where
    by : (b : Bool) → eqb o.taken.number t.number ≡ b → b ≡ false
    by true e = absurd (let some = (is (eqb-true _ _ e)).1 in cc)
    by false e = refl

other-sent : (ps : List ReversePlace) (t : Taken) (s : Sent) (at : ℕ) (o : OpenRequest) → IsItself ps t o → sent_so_far t ps ≡ Some s → (is_due at s && is_last s) ≡ false → is_spent at o ≡ true
    → eqb o.taken.number t.number ≡ false
other-sent ps t s at o is some fresh spent = by (eqb o.taken.number t.number) refl
  where
    by : (b : Bool) → eqb o.taken.number t.number ≡ b → b ≡ false
    by true e = absurd (let same : Some o.sent ≡ Some s = sym (is (eqb-true _ _ e)).1 ∙ some in let sent : o.sent ≡ s = cc in let both : (is_due at s && is_last s) ≡ true = ap (λ x. is_due at x && is_last x) (sym sent) ∙ spent in cc)
    by false e = refl

-- a request that was taken up asks something, so its answer has a header
long-by : (own : Reverse) (o : Option AskedParts) (q : AskedParts) → o ≡ Some q → 20 ≤ length (refusal_to own o 3002)
unfolding refusal
long-by own None q e = absurd (cc)
long-by own (Some r) q e = omega (arith, length-message_text (answer_header r.header 3002) (avps_text (answer_head own r 3002)))

silence-long : (own : Reverse) (t : Taken) → IsAsked t → 20 ≤ length (silence own t)
silence-long own t asked = long-by own (request_in t.request) asked.0 asked.1

-- ---- each deed

abbrev made : ℕ → ReverseInput → List ReverseOutput → Deed → ReversePlace
made at input outs d = record { moment = at; input = input; deed = d; outputs = outs }

abbrev SettledBy : Reverse → List ReversePlace → ℕ → ReverseInput → List ReverseOutput → Deed → Taken → Type 0
SettledBy own ps at input outs d t = Settled own (made at input outs d ∷ ps) t

send-if : (octets : List ℕ) (b : Bool) → Each IsNoAnswer (cond b (Send octets ∷ []) [])
send-if octets true = (tt, tt)
send-if octets false = tt

like-if : (a octets : List ℕ) (b : Bool) → Each (IsLike a) (cond b (Send octets ∷ []) [])
like-if a octets true = (tt, tt)
like-if a octets false = tt

other-way : (n m : ℕ) → eqb n m ≡ false → eqb m n ≡ false
other-way n m e = grind arith

sent-number : (t u : Taken) (ps : List ReversePlace) → t.number ≡ u.number → sent_so_far t ps ≡ sent_so_far u ps
sent-number t u [] same = refl
sent-number t u (p ∷ ps) same = by p.deed ∙ ap (sent_after p.deed p.moment u) (sent-number t u ps same)
  where
    before : Option Sent
    before = sent_so_far t ps

    by : (d : Deed) → sent_after d p.moment t before ≡ sent_after d p.moment u before
    by Nothing = refl
    by (Takes v) = ap (λ n. cond (eqb n v.number) (Some (first_sent p.moment)) before) same
    by (Repeats k hop) = refl
    by (Closes v answer) = ap (λ n. cond (eqb n v.number) None before) same
    by Ticks = refl

-- one that isn't answered yet

closes-open : (own : Reverse) (ps : List ReversePlace) (at : ℕ) (input : ReverseInput) (outs : List ReverseOutput) (t u : Taken) (answer : List ℕ) (b : Bool) → eqb t.number u.number ≡ b
    → 20 ≤ length answer → IsUnanswered own ps t → SettledBy own ps at input outs (Closes u answer) t
closes-open own ps at input outs t u answer true e long un =
    now-closed own ps (made at input outs (Closes u answer)) t answer un long ((λ same. refl), tt) (rw e (differ-none answer, tt)) (rw e refl)
closes-open own ps at input outs t u answer false e long un =
    still-open own ps (made at input outs (Closes u answer)) t un (other-way t.number u.number e, tt) (rw e tt)

given-other : (own : Reverse) (ps : List ReversePlace) (at : ℕ) (t : Taken) → Each (λ o. is_spent at o ≡ true → eqb o.taken.number t.number ≡ false) (open_requests ps)
    → Each (IsOther t.number) (answers_by own Ticks at (open_requests ps))
given-other own ps at t all = each-given (IsOther t.number) own at (open_requests ps) all

given-itself : (own : Reverse) (ps : List ReversePlace) (at : ℕ) (t : Taken) → Each (IsItself ps t) (open_requests ps)
    → Each (HasThis t.number (silence own t)) (answers_by own Ticks at (open_requests ps))
given-itself own ps at t all =
    each-given (HasThis t.number (silence own t)) own at (open_requests ps)
    (each-from (IsItself ps t) (λ o. is_spent at o ≡ true → HasThis t.number (silence own t) (given_up own at o)) (open_requests ps)
    (λ o is spent same. ap (silence own) (is same).0) all)

due-open : (own : Reverse) (ps : List ReversePlace) (at : ℕ) (input : ReverseInput) (outs : List ReverseOutput) (t : Taken) (s : Sent) (due last : Bool) → is_due at s ≡ due → is_last s ≡ last
    → sent_so_far t ps ≡ Some s → IsAsked t → Each (IsItself ps t) (open_requests ps) → IsUnanswered own ps t → SettledBy own ps at input outs Ticks t
due-open own ps at input outs t s true true e f some asked all un =
    now-closed own ps (made at input outs Ticks) t (silence own t) un (silence-long own t asked) (given-itself own ps at t all)
    (rw (some, e, f) (differ-none (silence own t), tt)) (rw (some, e, f) refl)
due-open own ps at input outs t s true false e f some asked all un =
    still-open own ps (made at input outs Ticks) t un
    (given-other own ps at t (each-from (IsItself ps t) (λ o. is_spent at o ≡ true → eqb o.taken.number t.number ≡ false) (open_requests ps)
    (λ o is spent. other-sent ps t s at o is some (rw (e, f) refl) spent) all))
    (rw (some, e, f) (tt, tt))
due-open own ps at input outs t s false last e f some asked all un =
    still-open own ps (made at input outs Ticks) t un
    (given-other own ps at t (each-from (IsItself ps t) (λ o. is_spent at o ≡ true → eqb o.taken.number t.number ≡ false) (open_requests ps)
    (λ o is spent. other-sent ps t s at o is some (rw e refl) spent) all))
    (rw (some, e) tt)

ticks-none : (own : Reverse) (ps : List ReversePlace) (at : ℕ) (t : Taken) → sent_so_far t ps ≡ None → Each (IsItself ps t) (open_requests ps)
    → Each (IsOther t.number) (answers_by own Ticks at (open_requests ps))
ticks-none own ps at t none all =
    given-other own ps at t (each-from (IsItself ps t) (λ o. is_spent at o ≡ true → eqb o.taken.number t.number ≡ false) (open_requests ps)
    (λ o is spent. other-none ps t o is none) all)

ticks-open : (own : Reverse) (ps : List ReversePlace) (at : ℕ) (input : ReverseInput) (outs : List ReverseOutput) (t : Taken) (before : Option Sent) → sent_so_far t ps ≡ before
    → IsAsked t → Each (IsItself ps t) (open_requests ps) → IsUnanswered own ps t → SettledBy own ps at input outs Ticks t
ticks-open own ps at input outs t None e asked all un = still-open own ps (made at input outs Ticks) t un (ticks-none own ps at t e all) (rw e tt)
ticks-open own ps at input outs t (Some s) e asked all un = due-open own ps at input outs t s (is_due at s) (is_last s) refl refl e asked all un

open-settled : (own : Reverse) (ps : List ReversePlace) (at : ℕ) (input : ReverseInput) (outs : List ReverseOutput) (d : Deed) (t : Taken) → Sound own ps → IsOwed own ps d → Contains (takings ps) t
    → IsUnanswered own ps t → SettledBy own ps at input outs d t
open-settled own ps at input outs Nothing t s owed there un = still-open own ps (made at input outs Nothing) t un tt tt
open-settled own ps at input outs (Takes u) t s owed there un = still-open own ps (made at input outs (Takes u)) t un tt (send-if t.sent (eqb t.number u.number))
open-settled own ps at input outs (Repeats k hop) t s owed there un =
    let other = other-way k.number t.number (each-there (IsOther t.number) (answers own ps) k un.none owed) in
    still-open own ps (made at input outs (Repeats k hop)) t un tt (rw other tt)
open-settled own ps at input outs (Closes u answer) t s owed there un = closes-open own ps at input outs t u answer (eqb t.number u.number) refl owed.3 un
open-settled own ps at input outs Ticks t s owed there un =
    ticks-open own ps at input outs t (sent_so_far t ps) refl (each-there IsAsked (takings ps) t s.asked there) (itself ps t s.counted there) un

-- one that is answered

repeats-closed : (own : Reverse) (ps : List ReversePlace) (at : ℕ) (input : ReverseInput) (outs : List ReverseOutput) (t : Taken) (k : KeptAnswer) (hop : ℕ) (a : List ℕ) (b : Bool)
    → eqb t.number k.number ≡ b → Contains (answers own ps) k → IsAnswered own ps t a → SettledBy own ps at input outs (Repeats k hop) t
repeats-closed own ps at input outs t k hop a true e there w =
    let is : k.answer ≡ a = each-there (HasThis t.number a) (answers own ps) k w.ones there (sym (eqb-true _ _ e)) in
    let differs : DifferInHop a (with_hop hop k.answer) = subst (λ x. DifferInHop a (with_hop hop x)) (sym is) (hop-differs hop a w.long) in
    still-closed own ps (made at input outs (Repeats k hop)) t a w tt (rw e (differs, tt)) w.closed
repeats-closed own ps at input outs t k hop a false e there w =
    still-closed own ps (made at input outs (Repeats k hop)) t a w tt (rw e tt) w.closed

closes-closed : (own : Reverse) (ps : List ReversePlace) (at : ℕ) (input : ReverseInput) (outs : List ReverseOutput) (t u : Taken) (answer a : List ℕ) (s : Sent) (b : Bool) → eqb t.number u.number ≡ b
    → sent_so_far u ps ≡ Some s → IsAnswered own ps t a → SettledBy own ps at input outs (Closes u answer) t
closes-closed own ps at input outs t u answer a s true e sent w =
    absurd (let same = sent-number t u ps (eqb-true _ _ e) in let none = w.closed in cc)
closes-closed own ps at input outs t u answer a s false e sent w =
    still-closed own ps (made at input outs (Closes u answer)) t a w ((λ same. absurd (let yes = eq-eqb t.number u.number (sym same) in cc)), tt) (rw e tt) (rw e w.closed)

closed-settled : (own : Reverse) (ps : List ReversePlace) (at : ℕ) (input : ReverseInput) (outs : List ReverseOutput) (d : Deed) (t : Taken) (a : List ℕ) → Sound own ps → IsOwed own ps d
    → Contains (takings ps) t → IsAnswered own ps t a → SettledBy own ps at input outs d t
closed-settled own ps at input outs Nothing t a s owed there w = still-closed own ps (made at input outs Nothing) t a w tt tt w.closed
closed-settled own ps at input outs (Takes u) t a s owed there w =
    let low : t.number < count ps = each-there (λ x. x.number < count ps) (takings ps) t (below-all 0 (takings ps) (count ps) s.counted (omega arith)) there in
    let number : u.number ≡ count ps = owed.0 in
    let other : eqb t.number u.number ≡ false = grind arith in
    still-closed own ps (made at input outs (Takes u)) t a w tt (like-if a t.sent (eqb t.number u.number)) (rw other w.closed)
closed-settled own ps at input outs (Repeats k hop) t a s owed there w = repeats-closed own ps at input outs t k hop a (eqb t.number k.number) refl owed w
closed-settled own ps at input outs (Closes u answer) t a s owed there w =
    closes-closed own ps at input outs t u answer a owed.0 (eqb t.number u.number) refl owed.1 w
closed-settled own ps at input outs Ticks t a s owed there w =
    let none = w.closed in
    still-closed own ps (made at input outs Ticks) t a w
    (each-from (IsOther t.number) (HasThis t.number a) (answers_by own Ticks at (open_requests ps)) (λ k other. others-have t.number a k other)
    (ticks-none own ps at t none (itself ps t s.counted there)))
    (rw none tt) (rw none refl)

-- ---- all requests

old-settled : (own : Reverse) (ps : List ReversePlace) (at : ℕ) (input : ReverseInput) (outs : List ReverseOutput) (d : Deed) (t : Taken) → Sound own ps → IsOwed own ps d → Contains (takings ps) t
    → Settled own ps t → SettledBy own ps at input outs d t
old-settled own ps at input outs d t s owed there (inl un) = open-settled own ps at input outs d t s owed there un
old-settled own ps at input outs d t s owed there (inr w) = closed-settled own ps at input outs d t w.0 s owed there w.1

new-settled : (own : Reverse) (ps : List ReversePlace) (at : ℕ) (input : ReverseInput) (outs : List ReverseOutput) (u : Taken) → Sound own ps → u.number ≡ count ps
    → SettledBy own ps at input outs (Takes u) u
new-settled own ps at input outs u s number =
    let none = each-from (λ k. k.number < count ps) (IsOther u.number) (answers own ps) (λ k low. grind (arith, low, number)) s.numbered in
    let early : said_so_far own u ps ≡ [] = (s.early u (omega (arith, number))).1 in
    still-open own ps (made at input outs (Takes u)) u (record { none = none; said = rw early tt }) tt (send-if u.sent (eqb u.number u.number))

abbrev AllSettled : Reverse → List ReversePlace → Type 0
AllSettled own ps = Each (Settled own ps) (takings ps)

olds-settled : (own : Reverse) (ps : List ReversePlace) (at : ℕ) (input : ReverseInput) (outs : List ReverseOutput) (d : Deed) → Sound own ps → IsOwed own ps d → AllSettled own ps
    → Each (SettledBy own ps at input outs d) (takings ps)
olds-settled own ps at input outs d s owed all =
    each-of (SettledBy own ps at input outs d) (takings ps)
    (λ t there. old-settled own ps at input outs d t s owed there (each-there (Settled own ps) (takings ps) t all there))

all-settled : (own : Reverse) (ps : List ReversePlace) (at : ℕ) (input : ReverseInput) (outs : List ReverseOutput) (d : Deed) → Sound own ps → IsOwed own ps d → AllSettled own ps
    → AllSettled own (made at input outs d ∷ ps)
all-settled own ps at input outs Nothing s owed all = olds-settled own ps at input outs Nothing s owed all
all-settled own ps at input outs (Takes u) s owed all =
    each-end (SettledBy own ps at input outs (Takes u)) (takings ps) u (olds-settled own ps at input outs (Takes u) s owed all) (new-settled own ps at input outs u s owed.0)
all-settled own ps at input outs (Repeats k hop) s owed all = olds-settled own ps at input outs (Repeats k hop) s owed all
all-settled own ps at input outs (Closes u answer) s owed all = olds-settled own ps at input outs (Closes u answer) s owed all
all-settled own ps at input outs Ticks s owed all = olds-settled own ps at input outs Ticks s owed all

settled-place : (own : Reverse) (ps : List ReversePlace) (e : ReverseEvent) → Sound own ps → AllSettled own ps → AllSettled own (place own ps e ∷ ps)
settled-place own ps e s all =
    let p = place own ps e in
    all-settled own ps p.moment p.input p.outputs p.deed s (input-said own ps (max (now ps) e.moment) e.input s).owed all

settled-places : (own : Reverse) (ps : List ReversePlace) (es : List ReverseEvent) → Sound own ps → AllSettled own ps → AllSettled own (places own ps es)
settled-places own ps [] s all = all
settled-places own ps (e ∷ es) s all = settled-places own (place own ps e ∷ ps) es (sound-event own ps e s) (settled-place own ps e s all)

are-alike : (own : Reverse) (ps : List ReversePlace) (t : Taken) → Settled own ps t → AreAlike (said_so_far own t ps)
are-alike own ps t (inl un) a b one two = absurd (each-there IsNoAnswer (said_so_far own t ps) (Answer a) un.said one)
are-alike own ps t (inr w) a b one two =
    let like = w.1.said in
    differ-both w.0 a b (each-there (IsLike w.0) (said_so_far own t ps) (Answer a) like one) (each-there (IsLike w.0) (said_so_far own t ps) (Answer b) like two)

pub each-alike : (own : Reverse) (history : List ReverseEvent) → Each (λ t. AreAlike (said_so_far own t (past own history))) (takings (past own history))
each-alike own history =
    let ps = past own history in
    each-from (Settled own ps) (λ t. AreAlike (said_so_far own t ps)) (takings ps) (λ t is. are-alike own ps t is) (settled-places own [] history (sound-none own) tt)
