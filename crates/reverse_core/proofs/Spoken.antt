-- What goes out at a place is what is said of the requests, or one direct output.
use Rattle.std.proofs.Common.{◌≡◌, ℕ, ◌+◌, ◌%◌, ◌<◌, ◌≤◌, inl, inr, Bool, true, false, cond, eqb, List, [], ◌∷◌, ◌++◌, length, map, filter, max, Option, Some, None, Result, Ok, Err, refl, sym, ap, ◌∙◌, subst, arith}
use Rattle.std.specs.Prelude.{find}
use Rattle.std.specs.List.{AllByRecursion as Each, Contains, list_any, flat_map}
use Rattle.std.proofs.lemmas.Bool.{eq-eqb, eqb-true}
use Rattle.diameter_message.proofs.MessageLemmas.{length-message_text}
use Rattle.diameter_message.specs.Message.{MessageParts, read_message}
use Rattle.diameter_message.specs.declared.fault.MessageFault.{MessageFault}
use Rattle.radius_packet.specs.Packet.{PacketParts, read_packet}
use Rattle.radius_packet.specs.declared.fault.PacketFault.{PacketFault}
use Rattle.diameter_avp.specs.Avps.{avps_text}
use Rattle.reverse_map.specs.declared.own.Reverse.{Reverse}
use Rattle.reverse_map.specs.declared.fault.ReverseFault.{ReverseFault}
use Rattle.reverse_map.specs.declared.fault.ReverseFault.TheVariants as faults
use Rattle.reverse_map.specs.Asked.{AskedParts, asked_in, asked_of, direction_of, is_served, request_in}
use Rattle.reverse_map.specs.Answers.{answer_avps, answer_header, answer_of, refusal, reply_result}
use Rattle.reverse_map.specs.Requests.{request_image}
use Rattle.reverse_core.specs.declared.key.Key.{Key}
use Rattle.reverse_core.specs.declared.events.ReverseInput.{ReverseInput}
use Rattle.reverse_core.specs.declared.events.ReverseInput.TheVariants as inputs
use Rattle.reverse_core.specs.declared.events.ReverseOutput.{ReverseOutput}
use Rattle.reverse_core.specs.declared.events.ReverseOutput.TheVariants.{Send, Answer, Dropped}
use Rattle.reverse_core.specs.declared.events.ReverseReason.TheVariants.{NotRequest, NoIdentity, Open, StrangeReply}
use Rattle.reverse_core.specs.declared.requests.Taken.{Taken}
use Rattle.reverse_core.specs.declared.requests.Sent.{Sent}
use Rattle.reverse_core.specs.declared.requests.OpenRequest.{OpenRequest}
use Rattle.reverse_core.specs.declared.requests.KeptAnswer.{KeptAnswer}
use Rattle.reverse_core.specs.Keys.{same_key, key_of}
use Rattle.reverse_core.specs.Requests.{Deed, Nothing, Takes, Repeats, Closes, Ticks, answers_by, given_up, is_kept, is_spent}
use Rattle.reverse_core.specs.Places.{ReverseEvent, ReversePlace, now, with_taken, takings, count, if_open, open_among, sent_after, sent_so_far, open_requests, answers, kept_answers}
use Rattle.reverse_core.specs.History.{Outcome, Known, Unknown, IsOpen, IsKept, says, known, known_kept, has_identifier, is_full, taken, refused_by, translated, on_unknown, on_known, on_asked, on_message, is_authentic_reply, answered, matched, on_packet, overdue, with_hop, placed, at_input, place, places, past}
use Rattle.reverse_core.specs.Laws.{said_by, said_at, said_so_far, IsDirect, IsRefusal, IsSaid}
use Rattle.reverse_core.proofs.Members.{first-there, later-there, each-there, each-end, each-append, each-found}
use Rattle.reverse_core.proofs.Opening.{IsFresh, count-after}
use Rattle.reverse_core.proofs.Taking.{fresh-input}

-- ---- the numbers of requests are their places

abbrev pub IsCounted : ℕ → List Taken → Type 0
IsCounted n [] = Unit {0}
IsCounted n (t ∷ list) = (t.number ≡ n) × IsCounted (n + 1) list

counted-end : (n : ℕ) (list : List Taken) (u : Taken) → u.number ≡ n + length list → IsCounted n list → IsCounted n (list ++ u ∷ [])
counted-end n [] u e c = (omega (arith, e), tt)
counted-end n (t ∷ list) u e c = (c.0, counted-end (n + 1) list u (omega (arith, e)) c.1)

counted-after : (d : Deed) (list : List Taken) → IsFresh d (length list) → IsCounted 0 list → IsCounted 0 (with_taken d list)
counted-after Nothing list fresh c = c
counted-after (Takes u) list fresh c = counted-end 0 list u (omega (arith, fresh)) c
counted-after (Repeats k hop) list fresh c = c
counted-after (Closes u answer) list fresh c = c
counted-after Ticks list fresh c = c

pub below-all : (n : ℕ) (list : List Taken) (m : ℕ) → IsCounted n list → n + length list ≤ m → Each (λ t. t.number < m) list
below-all n [] m c low = tt
below-all n (t ∷ list) m c low = (omega (arith, c.0, low), below-all (n + 1) list m c.1 (omega (arith, low)))

-- ---- what each deed says of all requests

none-said : (list : List Taken) → ◌≡◌ {A = List ReverseOutput} (flat_map (λ t. []) list) []
none-said [] = refl
none-said (t ∷ list) = none-said list

abbrev said_of : ℕ → ReverseOutput → Taken → List ReverseOutput
said_of m output t = cond (eqb t.number m) (output ∷ []) []

later-said : (n m : ℕ) (output : ReverseOutput) (list : List Taken) → IsCounted n list → m < n → flat_map (said_of m output) list ≡ []
later-said n m output [] c low = refl
later-said n m output (t ∷ list) c low =
    let number : t.number ≡ n = c.0 in
    let other : eqb t.number m ≡ false = grind arith in
    rw other (later-said (n + 1) m output list c.1 (omega (arith, low)))

one-said : (n m : ℕ) (output : ReverseOutput) (list : List Taken) → IsCounted n list → n ≤ m → m < n + length list → flat_map (said_of m output) list ≡ output ∷ []
one-said n m output [] c low high = absurd (omega (arith, low, high))
one-said n m output (t ∷ list) c low high = by (eqb t.number m) refl (λ above. one-said (n + 1) m output list c.1 above (omega (arith, high)))
  where
    by : (b : Bool) → eqb t.number m ≡ b → (n + 1 ≤ m → flat_map (said_of m output) list ≡ output ∷ []) → flat_map (said_of m output) (t ∷ list) ≡ output ∷ []
    by true e rest =
        let number : t.number ≡ n = c.0 in
        let same : t.number ≡ m = eqb-true _ _ e in
        rw e (ap (λ os. output ∷ os) (later-said (n + 1) m output list c.1 (omega (arith, number, same))))
    by false e rest =
        let number : t.number ≡ n = c.0 in
        let above : n + 1 ≤ m = grind arith in
        rw e (rest above)

taken-said : (own : Reverse) (at : ℕ) (u : Taken) (f : Taken → Option Sent) (list : List Taken) → Each (λ t. t.number < u.number) list
    → flat_map (λ t. said_by own at t (f t) (Takes u)) (list ++ u ∷ []) ≡ Send u.sent ∷ []
taken-said own at u f [] all = rw (eq-eqb u.number u.number refl) refl
taken-said own at u f (t ∷ list) all =
    let low : t.number < u.number = all.0 in
    let other : eqb t.number u.number ≡ false = grind arith in
    rw other (taken-said own at u f list all.1)

aged-head : (own : Reverse) (at : ℕ) (t : Taken) (o : Option Sent) (rest : List OpenRequest)
    → flat_map (overdue own at) (if_open t o ++ rest) ≡ said_by own at t o Ticks ++ flat_map (overdue own at) rest
aged-head own at t None rest = refl
aged-head own at t (Some s) rest = refl

aged-said : (own : Reverse) (at : ℕ) (f : Taken → Option Sent) (list : List Taken)
    → flat_map (overdue own at) (open_among f list) ≡ flat_map (λ t. said_by own at t (f t) Ticks) list
aged-said own at f [] = refl
aged-said own at f (t ∷ list) =
    aged-head own at t (f t) (open_among f list) ∙ ap (λ os. said_by own at t (f t) Ticks ++ os) (aged-said own at f list)

-- ---- what is open was taken up, and what is kept was answered

pub open-each : (P : OpenRequest → Type 0) (f : Taken → Option Sent) (list : List Taken)
    → Each (λ t. (s : Sent) → f t ≡ Some s → P (record { taken = t; sent = s })) list → Each P (open_among f list)
open-each P f [] all = tt
open-each P f (t ∷ list) all = by (f t) refl (open-each P f list all.1)
  where
    by : (o : Option Sent) → f t ≡ o → Each P (open_among f list) → Each P (if_open t o ++ open_among f list)
    by None e rest = rest
    by (Some s) e rest = (all.0 s e, rest)

below-each : (n : ℕ) (f : Taken → Option Sent) (list : List Taken) → Each (λ t. t.number < n) list
    → Each (λ t. (s : Sent) → f t ≡ Some s → (f t ≡ Some s) × (t.number < n)) list
below-each n f [] all = tt
below-each n f (t ∷ list) all = ((λ s e. (e, all.0)), below-each n f list all.1)

-- an open request was sent, and has the number of one that was taken up
abbrev pub WasTaken : List ReversePlace → OpenRequest → Type 0
WasTaken ps o = (sent_so_far o.taken ps ≡ Some o.sent) × (o.taken.number < count ps)

pub were-taken : (ps : List ReversePlace) → IsCounted 0 (takings ps) → Each (WasTaken ps) (open_requests ps)
were-taken ps c =
    open-each (WasTaken ps) (λ t. sent_so_far t ps) (takings ps)
    (below-each (count ps) (λ t. sent_so_far t ps) (takings ps) (below-all 0 (takings ps) (count ps) c (omega arith)))

found-kept : (test p : KeptAnswer → Bool) (ks : List KeptAnswer) (k : KeptAnswer) → find test (filter p ks) ≡ Some k → Contains ks k
found-kept test p [] k e = absurd (cc)
found-kept test p (x ∷ ks) k e =
    elim (p x) as (λ b. find test (cond b (x ∷ filter p ks) (filter p ks)) ≡ Some k → Contains (x ∷ ks) k) [
      | true ↦ (λ f. elim (test x) as (λ b. cond b (Some x) (find test (filter p ks)) ≡ Some k → Contains (x ∷ ks) k) [
        | true ↦ (λ g. let is : x ≡ k = cc in subst (Contains (x ∷ ks)) is (first-there x ks))
        | false ↦ (λ g. later-there x ks k (found-kept test p ks k g))
      ] f)
      | false ↦ (λ f. later-there x ks k (found-kept test p ks k f))
    ] e

known-there : (own : Reverse) (q : Key) (ps : List ReversePlace) (at : ℕ) (os : List OpenRequest) (k : KeptAnswer) → known q os (kept_answers own ps at) ≡ IsKept k → Contains (answers own ps) k
known-there own q ps at os k e = by (list_any (λ o. same_key o.taken.key q) os) e
  where
    ks : List KeptAnswer
    ks = kept_answers own ps at

    kept : (o : Option KeptAnswer) → known_kept o ≡ IsKept k → o ≡ Some k
    kept None f = absurd (cc)
    kept (Some x) f = (let is : x ≡ k = cc in ap (λ (y : KeptAnswer). Some y) is)

    by : (b : Bool) → cond b IsOpen (known_kept (find (λ x. same_key x.key q) ks)) ≡ IsKept k → Contains (answers own ps) k
    by true f = absurd (cc)
    by false f = found-kept (λ x. same_key x.key q) (is_kept own at) (answers own ps) k (kept (find (λ x. same_key x.key q) ks) f)

-- ---- what a deed is owed to

-- the octets are one of the requests
abbrev pub IsAsked : Taken → Type 0
IsAsked t = (q : AskedParts) × (request_in t.request ≡ Some q)

-- it takes up what asks something, repeats an answer that was given, or answers a request that is open
abbrev pub IsOwed : Reverse → List ReversePlace → Deed → Type 0
IsOwed own ps Nothing = Unit {0}
IsOwed own ps (Takes t) = (t.number ≡ count ps) × IsAsked t
IsOwed own ps (Repeats k hop) = Contains (answers own ps) k
IsOwed own ps (Closes t answer) = (s : Sent) × (sent_so_far t ps ≡ Some s) × (t.number < count ps) × (20 ≤ length answer)
IsOwed own ps Ticks = Unit {0}

pub record Spoken (own : Reverse) (ps : List ReversePlace) (p : ReversePlace) : Type 0 where
  pub said : IsSaid own ps p
  pub owed : IsOwed own ps p.deed

-- what the places before show
pub record Sound (own : Reverse) (ps : List ReversePlace) : Type 0 where
  pub counted : IsCounted 0 (takings ps)
  pub asked : Each IsAsked (takings ps)
  pub numbered : Each (λ k. k.number < count ps) (answers own ps)
  pub early : (t : Taken) → count ps ≤ t.number → (sent_so_far t ps ≡ None) × (said_so_far own t ps ≡ [])

-- ---- one place

abbrev SpokenBy : Reverse → List ReversePlace → ℕ → ReverseInput → Outcome → Type 0
SpokenBy own ps at input o = Spoken own ps (placed at input o)

direct-said : (own : Reverse) (ps : List ReversePlace) (at : ℕ) (input : ReverseInput) (output : ReverseOutput) → IsDirect own input output → SpokenBy own ps at input (says output)
direct-said own ps at input output direct = record {
  said = record { first = output ∷ []; is_first = (output, direct, refl); outputs = ap (λ os. output ∷ os) (sym (none-said (takings ps))) };
  owed = tt;
}

fault-refuses : (own : Reverse) (q : AskedParts) (fault : ReverseFault) → IsRefusal own q (Answer (refusal own q (refused_by fault)))
fault-refuses own q faults.Unsupported = inr (inl refl)
fault-refuses own q faults.Unable = inr (inr refl)
fault-refuses own q faults.NoMemory = inr (inr refl)

translated-said : (own : Reverse) (ps : List ReversePlace) (at : ℕ) (octets random : List ℕ) (q : AskedParts) (r : Result (List ℕ) ReverseFault) → IsCounted 0 (takings ps)
    → request_in octets ≡ Some q → SpokenBy own ps at (inputs.Request octets random) (translated own (count ps) octets q r)
translated-said own ps at octets random q (Ok sent) c asked = record {
  said = record {
    first = [];
    is_first = refl;
    outputs = sym (taken-said own at (taken (count ps) octets q sent) (λ t. sent_so_far t ps) (takings ps) (below-all 0 (takings ps) (count ps) c (omega arith)));
  };
  owed = (refl, (q, asked));
}
translated-said own ps at octets random q (Err fault) c asked =
    direct-said own ps at (inputs.Request octets random) (Answer (refusal own q (refused_by fault))) (inr (q, asked, fault-refuses own q fault))

unknown-said : (own : Reverse) (ps : List ReversePlace) (at : ℕ) (os : List OpenRequest) (ks : List KeptAnswer) (octets random : List ℕ) (q : AskedParts) → IsCounted 0 (takings ps)
    → request_in octets ≡ Some q → SpokenBy own ps at (inputs.Request octets random) (on_unknown own os ks (count ps) octets random q)
unknown-said own ps at os ks octets random q c asked =
    let r = request_image (direction_of q.header) (count ps % 256) random own.secret q.avps in
    elim (is_full os ks (count ps)) as (λ b. SpokenBy own ps at (inputs.Request octets random) (cond b (says (Answer (refusal own q 3004))) (translated own (count ps) octets q r))) [
      | true ↦ direct-said own ps at (inputs.Request octets random) (Answer (refusal own q 3004)) (inr (q, asked, inl refl))
      | false ↦ translated-said own ps at octets random q r c asked
    ]

known-said : (own : Reverse) (ps : List ReversePlace) (at : ℕ) (octets random : List ℕ) (q : AskedParts) (k : Known) → Sound own ps
    → request_in octets ≡ Some q → known (key_of q) (open_requests ps) (kept_answers own ps at) ≡ k
    → SpokenBy own ps at (inputs.Request octets random) (on_known own (open_requests ps) (kept_answers own ps at) (count ps) octets random q k)
known-said own ps at octets random q Unknown s asked e = unknown-said own ps at (open_requests ps) (kept_answers own ps at) octets random q s.counted asked
known-said own ps at octets random q IsOpen s asked e = direct-said own ps at (inputs.Request octets random) (Dropped Open) (inl (Open, refl))
known-said own ps at octets random q (IsKept k) s asked e =
    let there = known-there own (key_of q) ps at (open_requests ps) k e in
    let low : k.number < count ps = each-there (λ x. x.number < count ps) (answers own ps) k s.numbered there in
    record {
      said = record {
        first = [];
        is_first = refl;
        outputs = sym (one-said 0 k.number (Answer (with_hop q.header.hop k.answer)) (takings ps) s.counted (omega arith) (omega (arith, low)));
      };
      owed = there;
    }

asked-said : (own : Reverse) (ps : List ReversePlace) (at : ℕ) (octets random : List ℕ) (o : Option AskedParts) → Sound own ps → request_in octets ≡ o
    → SpokenBy own ps at (inputs.Request octets random) (on_asked own (open_requests ps) (kept_answers own ps at) (count ps) octets random o)
asked-said own ps at octets random None s asked = direct-said own ps at (inputs.Request octets random) (Dropped NoIdentity) (inl (NoIdentity, refl))
asked-said own ps at octets random (Some q) s asked =
    known-said own ps at octets random q (known (key_of q) (open_requests ps) (kept_answers own ps at)) s asked refl

message-said : (own : Reverse) (ps : List ReversePlace) (at : ℕ) (octets random : List ℕ) (r : Result MessageParts MessageFault) → Sound own ps → read_message octets ≡ r
    → SpokenBy own ps at (inputs.Request octets random) (on_message own (open_requests ps) (kept_answers own ps at) (count ps) octets random r)
message-said own ps at octets random (Err fault) s read = direct-said own ps at (inputs.Request octets random) (Dropped NotRequest) (inl (NotRequest, refl))
message-said own ps at octets random (Ok m) s read = by (is_served m.header) refl
  where
    o : Outcome
    o = on_asked own (open_requests ps) (kept_answers own ps at) (count ps) octets random (asked_in m)

    by : (b : Bool) → is_served m.header ≡ b → SpokenBy own ps at (inputs.Request octets random) (cond b o (says (Dropped NotRequest)))
    by true f = asked-said own ps at octets random (asked_in m) s (ap asked_of read ∙ ap (λ b. cond b (asked_in m) None) f)
    by false f = direct-said own ps at (inputs.Request octets random) (Dropped NotRequest) (inl (NotRequest, refl))

answer-long : (own : Reverse) (q : AskedParts) (p : PacketParts) → 20 ≤ length (answer_of own q p)
unfolding answer_of
answer-long own q p = omega (arith, length-message_text (answer_header q.header (reply_result p)) (avps_text (answer_avps own q p)))

answered-said : (own : Reverse) (ps : List ReversePlace) (at : ℕ) (octets : List ℕ) (o : OpenRequest) (p : PacketParts) (asked : Option AskedParts) → IsCounted 0 (takings ps) → WasTaken ps o
    → SpokenBy own ps at (inputs.Reply octets) (answered own o.taken p asked)
answered-said own ps at octets o p None c was = direct-said own ps at (inputs.Reply octets) (Dropped StrangeReply) refl
answered-said own ps at octets o p (Some q) c was = by (is_authentic_reply own o.taken q p)
  where
    a : List ℕ
    a = answer_of own q p

    by : (b : Bool) → SpokenBy own ps at (inputs.Reply octets) (cond b (record { deed = Closes o.taken a; outputs = Answer a ∷ [] }) (says (Dropped StrangeReply)))
    by true = record {
      said = record { first = []; is_first = refl; outputs = sym (one-said 0 o.taken.number (Answer a) (takings ps) c (omega arith) (omega (arith, was.1))) };
      owed = (o.sent, was.0, was.1, answer-long own q p);
    }
    by false = direct-said own ps at (inputs.Reply octets) (Dropped StrangeReply) refl

matched-said : (own : Reverse) (ps : List ReversePlace) (at : ℕ) (octets : List ℕ) (p : PacketParts) (r : Option OpenRequest) → IsCounted 0 (takings ps)
    → ((o : OpenRequest) → r ≡ Some o → WasTaken ps o) → SpokenBy own ps at (inputs.Reply octets) (matched own p r)
matched-said own ps at octets p None c was = direct-said own ps at (inputs.Reply octets) (Dropped StrangeReply) refl
matched-said own ps at octets p (Some o) c was = answered-said own ps at octets o p (request_in o.taken.request) c (was o refl)

packet-said : (own : Reverse) (ps : List ReversePlace) (at : ℕ) (octets : List ℕ) (r : Result PacketParts PacketFault) → IsCounted 0 (takings ps)
    → SpokenBy own ps at (inputs.Reply octets) (on_packet own (open_requests ps) r)
packet-said own ps at octets (Err fault) c = direct-said own ps at (inputs.Reply octets) (Dropped StrangeReply) refl
packet-said own ps at octets (Ok p) c =
    matched-said own ps at octets p (find (has_identifier p.id) (open_requests ps)) c
    (λ o e. each-found (WasTaken ps) (has_identifier p.id) (open_requests ps) o (were-taken ps c) e)

pub input-said : (own : Reverse) (ps : List ReversePlace) (at : ℕ) (input : ReverseInput) → Sound own ps → Spoken own ps (at_input own ps at input)
input-said own ps at (inputs.Request octets random) s = message-said own ps at octets random (read_message octets) s refl
input-said own ps at (inputs.Reply octets) s = packet-said own ps at octets (read_packet octets) s.counted
input-said own ps at inputs.Tick s = record {
  said = record { first = []; is_first = refl; outputs = aged-said own at (λ t. sent_so_far t ps) (takings ps) };
  owed = tt;
}

-- ---- the place after it is sound

asked-after : (own : Reverse) (ps : List ReversePlace) (d : Deed) → IsOwed own ps d → Each IsAsked (takings ps) → Each IsAsked (with_taken d (takings ps))
asked-after own ps Nothing owed all = all
asked-after own ps (Takes u) owed all = each-end IsAsked (takings ps) u all owed.1
asked-after own ps (Repeats k hop) owed all = all
asked-after own ps (Closes u answer) owed all = all
asked-after own ps Ticks owed all = all

-- the answers that are given to all of which no answer is awaited any more
pub each-given : (P : KeptAnswer → Type 0) (own : Reverse) (at : ℕ) (os : List OpenRequest) → Each (λ o. is_spent at o ≡ true → P (given_up own at o)) os
    → Each P (map (given_up own at) (filter (is_spent at) os))
each-given P own at [] all = tt
each-given P own at (o ∷ os) all = by (is_spent at o) refl (each-given P own at os all.1)
  where
    by : (b : Bool) → is_spent at o ≡ b → Each P (map (given_up own at) (filter (is_spent at) os))
        → Each P (map (given_up own at) (cond b (o ∷ filter (is_spent at) os) (filter (is_spent at) os)))
    by true e rest = (all.0 e, rest)
    by false e rest = rest

spent-numbered : (own : Reverse) (ps : List ReversePlace) (at : ℕ) (os : List OpenRequest) → Each (WasTaken ps) os → Each (λ o. is_spent at o ≡ true → (given_up own at o).number < count ps) os
spent-numbered own ps at [] all = tt
spent-numbered own ps at (o ∷ os) all = (let was = all.0 in (λ e. was.1), spent-numbered own ps at os all.1)

given-numbered : (own : Reverse) (ps : List ReversePlace) (d : Deed) (at : ℕ) → IsCounted 0 (takings ps) → IsOwed own ps d
    → Each (λ k. k.number < count ps) (answers_by own d at (open_requests ps))
given-numbered own ps Nothing at c owed = tt
given-numbered own ps (Takes u) at c owed = tt
given-numbered own ps (Repeats k hop) at c owed = tt
given-numbered own ps (Closes u answer) at c owed = (let low : u.number < count ps = owed.2 in low, tt)
given-numbered own ps Ticks at c owed =
    each-given (λ k. k.number < count ps) own at (open_requests ps) (spent-numbered own ps at (open_requests ps) (were-taken ps c))

more-numbered : (n m : ℕ) (ks : List KeptAnswer) → n ≤ m → Each (λ k. k.number < n) ks → Each (λ k. k.number < m) ks
more-numbered n m [] more all = tt
more-numbered n m (k ∷ ks) more all = (let low : k.number < n = all.0 in omega (arith, low, more), more-numbered n m ks more all.1)

early-after : (own : Reverse) (ps : List ReversePlace) (d : Deed) (at : ℕ) (t : Taken) → Sound own ps → IsOwed own ps d → length (with_taken d (takings ps)) ≤ t.number
    → (sent_after d at t None ≡ None) × (said_by own at t None d ≡ [])
early-after own ps Nothing at t s owed low = (refl, refl)
early-after own ps (Takes u) at t s owed low =
    let more : length (takings ps) + 1 ≡ length (takings ps ++ u ∷ []) = count-after (Takes u) (takings ps) in
    let number : u.number ≡ count ps = owed.0 in
    let above : u.number < t.number = omega (arith, more, number, low) in
    let other : eqb t.number u.number ≡ false = grind arith in
    rw other (refl, refl)
early-after own ps (Repeats k hop) at t s owed low =
    let under : k.number < count ps = each-there (λ x. x.number < count ps) (answers own ps) k s.numbered owed in
    let above : k.number < t.number = omega (arith, under, low) in
    let other : eqb t.number k.number ≡ false = grind arith in
    (refl, rw other refl)
early-after own ps (Closes u answer) at t s owed low =
    let under : u.number < count ps = owed.2 in
    let above : u.number < t.number = omega (arith, under, low) in
    let other : eqb t.number u.number ≡ false = grind arith in
    rw other (refl, refl)
early-after own ps Ticks at t s owed low = (refl, refl)

early-place : (own : Reverse) (ps : List ReversePlace) (p : ReversePlace) (t : Taken) → Sound own ps → IsOwed own ps p.deed → count (p ∷ ps) ≤ t.number
    → (sent_so_far t (p ∷ ps) ≡ None) × (said_so_far own t (p ∷ ps) ≡ [])
early-place own ps p t s owed low =
    let more = count-after p.deed (takings ps) in
    let before = s.early t (omega (arith, more, low)) in
    let after = early-after own ps p.deed p.moment t s owed low in (
      ap (sent_after p.deed p.moment t) before.0 ∙ after.0,
      ap (λ os. os ++ said_at own ps p t) before.1 ∙ ap (λ o. said_by own p.moment t o p.deed) before.0 ∙ after.1,
    )

sound-place : (own : Reverse) (ps : List ReversePlace) (p : ReversePlace) → Sound own ps → IsFresh p.deed (count ps) → IsOwed own ps p.deed → Sound own (p ∷ ps)
sound-place own ps p s fresh owed =
    let more = count-after p.deed (takings ps) in
    let all = each-append (λ k. k.number < count ps) (answers own ps) (answers_by own p.deed p.moment (open_requests ps)) s.numbered (given-numbered own ps p.deed p.moment s.counted owed) in
    record {
      counted = counted-after p.deed (takings ps) fresh s.counted;
      asked = asked-after own ps p.deed owed s.asked;
      numbered = more-numbered (count ps) (count (p ∷ ps)) (answers own (p ∷ ps)) (omega (arith, more)) all;
      early = λ t low. early-place own ps p t s owed low;
    }

pub sound-event : (own : Reverse) (ps : List ReversePlace) (e : ReverseEvent) → Sound own ps → Sound own (place own ps e ∷ ps)
sound-event own ps e s =
    let at = max (now ps) e.moment in
    sound-place own ps (place own ps e) s (fresh-input own (open_requests ps) (kept_answers own ps at) (count ps) at e.input) (input-said own ps at e.input s).owed

sound-places : (own : Reverse) (ps : List ReversePlace) (es : List ReverseEvent) → Sound own ps → Sound own (places own ps es)
sound-places own ps [] s = s
sound-places own ps (e ∷ es) s = sound-places own (place own ps e ∷ ps) es (sound-event own ps e s)

pub sound-none : (own : Reverse) → Sound own []
sound-none own = record { counted = tt; asked = tt; numbered = tt; early = λ t low. (refl, refl) }

pub sound-past : (own : Reverse) (history : List ReverseEvent) → Sound own (past own history)
sound-past own history = sound-places own [] history (sound-none own)

pub all-said : (own : Reverse) (history : List ReverseEvent) (e : ReverseEvent) → IsSaid own (past own history) (place own (past own history) e)
all-said own history e =
    let ps = past own history in
    (input-said own ps (max (now ps) e.moment) e.input (sound-past own history)).said
