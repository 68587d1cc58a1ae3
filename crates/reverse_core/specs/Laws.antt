-- Laws of the rule, for every history.
use Rattle.std.specs.Prelude.{◌≡◌, ℕ, ◌%◌, ◌≤◌, Bool, true, false, ◌==◌, List, [], ◌∷◌, ◌++◌, length, take, drop, count_by, Option, Some, None, ◌⊎◌, Ok, if◌then◌else◌}
use Rattle.std.specs.List.{AllByRecursion as Each, Contains, list_any, flat_map}
use Rattle.reverse_map.specs.declared.own.Reverse.{Reverse}
use Rattle.reverse_map.specs.Asked.{AskedParts, direction_of, request_in}
use Rattle.reverse_map.specs.Answers.{refusal}
use Rattle.reverse_map.specs.Requests.{request_image}
use Rattle.reverse_core.specs.declared.events.ReverseInput.{ReverseInput}
use Rattle.reverse_core.specs.declared.events.ReverseInput.TheVariants as inputs
use Rattle.reverse_core.specs.declared.events.ReverseOutput.{ReverseOutput}
use Rattle.reverse_core.specs.declared.events.ReverseOutput.TheVariants.{Send, Answer, Dropped}
use Rattle.reverse_core.specs.declared.events.ReverseReason.{ReverseReason}
use Rattle.reverse_core.specs.declared.events.ReverseReason.TheVariants.{StrangeReply}
use Rattle.reverse_core.specs.declared.requests.Taken.{Taken}
use Rattle.reverse_core.specs.declared.requests.Sent.{Sent}
use Rattle.reverse_core.specs.Keys.{same_key, key_of}
use Rattle.reverse_core.specs.Requests.{Deed, Nothing, Takes, Repeats, Closes, Ticks}
use Rattle.reverse_core.specs.Places.{ReverseEvent, ReversePlace, takings, count, sent_so_far, open_requests, kept_answers}
use Rattle.reverse_core.specs.History.{with_hop, overdue, place, past}

-- ---- what is said of a request

-- what goes out for a request where this is done, and this was sent of it before
abbrev pub said_by : Reverse → ℕ → Taken → Option Sent → Deed → List ReverseOutput
said_by own moment t before Nothing = []
said_by own moment t before (Takes u) = if t.number == u.number then Send t.sent ∷ [] else []
said_by own moment t before (Repeats k hop) = if t.number == k.number then Answer (with_hop hop k.answer) ∷ [] else []
said_by own moment t before (Closes u answer) = if t.number == u.number then Answer answer ∷ [] else []
said_by own moment t None Ticks = []
said_by own moment t (Some s) Ticks = overdue own moment (record { taken = t; sent = s })

abbrev pub said_at : Reverse → List ReversePlace → ReversePlace → Taken → List ReverseOutput
said_at own ps p t = said_by own p.moment t (sent_so_far t ps) p.deed

-- what went out for it
abbrev pub said_so_far : Reverse → Taken → List ReversePlace → List ReverseOutput
said_so_far own t [] = []
said_so_far own t (p ∷ ps) = said_so_far own t ps ++ said_at own ps p t

-- ---- what goes out

-- DIAMETER_TOO_BUSY, DIAMETER_AVP_UNSUPPORTED, DIAMETER_UNABLE_TO_COMPLY (RFC 6733, section 7.1)
abbrev pub IsRefusal : Reverse → AskedParts → ReverseOutput → Type 0
IsRefusal own q o = (o ≡ Answer (refusal own q 3004)) ⊎ (o ≡ Answer (refusal own q 5001)) ⊎ (o ≡ Answer (refusal own q 5012))

-- what an input leads to that takes no request up and answers none: a drop, or a refusal of what it asks
abbrev pub IsDirect : Reverse → ReverseInput → ReverseOutput → Type 0
IsDirect own (inputs.Request octets random) o =
    ((reason : ReverseReason) × (o ≡ Dropped reason)) ⊎ ((q : AskedParts) × (request_in octets ≡ Some q) × IsRefusal own q o)
IsDirect own (inputs.Reply octets) o = o ≡ Dropped StrangeReply
IsDirect own inputs.Tick o = ⊥

-- what goes out before what is said of requests: one direct output, or nothing
abbrev pub IsFirst : Reverse → ReverseInput → Deed → List ReverseOutput → Type 0
IsFirst own input Nothing os = (o : ReverseOutput) × IsDirect own input o × (os ≡ o ∷ [])
IsFirst own input (Takes t) os = os ≡ []
IsFirst own input (Repeats k hop) os = os ≡ []
IsFirst own input (Closes t answer) os = os ≡ []
IsFirst own input Ticks os = os ≡ []

-- what goes out at a place is that, and then what is said of each request that was taken up, in the order of taking
pub record IsSaid (own : Reverse) (ps : List ReversePlace) (p : ReversePlace) : Type 0 where
  pub first : List ReverseOutput
  pub is_first : IsFirst own p.input p.deed first
  pub outputs : p.outputs ≡ first ++ flat_map (said_at own ps p) (takings (p ∷ ps))

abbrev pub OutputsAreSaid : Type 0
OutputsAreSaid = (own : Reverse) (history : List ReverseEvent) (e : ReverseEvent) → IsSaid own (past own history) (place own (past own history) e)

-- ---- the packets of a request

abbrev pub is_send : ReverseOutput → Bool
is_send (Send octets) = true
is_send (Answer octets) = false
is_send (Dropped reason) = false

-- three go out at most
abbrev pub IsLimited : Reverse → List ReversePlace → Taken → Type 0
IsLimited own ps t = count_by is_send (said_so_far own t ps) ≤ 3

abbrev pub RequestsAreLimited : Type 0
RequestsAreLimited = (own : Reverse) (history : List ReverseEvent) → Each (IsLimited own (past own history)) (takings (past own history))

-- each time with the same octets
abbrev pub IsOfIts : Taken → ReverseOutput → Type 0
IsOfIts t (Send octets) = octets ≡ t.sent
IsOfIts t (Answer octets) = Unit {0}
IsOfIts t (Dropped reason) = Unit {0}

abbrev pub PacketsAreTheSame : Type 0
PacketsAreTheSame = (own : Reverse) (history : List ReverseEvent)
    → Each (λ t. Each (IsOfIts t) (said_so_far own t (past own history))) (takings (past own history))

-- which are those that the request becomes, with the identifier of its number
pub record IsImage (own : Reverse) (ps : List ReversePlace) (octets random : List ℕ) (t : Taken) : Type 0 where
  pub q : AskedParts
  pub asked : request_in octets ≡ Some q
  pub number : t.number ≡ count ps
  pub key : t.key ≡ key_of q
  pub image : request_image (direction_of q.header) (t.number % 256) random own.secret q.avps ≡ Ok t.sent

abbrev pub IsOfInput : Reverse → List ReversePlace → ReverseInput → Taken → Type 0
IsOfInput own ps (inputs.Request octets random) t = IsImage own ps octets random t
IsOfInput own ps (inputs.Reply octets) t = ⊥
IsOfInput own ps inputs.Tick t = ⊥

abbrev pub PacketsAreImages : Type 0
PacketsAreImages = (own : Reverse) (history : List ReverseEvent) (e : ReverseEvent) (t : Taken)
    → (place own (past own history) e).deed ≡ Takes t → IsOfInput own (past own history) e.input t

-- ---- the answers of a request

-- they differ in octets 12 to 15 alone
pub record DifferInHop (a b : List ℕ) : Type 0 where
  pub length_same : length a ≡ length b
  pub before : take 12 a ≡ take 12 b
  pub behind : drop 16 a ≡ drop 16 b

abbrev pub AreAlike : List ReverseOutput → Type 0
AreAlike os = (a b : List ℕ) → Contains os (Answer a) → Contains os (Answer b) → DifferInHop a b

abbrev pub AnswersDifferInTheHop : Type 0
AnswersDifferInTheHop = (own : Reverse) (history : List ReverseEvent) → Each (λ t. AreAlike (said_so_far own t (past own history))) (takings (past own history))

-- ---- keys

-- no request that is open or kept has this key
pub record IsFree (own : Reverse) (ps : List ReversePlace) (p : ReversePlace) (t : Taken) : Type 0 where
  pub open_none : list_any (λ o. same_key o.taken.key t.key) (open_requests ps) ≡ false
  pub kept_none : list_any (λ k. same_key k.key t.key) (kept_answers own ps p.moment) ≡ false

abbrev pub KeysAreApart : Type 0
KeysAreApart = (own : Reverse) (history : List ReverseEvent) (e : ReverseEvent) (t : Taken)
    → (place own (past own history) e).deed ≡ Takes t → IsFree own (past own history) (place own (past own history) e) t
