-- The places of a history, and what a search of the earlier ones finds. Nothing here has a table, an index, an expiry or
-- a counter: the history is searched at each place.
use Rattle.std.specs.Prelude.{ℕ, ◌==◌, ◌&&◌, List, [], ◌∷◌, ◌++◌, filter, length, Option, Some, None, option_and_then, if◌then◌else◌}
use Rattle.reverse_map.specs.declared.own.Reverse.{Reverse}
use Rattle.reverse_core.specs.declared.events.ReverseInput.{ReverseInput}
use Rattle.reverse_core.specs.declared.events.ReverseOutput.{ReverseOutput}
use Rattle.reverse_core.specs.declared.requests.Taken.{Taken}
use Rattle.reverse_core.specs.declared.requests.Sent.{Sent}
use Rattle.reverse_core.specs.declared.requests.OpenRequest.{OpenRequest}
use Rattle.reverse_core.specs.declared.requests.KeptAnswer.{KeptAnswer}
use Rattle.reverse_core.specs.Requests.{Deed, Nothing, Takes, Repeats, Closes, Ticks, is_due, is_last, is_kept, first_sent, sent_again, answers_by}

-- an input and the moment that came with it
pub record ReverseEvent : Type 0 where
  pub moment : ℕ
  pub input : ReverseInput

-- what happened at a place of the history: the greatest moment so far, the input, what it did to the requests, and what
-- went out
pub record ReversePlace : Type 0 where
  pub moment : ℕ
  pub input : ReverseInput
  pub deed : Deed
  pub outputs : List ReverseOutput

-- The places before an input are a list, the newest first.

-- the greatest moment so far
abbrev pub now : List ReversePlace → ℕ
now [] = 0
now (p ∷ ps) = p.moment

-- ---- open ones

abbrev pub with_taken : Deed → List Taken → List Taken
with_taken (Takes t) list = list ++ t ∷ []
with_taken deed list = list

-- the requests that were taken up, in the order of taking
abbrev pub takings : List ReversePlace → List Taken
takings [] = []
takings (p ∷ ps) = with_taken p.deed (takings ps)

-- how many they are
abbrev pub count : List ReversePlace → ℕ
count ps = length (takings ps)

abbrev pub sent_until : ℕ → Sent → Option Sent
sent_until moment s = if is_due moment s && is_last s then None else Some (sent_again moment s)

-- what was sent of a request, once more happened
abbrev pub sent_after : Deed → ℕ → Taken → Option Sent → Option Sent
sent_after Nothing moment t before = before
sent_after (Takes u) moment t before = if t.number == u.number then Some (first_sent moment) else before
sent_after (Repeats k hop) moment t before = before
sent_after (Closes u answer) moment t before = if t.number == u.number then None else before
sent_after Ticks moment t before = option_and_then (sent_until moment) before

-- how often the packet of a request was sent, and when last; None where the request isn't open
abbrev pub sent_so_far : Taken → List ReversePlace → Option Sent
sent_so_far t [] = None
sent_so_far t (p ∷ ps) = sent_after p.deed p.moment t (sent_so_far t ps)

abbrev pub if_open : Taken → Option Sent → List OpenRequest
if_open t None = []
if_open t (Some s) = record { taken = t; sent = s } ∷ []

-- those of these that are open
abbrev pub open_among : (Taken → Option Sent) → List Taken → List OpenRequest
open_among sent [] = []
open_among sent (t ∷ list) = if_open t (sent t) ++ open_among sent list

-- the open requests, in the order of taking
abbrev pub open_requests : List ReversePlace → List OpenRequest
open_requests ps = open_among (λ t. sent_so_far t ps) (takings ps)

-- ---- answered ones

-- the answers that requests got, in the order of answering
abbrev pub answers : Reverse → List ReversePlace → List KeptAnswer
answers own [] = []
answers own (p ∷ ps) = answers own ps ++ answers_by own p.deed p.moment (open_requests ps)

-- those that are kept at this moment
abbrev pub kept_answers : Reverse → List ReversePlace → ℕ → List KeptAnswer
kept_answers own ps moment = filter (is_kept own moment) (answers own ps)
