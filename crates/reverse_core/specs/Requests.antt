-- The requests that were taken up: those that are open, until their answers, and what is kept of the others (profile).
use Rattle.std.specs.Prelude.{ℕ, ◌+◌, Bool, nat_le, nat_lt, ◌==◌, ◌&&◌, not, List, [], ◌∷◌, ◌++◌, map, filter, Option, Some, None, if◌then◌else◌}
use Rattle.reverse_map.specs.declared.own.Reverse.{Reverse}
use Rattle.reverse_map.specs.Asked.{AskedParts, request_in}
use Rattle.reverse_map.specs.Answers.{refusal}
use Rattle.reverse_core.specs.declared.requests.Taken.{Taken}
use Rattle.reverse_core.specs.declared.requests.Sent.{Sent}
use Rattle.reverse_core.specs.declared.requests.OpenRequest.{OpenRequest}
use Rattle.reverse_core.specs.declared.requests.KeptAnswer.{KeptAnswer}

-- what an input does to the requests: nothing; it is taken up as one more; it comes again, and gets a kept answer with this
-- hop; it answers an open one; time passes for all that are open
pub data Deed : Type 0 where
  Nothing : Deed
  Takes : Taken → Deed
  Repeats : KeptAnswer → ℕ → Deed
  Closes : Taken → List ℕ → Deed
  Ticks : Deed

-- ---- open ones

-- the answer to a packet is overdue two seconds after its last sending
abbrev pub is_due : ℕ → Sent → Bool
is_due moment s = nat_le (s.last + 2000) moment

-- it is sent three times at most
abbrev pub is_last : Sent → Bool
is_last s = nat_le 3 s.times

-- no answer is awaited any more
abbrev pub is_spent : ℕ → OpenRequest → Bool
is_spent moment o = is_due moment o.sent && is_last o.sent

abbrev pub first_sent : ℕ → Sent
first_sent moment = record { times = 1; last = moment }

abbrev pub sent_again : ℕ → Sent → Sent
sent_again moment s = if is_due moment s && not (is_last s) then record { times = s.times + 1; last = moment } else s

abbrev pub renewed : ℕ → OpenRequest → OpenRequest
renewed moment o = record { taken = o.taken; sent = sent_again moment o.sent }

-- those that are open after it
abbrev pub after : Deed → ℕ → List OpenRequest → List OpenRequest
after Nothing moment os = os
after (Takes t) moment os = os ++ record { taken = t; sent = first_sent moment } ∷ []
after (Repeats k hop) moment os = os
after (Closes t answer) moment os = filter (λ o. not (o.taken.number == t.number)) os
after Ticks moment os = map (renewed moment) (filter (λ o. not (is_spent moment o)) os)

-- ---- answered ones

-- an answer without images to a request that was taken up, which always asks something
abbrev pub refusal_to : Reverse → Option AskedParts → ℕ → List ℕ
refusal_to own None code = []
refusal_to own (Some q) code = refusal own q code

-- DIAMETER_UNABLE_TO_DELIVER (RFC 6733, section 7.1.3): the RADIUS server doesn't answer
abbrev pub silence : Reverse → Taken → List ℕ
silence own t = refusal_to own (request_in t.request) 3002

abbrev pub kept_answer : Taken → ℕ → List ℕ → KeptAnswer
kept_answer t moment answer = record { number = t.number; key = t.key; at = moment; answer = answer }

abbrev pub given_up : Reverse → ℕ → OpenRequest → KeptAnswer
given_up own moment o = kept_answer o.taken moment (silence own o.taken)

-- the answers that it gives
abbrev pub answers_by : Reverse → Deed → ℕ → List OpenRequest → List KeptAnswer
answers_by own Nothing moment os = []
answers_by own (Takes t) moment os = []
answers_by own (Repeats k hop) moment os = []
answers_by own (Closes t answer) moment os = kept_answer t moment answer ∷ []
answers_by own Ticks moment os = map (given_up own moment) (filter (is_spent moment) os)

-- an answer is kept for the retention
abbrev pub is_kept : Reverse → ℕ → KeptAnswer → Bool
is_kept own moment k = nat_lt moment (k.at + own.retention)
