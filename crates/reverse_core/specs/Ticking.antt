-- Internal: what a reply and a Tick lead to, as the code comes to it.
use Rattle.std.specs.Prelude.{◌≡◌, ℕ, ◌≤◌, List, [], ◌∷◌, length, map, filter, Option, Some, None}
use Rattle.reverse_map.specs.declared.own.Reverse.{Reverse}
use Rattle.reverse_core.specs.declared.events.ReverseOutput.TheVariants.{Answer, Dropped}
use Rattle.reverse_core.specs.declared.events.ReverseReason.TheVariants.{StrangeReply}
use Rattle.reverse_core.specs.declared.requests.Taken.{Taken}
use Rattle.reverse_core.specs.declared.requests.OpenRequest.{OpenRequest}
use Rattle.reverse_core.specs.Requests.{Closes, is_spent, silence}
use Rattle.reverse_core.specs.History.{Outcome, says}

-- a reply to this request has no answer, or this one
abbrev pub AnswersBy : Outcome → Taken → Option (List ℕ) → Type 0
AnswersBy o t None = o ≡ says (Dropped StrangeReply)
AnswersBy o t (Some answer) = (o ≡ record { deed = Closes t answer; outputs = Answer answer ∷ [] }) × (20 ≤ length answer)

-- the same, where a request is found
abbrev pub Matches : Outcome → Option OpenRequest → Option (List ℕ) → Type 0
Matches o None None = o ≡ says (Dropped StrangeReply)
Matches o None (Some answer) = ⊥
Matches o (Some found) answer = AnswersBy o found.taken answer

-- the answers to those of which no answer is awaited any more
abbrev pub silences : Reverse → ℕ → List OpenRequest → List (List ℕ)
silences own moment os = map (λ o. silence own o.taken) (filter (is_spent moment) os)
