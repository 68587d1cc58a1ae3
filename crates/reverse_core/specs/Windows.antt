-- Internal: the open requests in a window over their numbers, and the kept answers in a queue.
use Rattle.std.specs.Prelude.{◌≡◌, ℕ, ◌+◌, ◌-◌, ◌<◌, ◌≤◌, ◌^◌, nat_lt, Bool, true, List, [], ◌∷◌, ◌++◌, length, slice_get, Option, Some, None, map, option_and_then, option_map, option_to_list, ⊤, false, if◌then◌else◌}
use Rattle.std.specs.List.{flat_map, AllByRecursion}
use Rattle.reverse_core.specs.declared.requests.OpenRequest.{OpenRequest}
use Rattle.reverse_core.specs.declared.requests.KeptAnswer.{KeptAnswer}
use Rattle.reverse_core.specs.Requests.{is_due}

-- ---- open requests

-- R holds of each one and each later one
abbrev pub Pairs : {X : Type 0} → (X → X → Type 0) → List X → Type 0
Pairs R [] = ⊤
Pairs R (x ∷ xs) = AllByRecursion (R x) xs × Pairs R xs

abbrev pub IsSentBefore : OpenRequest → OpenRequest → Type 0
IsSentBefore o q = o.sent.last ≤ q.sent.last

-- those that are open, in the order of taking, and the number of the next request
pub record OpenParts : Type 0 where
  pub list : List OpenRequest
  pub next : ℕ

-- the requests in these slots
abbrev pub filled : List (Option OpenRequest) → List OpenRequest
filled slots = flat_map option_to_list slots

-- what is in the slot at this place, if there is one
abbrev pub slot_at : List (Option OpenRequest) → ℕ → Option OpenRequest
slot_at slots place = option_and_then (λ s. s) (slice_get slots place)

-- the requests in the slots have the numbers from n on, a slot each
abbrev pub IsNumbered : ℕ → List (Option OpenRequest) → Type 0
IsNumbered n [] = ⊤
IsNumbered n (None ∷ slots) = IsNumbered (n + 1) slots
IsNumbered n (Some o ∷ slots) = (o.taken.number ≡ n) × IsNumbered (n + 1) slots

-- the numbers of the requests in the slots
abbrev pub numbers : List (Option OpenRequest) → List (Option ℕ)
numbers slots = map (option_map (λ o. o.taken.number)) slots

-- the packets of these were sent so often, and the later ones last
pub record IsSent (times : ℕ) (slots : List (Option OpenRequest)) : Type 0 where
  pub times_are : AllByRecursion (λ o. o.sent.times ≡ times) (filled slots)
  pub rising : Pairs IsSentBefore (filled slots)

-- what holds of how often and when they were sent still holds
abbrev pub KeepsSent : List (Option OpenRequest) → List (Option OpenRequest) → Type 0
KeepsSent old new = (times : ℕ) → IsSent times old → IsSent times new

-- three queues, of packets that were sent three times, twice and once, with a slot for each number from `first` on
pub record IsWindow (first : ℕ) (thrice twice once : List (Option OpenRequest)) (count room3 room2 room1 : ℕ) : Type 0 where
  pub numbered : IsNumbered first (thrice ++ twice ++ once)
  pub few : length thrice + length twice + length once ≤ 256
  pub fits : first + length (thrice ++ twice ++ once) < 2 ^ 64
  pub counted : count ≡ length (filled (thrice ++ twice ++ once))
  pub thrice_sent : IsSent 3 thrice
  pub twice_sent : IsSent 2 twice
  pub once_sent : IsSent 1 once
  pub room_thrice : 256 ≤ room3
  pub room_twice : 256 ≤ room2
  pub room_once : 256 ≤ room1

-- so long are they
pub record HasLengths (thrice twice once : List (Option OpenRequest)) (n m k : ℕ) : Type 0 where
  pub thrice_is : length thrice ≡ n
  pub twice_is : length twice ≡ m
  pub once_is : length once ≡ k

-- whether the first slot is empty, or that of a request whose answer is overdue
abbrev pub is_first_passed : ℕ → List (Option OpenRequest) → Bool
is_first_passed moment [] = false
is_first_passed moment (None ∷ slots) = true
is_first_passed moment (Some o ∷ slots) = is_due moment o.sent

-- one request is taken out
pub record TakesOut (o : OpenRequest) (old new : List OpenRequest) : Type 0 where
  pub before : List OpenRequest
  pub behind : List OpenRequest
  pub old_is : old ≡ before ++ o ∷ behind
  pub new_is : new ≡ before ++ behind

-- ---- kept answers

-- those that are kept, in the order of answering, and how many earlier ones were dropped
pub record KeptParts : Type 0 where
  pub dropped : ℕ
  pub list : List KeptAnswer

-- the answer before which this many were given
abbrev pub kept_at : KeptParts → ℕ → Option KeptAnswer
kept_at k n = if nat_lt n k.dropped then None else slice_get k.list (n - k.dropped)

abbrev pub IsNoLater : KeptAnswer → KeptAnswer → Type 0
IsNoLater k l = k.at ≤ l.at

-- whether the first one is there and meets the test
abbrev pub is_first : {X : Type 0} → (X → Bool) → List X → Bool
is_first test [] = false
is_first test (x ∷ xs) = test x
