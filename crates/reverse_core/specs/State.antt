-- Internal: what a step does to what is kept.
use Rattle.std.specs.Prelude.{◌≡◌, ℕ, ◌+◌, ◌<◌, ◌≤◌, ◌%◌, ◌^◌, List, [], ◌∷◌, ◌++◌, length, filter, find, Option, Some, None, if◌then◌else◌}
use Rattle.std.specs.List.{AllByRecursion}
use Rattle.std.specs.Option.{option_or}
use Rattle.std.specs.HashMap.{get}
use Rattle.reverse_core.specs.declared.key.Key.{Key}
use Rattle.reverse_core.specs.declared.events.ReverseInput.{ReverseInput}
use Rattle.reverse_core.specs.declared.events.ReverseOutput.{ReverseOutput}
use Rattle.reverse_core.specs.declared.requests.Taken.{Taken}
use Rattle.reverse_core.specs.declared.requests.OpenRequest.{OpenRequest}
use Rattle.reverse_core.specs.declared.requests.KeptAnswer.{KeptAnswer}
use Rattle.reverse_core.specs.declared.ledger.Ledger.{Ledger}
use Rattle.reverse_core.specs.declared.ledger.Standing.{Standing}
use Rattle.reverse_core.specs.declared.ledger.Standing.TheVariants as standing
use Rattle.reverse_core.specs.Keys.{same_key}
use Rattle.reverse_core.specs.Requests.{Deed, Takes, after, answers_by, is_kept}
use Rattle.reverse_core.specs.History.{Outcome, has_identifier, on_input}
use Rattle.reverse_core.specs.Standing.{ReverseState}
use Rattle.reverse_core.specs.Windows.{Pairs, IsNoLater}

abbrev pub state_of : Ledger → ReverseState
state_of l = record { own = l.own; count = l.open_ones.next; open_ones = l.open_ones.list; kept = l.kept.list; moment = l.moment }

-- the answers that are still to be kept
abbrev pub kept_in : ReverseState → ℕ → List KeptAnswer
kept_in S at = filter (is_kept S.own at) S.kept

-- how many requests are taken up
abbrev pub takes : Deed → ℕ
takes (Takes t) = 1
takes deed = 0

-- the deed is done at this moment
pub record Does (at : ℕ) (deed : Deed) (old new : ReverseState) : Type 0 where
  pub own : new.own ≡ old.own
  pub count : new.count ≡ old.count + takes deed
  pub open_ones : new.open_ones ≡ after deed at old.open_ones
  pub kept : kept_in new at ≡ filter (is_kept old.own at) (old.kept ++ answers_by old.own deed at old.open_ones)
  pub moment : new.moment ≡ at

-- what an input leads to
abbrev pub outcome_of : ReverseState → ℕ → ReverseInput → Outcome
outcome_of S at input = on_input S.own S.open_ones (kept_in S at) S.count at input

-- it goes out, and is done
pub record Leads (at : ℕ) (o : Outcome) (old new : ReverseState) (outs : List ReverseOutput) : Type 0 where
  pub outputs : outs ≡ o.outputs
  pub done : Does at o.deed old new

-- ---- the index of keys

-- where the request of a key stands: among the open ones, or among the kept answers, by how many were given before it
abbrev pub open_standing : Key → List OpenRequest → Option Standing
open_standing key [] = None
open_standing key (o ∷ os) = if same_key o.taken.key key then Some standing.Open else open_standing key os

abbrev pub kept_standing : Key → ℕ → List KeptAnswer → Option Standing
kept_standing key n [] = None
kept_standing key n (k ∷ ks) = if same_key k.key key then Some (standing.Kept n) else kept_standing key (n + 1) ks

abbrev pub standing_of : Key → List OpenRequest → ℕ → List KeptAnswer → Option Standing
standing_of key os n ks = option_or (open_standing key os) (kept_standing key n ks)

-- how many requests have this key
abbrev pub count_open : Key → List OpenRequest → ℕ
count_open key [] = 0
count_open key (o ∷ os) = count_open key os + (if same_key o.taken.key key then 1 else 0)

abbrev pub count_kept : Key → List KeptAnswer → ℕ
count_kept key [] = 0
count_kept key (k ∷ ks) = count_kept key ks + (if same_key k.key key then 1 else 0)

-- what a ledger always keeps
pub record IsSound (l : Ledger) : Type 0 where
  pub host : length l.own.host ≤ 64
  pub realm : length l.own.realm ≤ 64
  pub index : (key : Key) → get same_key l.index key ≡ standing_of key l.open_ones.list l.kept.dropped l.kept.list
  pub single : (key : Key) → count_open key l.open_ones.list + count_kept key l.kept.list ≤ 1
  pub few : length l.open_ones.list + length l.kept.list ≤ 4096
  pub counted : l.kept.dropped + length l.kept.list + length l.open_ones.list ≤ l.open_ones.next
  pub fits : l.open_ones.next < 2 ^ 64
  pub cooled : Pairs IsNoLater l.kept.list
  pub by : AllByRecursion (λ k. k.at ≤ l.moment) l.kept.list
  pub sent_by : AllByRecursion (λ o. o.sent.last ≤ l.moment) l.open_ones.list

-- there is room for it
pub record MayTake (os : List OpenRequest) (ks : List KeptAnswer) (n : ℕ) (t : Taken) : Type 0 where
  pub number : t.number ≡ n
  pub key : count_open t.key os + count_kept t.key ks ≡ 0
  pub few : length os + length ks < 4096
  pub free : find (has_identifier (n % 256)) os ≡ None
