-- What was put into a queue and taken out of it, by the turns at its turnstile (profile).
use Rattle.std.specs.Prelude.{◌≡◌, ◌≢◌, ℕ, List, [], ◌∷◌, ◌++◌, flat_map, Option, Some, None}
use Rattle.std.specs.Option.{option_to_list}
use Rattle.turnstile.specs.Turns.{StartsWith}
use Rattle.run_record.specs.declared.entry.Entry.{Entry}
use Rattle.run_record.specs.declared.queue.Asked.{Asked}
use Rattle.run_record.specs.declared.queue.Asked.TheVariants.{Put, Take, Stop, End}
use Rattle.run_record.specs.declared.queue.Given.{Given}
use Rattle.run_record.specs.declared.queue.Queue.{Queue}

abbrev pub put_at : Option (Asked × Given) → List Entry
put_at (Some (Put entries last, given)) = entries ++ option_to_list last
put_at turn = []

abbrev pub taken_at : Option (Asked × Given) → List Entry
taken_at (Some (Take room, given)) = given.entries
taken_at turn = []

-- what was put in, and what was taken out, in order
abbrev pub puts : List (Option (Asked × Given)) → List Entry
puts turns = flat_map put_at turns

abbrev pub takes : List (Option (Asked × Given)) → List Entry
takes turns = flat_map taken_at turns

-- the moments from which on nothing more was to be kept, since a write failed
abbrev pub stop_at : Option (Asked × Given) → List ℕ
stop_at (Some (Stop moment, given)) = moment ∷ []
stop_at turn = []

abbrev pub stops : List (Option (Asked × Given)) → List ℕ
stops turns = flat_map stop_at turns

-- what a step makes of a queue: of its entries and of its closing, and what it gives
abbrev pub Acts : Asked → List Entry → Queue → Queue → Type 0
Acts (Put entries last) given old new =
    (given ≡ [])
    × (new.closed ≡ None → (old.closed ≡ None) × (new.entries ≡ old.entries ++ (entries ++ option_to_list last)))
    × (new.closed ≢ None → new.entries ≡ old.entries)
Acts (Take room) given old new = (given ≡ old.entries) × (new.entries ≡ []) × (new.closed ≡ old.closed)
Acts (Stop moment) given old new = (given ≡ []) × (new.entries ≡ old.entries) × (new.closed ≢ None)
Acts End given old new = (given ≡ []) × (new.entries ≡ old.entries) × (new.closed ≡ old.closed)

-- What was taken and what is still there begin what was put in, and are all of it while the queue isn't closed. No write
-- has failed until then.
pub record HoldsFor (queue : Queue) (turns : List (Option (Asked × Given))) : Type 0 where
  pub begins : StartsWith (puts turns) (takes turns ++ queue.entries)
  pub whole : queue.closed ≡ None → takes turns ++ queue.entries ≡ puts turns
  pub unstopped : queue.closed ≡ None → stops turns ≡ []
