-- The places of a history of the book, and what a search of the earlier ones finds. Nothing here has a table, an index or
-- a counter: the history is searched at each place.
use Rattle.std.specs.Prelude.{ℕ, ◌==◌, List, [], ◌∷◌, ◌++◌, length, Option, Some, None, option_and_then, option_to_list, if◌then◌else◌}
use Rattle.agent_core.specs.Places as core
use Rattle.session_book.specs.declared.aborts.Abort.{Abort}
use Rattle.session_book.specs.declared.aborts.OpenAbort.{OpenAbort}
use Rattle.session_book.specs.declared.aborts.Sent.{Sent}
use Rattle.session_book.specs.declared.events.BookInput.{BookInput}
use Rattle.session_book.specs.declared.events.BookOutput.{BookOutput}
use Rattle.session_book.specs.Aborts.{Deed, Nothing, Opens, Answers, Ages, Ends, is_spent, first_sent, sent_again}
use Rattle.session_book.specs.Book.{Row, Change, changed}

-- an input and the moment that came with it
pub record BookEvent : Type 0 where
  pub moment : ℕ
  pub input : BookInput

-- what happened at a place of the history: the greatest moment so far, the input, the event that the core was given, what
-- was done to the book and to the aborts, and what went out
pub record BookPlace : Type 0 where
  pub moment : ℕ
  pub input : BookInput
  pub passed : Option core.Event
  pub change : Change
  pub deed : Deed
  pub outputs : List BookOutput

-- The places before an input are a list, the newest first.

-- the greatest moment so far
abbrev pub now : List BookPlace → ℕ
now [] = 0
now (p ∷ ps) = p.moment

-- the core's history: the events that it was given, the oldest first
abbrev pub core_history : List BookPlace → List core.Event
core_history [] = []
core_history (p ∷ ps) = core_history ps ++ option_to_list p.passed

-- the book
abbrev pub book : ℕ → List BookPlace → List Row
book capacity [] = []
book capacity (p ∷ ps) = changed capacity p.change (book capacity ps)

-- ---- aborts

abbrev pub with_opened : Deed → List Abort → List Abort
with_opened (Opens a) list = list ++ a ∷ []
with_opened deed list = list

-- the aborts that were opened, in the order of opening
abbrev pub opened : List BookPlace → List Abort
opened [] = []
opened (p ∷ ps) = with_opened p.deed (opened ps)

abbrev pub sent_until : ℕ → Sent → Option Sent
sent_until moment s = if is_spent moment s then None else Some (sent_again moment s)

-- the same once more happened
abbrev pub sent_after : Deed → ℕ → Abort → Option Sent → Option Sent
sent_after Nothing moment a before = before
sent_after (Opens b) moment a before = if a.number == b.number then Some (first_sent moment) else before
sent_after (Answers b ended) moment a before = if a.number == b.number then None else before
sent_after Ages moment a before = option_and_then (sent_until moment) before
sent_after Ends moment a before = None

-- how often the Disconnect-Request of an abort was sent, and when last; None where the abort isn't open
abbrev pub sent_so_far : Abort → List BookPlace → Option Sent
sent_so_far a [] = None
sent_so_far a (p ∷ ps) = sent_after p.deed p.moment a (sent_so_far a ps)

abbrev pub if_open : Abort → Option Sent → List OpenAbort
if_open a None = []
if_open a (Some s) = record { abort = a; sent = s } ∷ []

-- those of these that are open
abbrev pub open_among : (Abort → Option Sent) → List Abort → List OpenAbort
open_among sent [] = []
open_among sent (a ∷ list) = if_open a (sent a) ++ open_among sent list

-- the open aborts, in the order of opening
abbrev pub open_aborts : List BookPlace → List OpenAbort
open_aborts ps = open_among (λ a. sent_so_far a ps) (opened ps)

-- how many were opened
abbrev pub count : List BookPlace → ℕ
count ps = length (opened ps)
