-- Laws of the rule, for every history.
use Rattle.std.specs.Prelude.{◌≡◌, ℕ, ◌+◌, ◌≤◌, Bool, true, false, ◌==◌, List, [], ◌∷◌, ◌++◌, map, count_by, Option, Some, None, IfSome, ◌⊎◌, ◌↔◌, if◌then◌else◌}
use Rattle.std.specs.List.{AllByRecursion as Each, Contains, flat_map}
use Rattle.std.specs.Option.{IsSome}
use Rattle.agent_settings.specs.declared.config.Config.{Config}
use Rattle.agent_core.specs.Places as core
use Rattle.agent_core.specs.History.{outputs_after}
use Rattle.session_book.specs.declared.aborts.Abort.{Abort}
use Rattle.session_book.specs.declared.aborts.Sent.{Sent}
use Rattle.session_book.specs.declared.events.BookInput.{BookInput}
use Rattle.session_book.specs.declared.events.BookInput.TheVariants as book_inputs
use Rattle.session_book.specs.declared.events.BookOutput.{BookOutput}
use Rattle.session_book.specs.declared.events.BookOutput.TheVariants.{Core, Control, Dropped}
use Rattle.session_book.specs.declared.events.BookReason.TheVariants.{AbortOpen, StrangeControl}
use Rattle.session_book.specs.Aborts.{Deed, Nothing, Opens, Answers, Ages, Ends}
use Rattle.session_book.specs.Places.{BookEvent, BookPlace, core_history, opened, open_aborts, sent_so_far}
use Rattle.session_book.specs.Reading.{AskParts}
use Rattle.session_book.specs.History.{answer, caught, link_phase, place, past, deed_outputs, control, answer_to, code_of, overdue, said_to}

-- ---- the core

-- what goes out for an event that the core was given: the core's outputs by its own rule, over the events that it was given, and then those
-- of the open aborts
abbrev pub PassesOn : Config → List BookPlace → BookPlace → Type 0
PassesOn config ps p = IfSome p.passed (λ e. p.outputs
    ≡ map Core (outputs_after config (core_history ps) e) ++ deed_outputs config p.moment p.deed (open_aborts ps))

abbrev pub TheCoreIsGivenTheRest : Type 0
TheCoreIsGivenTheRest = (config : Config) (history : List BookEvent) (e : BookEvent) → PassesOn config (past config history) (place config (past config history) e)

-- ---- what is said of an abort

-- what goes out for an abort where this is done, and this was sent of it before
abbrev pub said_by : Config → ℕ → Abort → Option Sent → Deed → List BookOutput
said_by config moment a before Nothing = []
said_by config moment a before (Opens b) = if a.number == b.number then control a ∷ [] else []
said_by config moment a None (Answers b ended) = []
said_by config moment a (Some s) (Answers b ended) = if a.number == b.number then answer_to config a (code_of ended) ∷ [] else []
said_by config moment a None Ages = []
said_by config moment a (Some s) Ages = overdue config moment (record { abort = a; sent = s })
said_by config moment a before Ends = []

abbrev pub said_at : Config → List BookPlace → BookPlace → Abort → List BookOutput
said_at config ps p a = said_by config p.moment a (sent_so_far a ps) p.deed

-- ---- what goes out

-- the refusals of an Abort-Session-Request, which open no abort
abbrev pub IsRefusal : Config → AskParts → BookOutput → Type 0
IsRefusal config ask o = (o ≡ answer config ask 5002) ⊎ (o ≡ answer config ask 5012)

-- what an input that the book takes for itself leads to where it opens no abort and closes none: a drop, or a refusal
abbrev pub IsDirect : Config → List BookPlace → BookInput → BookOutput → Type 0
IsDirect config ps (book_inputs.Core input) o =
    (o ≡ Dropped AbortOpen) ⊎ ((ask : AskParts) × (caught (link_phase config ps) input ≡ Some ask) × IsRefusal config ask o)
IsDirect config ps (book_inputs.Control address port octets) o = o ≡ Dropped StrangeControl

-- what goes out before what is said of aborts: the core's outputs where it was given the input, else one direct output or nothing
abbrev pub IsFirst : Config → List BookPlace → BookInput → Option core.Event → Deed → List BookOutput → Type 0
IsFirst config ps input (Some e) deed os = os ≡ map Core (outputs_after config (core_history ps) e)
IsFirst config ps input None Nothing os = (o : BookOutput) × IsDirect config ps input o × (os ≡ o ∷ [])
IsFirst config ps input None deed os = os ≡ []

-- what goes out at a place is that, and then what is said of each abort, in the order of opening
pub record IsSaid (config : Config) (ps : List BookPlace) (p : BookPlace) : Type 0 where
  pub first : List BookOutput
  pub is_first : IsFirst config ps p.input p.passed p.deed first
  pub outputs : p.outputs ≡ first ++ flat_map (said_at config ps p) (opened (p ∷ ps))

abbrev pub OutputsAreSaid : Type 0
OutputsAreSaid = (config : Config) (history : List BookEvent) (e : BookEvent) → IsSaid config (past config history) (place config (past config history) e)

-- ---- how often

-- a Disconnect-Request, and an answer to the home server
abbrev pub is_request : BookOutput → Bool
is_request (Control address port octets) = true
is_request (Core output) = false
is_request (Dropped reason) = false

abbrev pub is_answer : BookOutput → Bool
is_answer (Core output) = true
is_answer (Control address port octets) = false
is_answer (Dropped reason) = false

-- how many went out for an abort
abbrev pub said_so_far : (BookOutput → Bool) → Config → Abort → List BookPlace → ℕ
said_so_far test config a [] = 0
said_so_far test config a (p ∷ ps) = said_so_far test config a ps + count_by test (said_at config ps p a)

-- its Disconnect-Request goes out three times at most, and it is answered once at most
pub record IsLimited (config : Config) (ps : List BookPlace) (a : Abort) : Type 0 where
  pub requests : said_so_far is_request config a ps ≤ 3
  pub answers : said_so_far is_answer config a ps ≤ 1

abbrev pub AbortsAreLimited : Type 0
AbortsAreLimited = (config : Config) (history : List BookEvent) → Each (IsLimited config (past config history)) (opened (past config history))

-- each time with the same octets
abbrev pub RequestsAreTheSame : Type 0
RequestsAreTheSame = (config : Config) (history : List BookEvent) (e : BookEvent) (a : Abort)
    → Each (λ o. is_request o ≡ true → o ≡ control a) (said_at config (past config history) (place config (past config history) e) a)

-- ---- what is told

-- a datagram of the access server said so
abbrev pub IsTold : Config → BookInput → Abort → Bool → Type 0
IsTold config (book_inputs.Core input) a ended = ⊥
IsTold config (book_inputs.Control address port octets) a ended = said_to config address port octets a ≡ Some ended

-- it was opened, and isn't closed yet
pub record IsOpen (ps : List BookPlace) (a : Abort) : Type 0 where
  pub among : Contains (opened ps) a
  pub sent : IsSome (sent_so_far a ps)

-- An abort is closed by an answer of its access server exactly where it is open and a datagram comes that is the authentic answer to its
-- Disconnect-Request. What goes out then is one answer to the home server, with what the access server said: 2001 for a Disconnect-ACK, and
-- 5012 for a Disconnect-NAK.
pub record TellsOf (config : Config) (ps : List BookPlace) (e : BookEvent) (a : Abort) (ended : Bool) : Type 0 where
  pub closed : (place config ps e).deed ≡ Answers a ended ↔ (IsOpen ps a × IsTold config e.input a ended)
  pub outputs : (place config ps e).deed ≡ Answers a ended → (place config ps e).outputs ≡ answer_to config a (code_of ended) ∷ []

abbrev pub AnswersAreTold : Type 0
AnswersAreTold = (config : Config) (history : List BookEvent) (e : BookEvent) (a : Abort) (ended : Bool)
    → TellsOf config (past config history) e a ended
