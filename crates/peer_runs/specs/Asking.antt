-- A client that is asked for at a socket, step by step, and what the clock and the socket tell of it.
use Rattle.std.specs.Prelude.{◌≡◌, ℕ, Bool, true, false, List, [], ◌∷◌, ◌++◌, map, flat_map, take, length, ◌≤◌, Option, None, option_map, IfSome, MatchBool, Result, Ok, Err}
use Rattle.std.specs.Option.{option_to_list}
use Rattle.wire_devices.specs.declared.devices.Datagram.{Datagram}
use Rattle.wire_devices.specs.Sockets.{Socket, datagram}
use Rattle.wire_devices.specs.Telling.{Adds}
use Rattle.agent_status.specs.declared.status.Status.{Status}
use Rattle.test_peers.specs.declared.nas.NasOutput.{NasOutput}
use Rattle.test_peers.specs.declared.nas.NasOutput.TheVariants.{Send, Wait, Reply, GaveUp}
use Rattle.test_peers.specs.Nas.{NasParts, fresh, nas_after, output_at}
use Rattle.peer_runs.specs.declared.asking.Target.{Target}

-- ---- one client

-- a step of a client: the moment that the clock gave, and what was received since the step before
pub record Step : Type 0 where
  pub moment : ℕ
  pub got : Option Datagram

abbrev pub octets_got : Option Datagram → Option (List ℕ)
octets_got got = option_map (λ d. d.octets) got

abbrev pub output_of : NasParts → Step → NasOutput
output_of nas step = output_at nas step.moment (octets_got step.got)

abbrev pub stepped : NasParts → Step → NasParts
stepped nas step = nas_after nas step.moment (output_of nas step)

abbrev pub goes_on : NasOutput → Bool
goes_on Send = true
goes_on Wait = true
goes_on Reply = false
goes_on GaveUp = false

-- there is a first step, and nothing was received before it
abbrev pub BeginsWithNone : List Step → Type 0
BeginsWithNone [] = ⊥
BeginsWithNone (step ∷ steps) = step.got ≡ None

-- the client goes on after each of these steps
abbrev pub GoesOn : NasParts → List Step → Type 0
GoesOn nas [] = Unit {0}
GoesOn nas (step ∷ steps) = (goes_on (output_of nas step) ≡ true) × GoesOn (stepped nas step) steps

-- the last of these steps, and no other, is a Reply or gives up
abbrev pub Ends : NasParts → List Step → Type 0
Ends nas [] = ⊥
Ends nas (step ∷ steps) = MatchBool (goes_on (output_of nas step)) (Ends (stepped nas step) steps) (steps ≡ [])

-- a client's packet, and its steps
pub record Asked : Type 0 where
  pub packet : List ℕ
  pub steps : List Step

abbrev pub asked : List ℕ → List Step → Asked
asked packet steps = record { packet = packet; steps = steps }

-- A client of this patience stepped so, to its end.
pub record IsAnswered (patience : ℕ) (asked : Asked) : Type 0 where
  pub begins : BeginsWithNone asked.steps
  pub ends : Ends (fresh asked.packet patience) asked.steps

-- The same of one that wasn't at its end.
pub record IsUnanswered (patience : ℕ) (asked : Asked) : Type 0 where
  pub begins : BeginsWithNone asked.steps
  pub goes_on : GoesOn (fresh asked.packet patience) asked.steps

-- ---- its answer

abbrev pub answer_by : NasOutput → Option (List ℕ) → Option (List ℕ) → Option (List ℕ)
answer_by Reply got later = got
answer_by GaveUp got later = None
answer_by Send got later = later
answer_by Wait got later = later

-- what it got at its Reply; none where it gave up
abbrev pub answer_in : NasParts → List Step → Option (List ℕ)
answer_in nas [] = None
answer_in nas (step ∷ steps) = answer_by (output_of nas step) (octets_got step.got) (answer_in (stepped nas step) steps)

abbrev pub answer_of : ℕ → Asked → Option (List ℕ)
answer_of patience asked = answer_in (fresh asked.packet patience) asked.steps

-- ---- what the devices tell of it

abbrev pub moments : List Step → List ℕ
moments steps = map (λ s. s.moment) steps

abbrev pub received : List Step → List Datagram
received steps = flat_map (λ s. option_to_list s.got) steps

-- its packet to this place, where it sends
abbrev pub sent_by : Target → List ℕ → NasOutput → List Datagram
sent_by place packet Send = datagram place.address place.port packet ∷ []
sent_by place packet Wait = []
sent_by place packet Reply = []
sent_by place packet GaveUp = []

abbrev pub sent : Target → NasParts → List Step → List Datagram
sent place nas [] = []
sent place nas (step ∷ steps) = sent_by place nas.packet (output_of nas step) ++ sent place (stepped nas step) steps

-- What the clock and the socket of clients tell before they asked, and after it (').
pub record AskingTold : Type 0 where
  pub clock : Option (List ℕ)
  pub clock' : Option (List ℕ)
  pub socket : Socket
  pub socket' : Socket

-- the readings of a clock, and what a socket received and was handed
pub record Moves (told : AskingTold) (times : List ℕ) (got out : List Datagram) : Type 0 where
  pub readings : Adds told.clock told.clock' times
  pub received : Adds told.socket.received told.socket'.received got
  pub handed : Adds told.socket.handed told.socket'.handed out

-- Clients stepped one after another: the clock was read at each step, what the socket received is what the steps got, and it
-- was handed a client's packet where that sent it.
abbrev pub Asks : Target → ℕ → List Asked → AskingTold → Type 0
Asks place patience clients told = Moves told
    (flat_map (λ a. moments a.steps) clients)
    (flat_map (λ a. received a.steps) clients)
    (flat_map (λ a. sent place (fresh a.packet patience) a.steps) clients)

-- ---- one look and one step

-- what a look gave, as so many octets of the buffer, and nothing was sent
pub record Looks (count : Option ℕ) (s t : Socket) (buf : List ℕ) : Type 0 where
  pub got : Option Datagram
  pub octets : octets_got got ≡ option_map (λ n. take n buf) count
  pub within : IfSome count (λ n. n ≤ length buf)
  pub received : Adds s.received t.received (option_to_list got)
  pub handed : t.handed ≡ s.handed

-- A client before a step and after it ('), what it got in the step, and what it put out.
pub record Stepping : Type 0 where
  pub nas : NasParts
  pub nas' : NasParts
  pub got : Option (List ℕ)
  pub output : NasOutput

-- a step at some moment
pub record StepsOnce (place : Target) (step : Stepping) (told : AskingTold) : Type 0 where
  pub moment : ℕ
  pub output_is : step.output ≡ output_at step.nas moment step.got
  pub after : step.nas' ≡ nas_after step.nas moment step.output
  pub readings : Adds told.clock told.clock' (moment ∷ [])
  pub received : told.socket'.received ≡ told.socket.received
  pub handed : Adds told.socket.handed told.socket'.handed (sent_by place step.nas.packet step.output)

-- where a client sends this packet, and for how long it asks
pub record Asker : Type 0 where
  pub place : Target
  pub patience : ℕ
  pub packet : List ℕ

-- A client stepped to its end, with its answer as so many octets of the buffer.
pub record StepsToEnd (asker : Asker) (count : Option ℕ) (tells : AskingTold) (buf : List ℕ) : Type 0 where
  pub steps : List Step
  pub answered : IsAnswered asker.patience (asked asker.packet steps)
  pub told : Asks asker.place asker.patience (asked asker.packet steps ∷ []) tells
  pub answer : answer_of asker.patience (asked asker.packet steps) ≡ option_map (λ n. take n buf) count
  pub within : IfSome count (λ n. n ≤ length buf)

-- a client was broken off
pub record BreaksOff (asker : Asker) (tells : AskingTold) : Type 0 where
  pub steps : List Step
  pub unanswered : IsUnanswered asker.patience (asked asker.packet steps)
  pub told : Asks asker.place asker.patience (asked asker.packet steps ∷ []) tells

abbrev pub EndsAsking : Result (Option ℕ) Status → Asker → AskingTold → List ℕ → Type 0
EndsAsking (Ok count) asker tells buf = StepsToEnd asker count tells buf
EndsAsking (Err status) asker tells buf = BreaksOff asker tells
