-- How a run of the home server ends: by what its link gave and was handed, and by what was written.
use Rattle.std.specs.Prelude.{◌≡◌, ℕ, ◌<◌, ◌≤◌, ◌⊎◌, List, [], ◌∷◌, ◌++◌, length, take, flat_map, codes, decimal, Option, Some, None, Result, Ok, Err, unwrap_or}
use Rattle.wire_core.specs.Counts.{Rose, one_more}
use Rattle.wire_core.specs.Sink.{Appends}
use Rattle.diameter_message.specs.declared.fault.FrameFault.{FrameFault}
use Rattle.diameter_message.specs.declared.fault.MessageFault.{MessageFault}
use Rattle.diameter_message.specs.Framing.{FramerParts, StandsFor, messages_of, stream_fault}
use Rattle.diameter_message.specs.Message.{MessageParts, read_message}
use Rattle.wire_devices.specs.Dialling.{Dialled, Dials}
use Rattle.wire_devices.specs.Links.{Inlet, Outlet}
use Rattle.wire_devices.specs.Telling.{Adds, TellsOnly}
use Rattle.agent_status.specs.declared.status.Status.{Status}
use Rattle.agent_status.specs.declared.status.Status.TheVariants.{Done, BadTranscript, ReadFault, WriteFault, LinkFault, OutOfMemory, TooLong}
use Rattle.test_peers.specs.declared.users.User.{User}
use Rattle.test_peers.specs.declared.fault.HomeFault.TheVariants.{BadLine}
use Rattle.test_peers.specs.Answers.{answer_by_home}
use Rattle.test_peers.specs.Users.{users_in}
use Rattle.text_commands.specs.WholeInput.{TakenWhole, TakesNot}
use Rattle.peer_runs.specs.Until.{InTime, TimeIsOver}

-- ---- messages

-- the answer to a message, none where it is no message or an answer itself
abbrev pub answer_to : List User → List ℕ → Option (List ℕ)
answer_to users message = answer_by_home users (read_message message)

-- its octets, none where there is no answer
abbrev pub answer_octets : List User → List ℕ → List ℕ
answer_octets users message = unwrap_or (answer_to users message) []

-- the answers to these messages, one after another
abbrev pub answers : List User → List (List ℕ) → List ℕ
answers users messages = flat_map (answer_octets users) messages

abbrev pub command_of : Result MessageParts MessageFault → ℕ
command_of (Ok m) = m.header.command
command_of (Err fault) = 0

-- 'command N'
abbrev pub command_text : ℕ → List ℕ
command_text command = codes "command " ++ decimal command ++ 10 ∷ []

abbrev pub line_for : Option (List ℕ) → ℕ → List ℕ
line_for None command = []
line_for (Some answer) command = command_text command

-- the line of a message that is answered, N being its command
abbrev pub command_line : List User → List ℕ → List ℕ
command_line users message = line_for (answer_to users message) (command_of (read_message message))

-- a line for each message that is answered
abbrev pub command_lines : List User → List (List ℕ) → List ℕ
command_lines users messages = flat_map (command_line users) messages

-- ---- a link

-- So many receives on the link were its end, so many failed, and so many sends failed.
pub record Counted (ends receives sends : ℕ) (inlet : Inlet) (outlet : Outlet) : Type 0 where
  pub ends_are : inlet.ends ≡ ends
  pub failed_receives : inlet.faults ≡ receives
  pub failed_sends : outlet.faults ≡ sends

-- What the two ends of a link tell after a run over it, and what the output tells before that run, and after it (').
pub record LinkTold : Type 0 where
  pub inlet : Inlet
  pub outlet : Outlet
  pub output : Option (List ℕ)
  pub output' : Option (List ℕ)

-- The link gave these octets. These messages were answered, and each answer has its line.
pub record Answered (users : List User) (octets : List ℕ) (messages : List (List ℕ)) (told : LinkTold) : Type 0 where
  pub received : TellsOnly told.inlet.received octets
  pub handed : TellsOnly told.outlet.handed (answers users messages)
  pub written : Appends told.output told.output' (command_lines users messages)

-- Each message that the link gave was answered, and what comes after them shows this fault.
pub record AnswersAll (users : List User) (told : LinkTold) (fault : Option FrameFault) : Type 0 where
  pub octets : List ℕ
  pub answered : Answered users octets (messages_of octets) told
  pub shows : stream_fault octets ≡ fault

-- The first messages that the link gave were answered. Of the answer to the next one, if there is one, so many octets were
-- handed in, and after all of them so many of its line were written.
pub record AnswersPart (users : List User) (told : LinkTold) : Type 0 where
  pub octets : List ℕ
  pub front : List (List ℕ)
  pub more : List (List ℕ)
  pub answer_count : ℕ
  pub line_count : ℕ
  pub messages : messages_of octets ≡ front ++ more
  pub received : TellsOnly told.inlet.received octets
  pub handed : TellsOnly told.outlet.handed (answers users front ++ take answer_count (answers users (take 1 more)))
  pub written : Appends told.output told.output' (command_lines users front ++ take line_count (command_lines users (take 1 more)))
  pub in_order : 0 < line_count → length (answers users (take 1 more)) ≤ answer_count

-- how a run over a link ends while its time isn't over: with the link, with a fault of its stream, or with the first failure
abbrev pub StopsBy : Status → List User → LinkTold → Type 0
StopsBy Done users told =
    (AnswersAll users told None × Counted 1 0 0 told.inlet told.outlet)
    ⊎ ((fault : FrameFault) × AnswersAll users told (Some fault) × Counted 0 0 0 told.inlet told.outlet)
StopsBy LinkFault users told =
    (AnswersAll users told None × Counted 0 1 0 told.inlet told.outlet)
    ⊎ (AnswersPart users told × Counted 0 0 1 told.inlet told.outlet)
StopsBy WriteFault users told = AnswersPart users told × Counted 0 0 0 told.inlet told.outlet
StopsBy OutOfMemory users told = AnswersPart users told × Counted 0 0 0 told.inlet told.outlet
StopsBy status users told = ⊥

-- how a run over a link ends
abbrev pub RunsBy : Status → List User → Type 0 → Type 0 → LinkTold → Type 0
RunsBy status users in_time late told =
    (in_time × StopsBy status users told)
    ⊎ (late × (status ≡ Done) × AnswersAll users told None × Counted 0 0 0 told.inlet told.outlet)

-- ---- the whole run

-- no users were read: of the list, or why it couldn't be taken
abbrev pub ReadsNone : Status → List ℕ → Option (List ℕ) → Type 0
ReadsNone (BadTranscript line reason) input left = TakenWhole input left × (users_in input ≡ Err (BadLine line reason))
ReadsNone status input left = TakesNot status (Some input) left

-- with which status the list of users couldn't be read, by the faults of the source
abbrev pub FailsToRead : Status → ℕ → ℕ → Type 0
FailsToRead (BadTranscript line reason) reads reads' = Unit {0}
FailsToRead ReadFault reads reads' = Rose reads reads'
FailsToRead OutOfMemory reads reads' = Unit {0}
FailsToRead TooLong reads reads' = Unit {0}
FailsToRead status reads reads' = ⊥

-- the users were read
pub record Knows (users : List User) (input : List ℕ) (left : Option (List ℕ)) : Type 0 where
  pub taken : TakenWhole input left
  pub users_are : users_in input ≡ Ok users

-- A run of the home server: its time in milliseconds, and what the input, the count of its faults, the dialer, the clock and
-- the output tell before it, and after it (').
pub record HomeRun : Type 0 where
  pub millis : ℕ
  pub input : Option (List ℕ)
  pub input' : Option (List ℕ)
  pub reads : ℕ
  pub reads' : ℕ
  pub dials : Dials
  pub dials' : Dials
  pub clock : Option (List ℕ)
  pub clock' : Option (List ℕ)
  pub output : Option (List ℕ)
  pub output' : Option (List ℕ)

-- how a run over a link ends, which goes on until its time is over
abbrev pub RunsTimed : Status → List User → HomeRun → Inlet → Outlet → Type 0
RunsTimed status users run inlet outlet =
    RunsBy status users (InTime run.millis run.clock run.clock') (TimeIsOver run.millis run.clock run.clock')
    (record { inlet = inlet; outlet = outlet; output = run.output; output' = run.output' })

module _ {I O : Type 0} (hears : I → Inlet) (speaks : O → Outlet) where
  -- What was taken of this input, what the dial did once the users were read, what the link gave and was handed where one was
  -- made, and what was written, by the status.
  abbrev pub HomeByInput : Status → Option (I × O) → List ℕ → HomeRun → Type 0
  HomeByInput status None input run =
      (run.output' ≡ run.output) × (ReadsNone status input run.input'
      ⊎ ((users : List User) × Knows users input run.input' × Dialled {A = I × O} None run.dials run.dials' × (status ≡ LinkFault)))
  HomeByInput status (Some link) input run =
      (users : List User) × Knows users input run.input' × Dialled (Some link) run.dials run.dials'
      × RunsTimed status users run (hears link.0) (speaks link.1)

  -- how a run ends, where the input is told
  abbrev pub HomeBy : Status → Option (I × O) → HomeRun → Type 0
  HomeBy status link run = (input : List ℕ) → run.input ≡ Some input → HomeByInput status link input run

  -- The same where the input isn't told: of whatever users, by the counts of the source's faults too. Without a link the run
  -- ended before its dial, or at it.
  abbrev pub HomeCauses : Status → Option (I × O) → HomeRun → Type 0
  HomeCauses status None run =
      (run.output' ≡ run.output)
      × (FailsToRead status run.reads run.reads' ⊎ (Dialled {A = I × O} None run.dials run.dials' × (status ≡ LinkFault)))
  HomeCauses status (Some link) run =
      (users : List User) × Dialled (Some link) run.dials run.dials' × RunsTimed status users run (hears link.0) (speaks link.1)

  -- no call on the link failed
  abbrev pub IsSound : Option (I × O) → Type 0
  IsSound None = Unit {0}
  IsSound (Some link) = ((hears link.0).faults ≡ 0) × ((speaks link.1).faults ≡ 0)

-- the counts that rose, by the status: the faults of the source, and those of the sink
abbrev pub HomeCounts : Status → ℕ → ℕ → ℕ → ℕ → Type 0
HomeCounts ReadFault reads reads' writes writes' = Rose reads reads'
HomeCounts WriteFault reads reads' writes writes' = Rose writes writes'
HomeCounts status reads reads' writes writes' = Unit {0}

-- ---- on the way

-- the faults of the end that an answer goes to, by the status if the answer ends the run
abbrev pub FailsToAnswer : Status → Outlet → Outlet → Type 0
FailsToAnswer LinkFault old new = new.faults ≡ one_more old.faults
FailsToAnswer WriteFault old new = new.faults ≡ old.faults
FailsToAnswer OutOfMemory old new = new.faults ≡ old.faults
FailsToAnswer status old new = ⊥

-- What an end and an output tell before a message is taken, and after it (').
pub record TakingTold : Type 0 where
  pub outlet : Outlet
  pub outlet' : Outlet
  pub output : Option (List ℕ)
  pub output' : Option (List ℕ)

-- so many octets of an answer were handed in, and after all of them so many of its line were written
pub record AnswersIn (answer line : List ℕ) (told : TakingTold) : Type 0 where
  pub answer_count : ℕ
  pub line_count : ℕ
  pub handed : Adds told.outlet.handed told.outlet'.handed (take answer_count answer)
  pub written : Appends told.output told.output' (take line_count line)
  pub in_order : 0 < line_count → length answer ≤ answer_count

-- what taking a message does, by the status if that ends the run
abbrev pub Takes : Option Status → List ℕ → List ℕ → TakingTold → Type 0
Takes None answer line told =
    Adds told.outlet.handed told.outlet'.handed answer × Appends told.output told.output' line
    × (told.outlet'.faults ≡ told.outlet.faults)
Takes (Some status) answer line told = FailsToAnswer status told.outlet told.outlet' × AnswersIn answer line told

-- The framer was fed all that was received but this piece. What it gave was answered.
pub record SoFar (users : List User) (piece : List ℕ) (framer : FramerParts) (told : LinkTold) : Type 0 where
  pub fed : List ℕ
  pub given : List (List ℕ)
  pub stands : StandsFor framer fed given
  pub answered : Answered users (fed ++ piece) given told
  pub counted : Counted 0 0 0 told.inlet told.outlet

-- The framer was fed all that was received, and each message of it was answered.
pub record Rests (users : List User) (framer : FramerParts) (told : LinkTold) : Type 0 where
  pub all : AnswersAll users told None
  pub stands : StandsFor framer all.octets (messages_of all.octets)
  pub counted : Counted 0 0 0 told.inlet told.outlet

-- the run goes on, or ends with this status
abbrev pub KeepsAnswering : Option Status → List User → FramerParts → LinkTold → Type 0
KeepsAnswering None users framer told = Rests users framer told
KeepsAnswering (Some status) users framer told = StopsBy status users told
