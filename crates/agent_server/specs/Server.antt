-- What a run of the server was: all its turns, and what its devices tell.
use Rattle.std.specs.Prelude.{◌≡◌, ◌≢◌, ℕ, zero, suc, ◌+◌, ◌-◌, ◌^◌, ◌<◌, ◌≤◌, ◌⊎◌, min, nat_le, Bool, true, if◌then◌else◌, not, List, [], ◌∷◌, ◌++◌, length, filter, All, Option, Some, None}
use Rattle.wire_core.specs.Counts.{Rose}
use Rattle.radius_packet.specs.declared.reasons.Via.TheVariants.{Auth, Acct}
use Rattle.agent_settings.specs.declared.config.Config.{Config}
use Rattle.peer_machine.specs.declared.LinkCause.{LinkCause}
use Rattle.peer_machine.specs.declared.LinkCause.TheVariants.{Refused, Left}
use Rattle.agent_status.specs.declared.status.Status.{Status}
use Rattle.agent_status.specs.declared.status.Status.TheVariants.{Done, LinkFault, PeerRefused, NoThread, OutOfMemory, DatagramFault, LinkEnded}
use Rattle.wire_devices.specs.Dialling.{Dials}
use Rattle.wire_devices.specs.Links.{Inlet, Outlet}
use Rattle.wire_devices.specs.Sockets.{Socket}
use Rattle.wire_devices.specs.Telling.{TellsOnly}
use Rattle.agent_events.specs.declared.events.Input.{Input}
use Rattle.agent_events.specs.declared.events.Input.TheVariants.{Leave}
use Rattle.turnstile.specs.Turns.{Numbered, of, plain}
use Rattle.server_workers.specs.declared.heard.Heard.{Heard}
use Rattle.server_workers.specs.declared.running.RunEnd.{RunEnd}
use Rattle.server_workers.specs.declared.running.RunEnd.TheVariants as run
use Rattle.server_workers.specs.declared.running.Twins.{Twins}
use Rattle.server_workers.specs.declared.links.Pair.{Pair}
use Rattle.agent_server.specs.declared.trail.Trail.{Trail}
use Rattle.agent_server.specs.Desks.{HasRead}
use Rattle.server_workers.specs.Entries.{HasLeave, RunTurn, is_final, replies_by, ticks}
use Rattle.server_workers.specs.LinkReading.{LinkMayTake}
use Rattle.server_workers.specs.Running.{LeftAtEnd, RoseBy}
use Rattle.agent_core.specs.Places.{Event}
use Rattle.agent_server.specs.Runs.{IsRun, history, places_of, entries_recorded}
use Rattle.server_workers.specs.Serving.{AllBut, AreUnopened, FirstWasRead, IsUp, MayWrite, Spanned, WasRead}
use Rattle.server_workers.specs.SocketReading.{ServedSocket, SocketMayTake}
use Rattle.agent_server.specs.Spans.{SpansFit, closings}
use Rattle.server_workers.specs.Segments.{AreSpans, ServerTurn}

-- ---- who asks what

abbrev pub MayWriteTurn : RunTurn → Type 0
MayWriteTurn None = Unit {0}
MayWriteTurn (Some entry) = MayWrite entry.0 ⊎ IsUp entry.0

-- A turn by its number: 0 is the writer's, 1 and 2 are those of the readers of the sockets, whose failed receives in a row
-- are so many, and 3 is that of the readers of links.
abbrev pub MayTurn : ℕ → ℕ → ℕ → RunTurn → Type 0
MayTurn auth acct zero turn = MayWriteTurn turn
MayTurn auth acct (suc zero) turn = SocketMayTake Auth auth turn
MayTurn auth acct (suc (suc zero)) turn = SocketMayTake Acct acct turn
MayTurn auth acct (suc (suc (suc zero))) turn = LinkMayTake turn
MayTurn auth acct (suc (suc (suc (suc n)))) turn = ⊥

-- ---- when the agent takes its leave

-- each Leave comes after an entry at which the moment had reached `until`
abbrev pub LeavesAfterUntil : ℕ → List RunTurn → Type 0
LeavesAfterUntil until turns =
    (front back : List RunTurn) (left : Heard) → turns ≡ front ++ Some (Leave, left) ∷ back
    → (before after : List RunTurn) × ((ask : Input) × ((heard : Heard) × (front ≡ before ++ Some (ask, heard) ∷ after) × (until ≤ heard.moment)))

-- ---- statuses

abbrev pub Holds : {A : Type 0} → List A → A → Type 0
Holds {A} xs x = (front : List A) × ((back : List A) × (xs ≡ front ++ x ∷ back))

-- the causes after which another link is made
abbrev pub others : List LinkCause → List LinkCause
others causes = filter (λ cause. not (is_final cause)) causes

-- 256 links were closed for other causes than that the home server refused them or the agent left them, the last for this one
pub record AreWorn (causes : List LinkCause) (cause : LinkCause) : Type 0 where
  pub many : length (others causes) ≡ 256
  pub last : (front : List LinkCause) × (others causes ≡ front ++ cause ∷ [])

-- where several statuses stand, the one with the least rank is given
abbrev pub rank : Status → ℕ
rank OutOfMemory = 0
rank NoThread = 1
rank DatagramFault = 2
rank LinkFault = 3
rank (PeerRefused code) = 4
rank (LinkEnded cause) = 5
rank status = 6

abbrev pub HasFinished : List RunTurn → Type 0
HasFinished turns =
    (front back : List RunTurn) × ((ask : Input) × ((heard : Heard) × (turns ≡ front ++ Some (ask, heard) ∷ back) × (heard.finished ≡ true)))

-- why a run whose workers were started ended so: by the writer's turns, all turns, the causes for which links were closed,
-- the failed receives and dials in a row, and whether a start of a thread was refused
abbrev pub Because : Status → List RunTurn → List RunTurn → List LinkCause → ℕ → ℕ → ℕ → Type 0 → Type 0
Because Done own turns causes auth acct dials refused =
    LeftAtEnd own × HasFinished turns × ((code : ℕ) → ¬ Holds causes (Refused code))
Because LinkFault own turns causes auth acct dials refused = (dials ≡ 16) × HasLeave own
Because (PeerRefused code) own turns causes auth acct dials refused = Holds causes (Refused code)
Because NoThread own turns causes auth acct dials refused = refused × HasLeave own
Because OutOfMemory own turns causes auth acct dials refused = Unit {0}
Because DatagramFault own turns causes auth acct dials refused = (auth ≡ 16) ⊎ (acct ≡ 16)
Because (LinkEnded cause) own turns causes auth acct dials refused = AreWorn causes cause × HasLeave own
Because status own turns causes auth acct dials refused = ⊥

-- Each of these statuses is given where it stands, unless one with a lesser rank is.
-- The crew's count of refused starts was `starts` and is `starts'`.
pub record IsGiven (status : Status) (causes : List LinkCause) (auth acct dials starts starts' : ℕ) : Type 0 where
  pub threads : starts < starts' → (status ≡ NoThread) ⊎ (rank status < 1)
  pub sockets : (auth ≡ 16) ⊎ (acct ≡ 16) → (status ≡ DatagramFault) ⊎ (rank status < 2)
  pub dialled : dials ≡ 16 → (status ≡ LinkFault) ⊎ (rank status < 3)
  pub refused : (code : ℕ) → Holds causes (Refused code) → (status ≡ PeerRefused code) ⊎ (rank status < 4)
  pub worn : (cause : LinkCause) → AreWorn causes cause → (status ≡ LinkEnded cause) ⊎ (rank status < 5)

-- ---- the status that is given

-- by the cause for which the last of so many links was closed
abbrev pub ended_status : Option LinkCause → ℕ → Status
ended_status None links = Done
ended_status (Some (Refused code)) links = PeerRefused code
ended_status (Some Left) links = Done
ended_status (Some cause) links = if nat_le 256 links then LinkEnded cause else Done

-- by why no further link was made, and whether a socket failed for good
abbrev pub status_given : RunEnd → Bool → Option LinkCause → ℕ → Status
status_given run.NoMemory failed closed links = OutOfMemory
status_given run.NoThread failed closed links = NoThread
status_given run.LinkFault failed closed links = if failed then DatagramFault else LinkFault
status_given end failed closed links = if failed then DatagramFault else ended_status closed links

-- ---- a run

module _ {I O : Type 0} (hears : I → Inlet) (speaks : O → Outlet) where
  -- All turns of a run fall into the dialling at first and the spans of its links. The reader of each link took turns, but
  -- that of the last, and not the first, where it couldn't be started or memory was wanting.
  pub record Linked (config : Config) (pairs : List (Pair I O)) (turns : List ServerTurn) (status : Status) (out retries : ℕ) : Type 0 where
    pub opened : List (Pair I O)
    pub spare : List (Pair I O)
    pub paired : pairs ≡ opened ++ spare
    pub unopened : AreUnopened hears speaks spare
    pub only : status ≢ OutOfMemory → spare ≡ []
    pub segs : List (List ServerTurn)
    pub spanned : Spanned hears speaks opened segs turns out retries
    pub spans : AreSpans segs
    pub fit : SpansFit config spanned.front segs
    pub first : FirstWasRead segs
    pub earlier : AllBut WasRead segs
    pub read : status ≢ NoThread → status ≢ OutOfMemory → All WasRead segs

-- What is told of a run whose workers were started: its settings, the moment up to which it served, what its clock had told
-- before, what its sockets and its dialer told before and after it, the crew's counts of refused starts, the clock, the trail
-- and the status.
pub record RunTold (C D I O : Type 0) : Type 0 where
  pub config : Config
  pub until : ℕ
  pub before : List ℕ
  pub auth : Socket
  pub acct : Socket
  pub auth' : Socket
  pub acct' : Socket
  pub dials : Dials
  pub dials' : Dials
  pub starts : ℕ
  pub starts' : ℕ
  pub clock : C
  pub trail : Trail C D I O
  pub status : Status

-- all turns of it, without the numbers of those who took them
abbrev pub turns_of : {C D I O : Type 0} → RunTold C D I O → List RunTurn
turns_of {C} {D} {I} {O} run = plain run.trail.turns

-- why its links were closed
abbrev pub closings_of : {C D I O : Type 0} → RunTold C D I O → List LinkCause
closings_of {C} {D} {I} {O} run = closings (places_of run.config (turns_of run))

module _ {C D I O : Type 0} (readings : C → Option (List ℕ)) (told : D → Socket) (hears : I → Inlet) (speaks : O → Outlet) where
  -- What a run was whose workers were started. Where 16 receives of a socket or 16 dials in a row failed, the count of its
  -- faults rose.
  pub record Served (run : RunTold C D I O) : Type 0 where
    pub is_run : IsRun run.config run.until (turns_of run)
    pub numbered : Numbered run.trail.turns
    pub asks : All (λ turn. MayTurn run.auth'.row run.acct'.row turn.0 turn.1) run.trail.turns
    pub clock_read : HasRead (readings run.clock) run.before (turns_of run)
    pub entries : run.trail.entries ≡ min (length (history (turns_of run))) (2 ^ 64 - 1)
    pub auth_out : ℕ
    pub acct_out : ℕ
    pub out : ℕ
    pub retries : ℕ
    pub auth_served : ServedSocket Auth (of 1 run.trail.turns) run.auth run.auth' auth_out
    pub acct_served : ServedSocket Acct (of 2 run.trail.turns) run.acct run.acct' acct_out
    pub linked : Linked hears speaks run.config run.trail.links run.trail.turns run.status out retries
    pub auth_replies : TellsOnly (told run.trail.auth_twin).handed (replies_by Auth (of 3 run.trail.turns))
    pub acct_replies : TellsOnly (told run.trail.acct_twin).handed (replies_by Acct (of 3 run.trail.turns))
    pub lost : run.trail.lost ≡ min (out + auth_out + acct_out) (2 ^ 64 - 1)
    pub again : run.trail.again ≡ min retries (2 ^ 64 - 1)
    pub dialled : RoseBy (ticks (of 0 run.trail.turns)) run.dials.faults run.dials'.faults
    pub auth_failed : run.auth'.row ≡ 16 → Rose run.auth.faults run.auth'.faults
    pub acct_failed : run.acct'.row ≡ 16 → Rose run.acct.faults run.acct'.faults
    pub dials_failed : run.dials'.row ≡ 16 → Rose run.dials.faults run.dials'.faults
    pub because : Because run.status (of 0 run.trail.turns) (turns_of run) (closings_of run) run.auth'.row run.acct'.row run.dials'.row (Rose run.starts run.starts')
    pub given : IsGiven run.status (closings_of run) run.auth'.row run.acct'.row run.dials'.row run.starts run.starts'
    pub leaves : 3 < rank run.status → ((cause : LinkCause) → ¬ AreWorn (closings_of run) cause) → LeavesAfterUntil run.until (turns_of run)

-- the twins of both sockets
abbrev pub twins_of : {C D I O : Type 0} → Trail C D I O → Twins D
twins_of {C} {D} {I} {O} trail = record { auth = trail.auth_twin; acct = trail.acct_twin }

-- ---- a run without workers

-- A trail is there exactly where three jobs were started: the readers of the sockets and of the first link. A u64's count
-- stands still at its end.
abbrev pub HasTrail : {A : Type 0} → Option A → ℕ → ℕ → Type 0
HasTrail {A} None started started' = started' < started + 3
HasTrail {A} (Some trail) started started' = RoseBy 3 started started'

-- These turns were all of a run, and each took one reading of the clock, which had told these readings before. `has` is what
-- holds of the entries that a record of the run has.
pub record Began (config : Config) (until : ℕ) (before : List ℕ) (told : Option (List ℕ)) (has : List Event → Type 0) : Type 0 where
  pub turns : List RunTurn
  pub run : IsRun config until turns
  pub clock_read : HasRead told before turns
  pub of_record : has (entries_recorded config turns)

-- a reading of the clock is at or past that moment, where it tells its readings
abbrev pub HasPassed : Option (List ℕ) → ℕ → Type 0
HasPassed told until = (all : List ℕ) → told ≡ Some all → (reading : ℕ) × Holds all reading × (until ≤ reading)

-- Why a run ended before its workers were started: by the clock, the dialer's counts before and after, and whether a twin
-- of a socket or a start of a thread was refused.
abbrev pub EndsEarly : Status → Option (List ℕ) → ℕ → Dials → Dials → Type 0 → Type 0 → Type 0
EndsEarly OutOfMemory told until dials dials' twin start = Unit {0}
EndsEarly LinkFault told until dials dials' twin start = Rose dials.faults dials'.faults × ((dials'.row ≡ 16) ⊎ ((0 < dials'.row) × HasPassed told until))
EndsEarly DatagramFault told until dials dials' twin start = twin
EndsEarly NoThread told until dials dials' twin start = start
EndsEarly status told until dials dials' twin start = ⊥
