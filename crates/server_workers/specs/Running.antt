-- How the writer goes from link to link.
use Rattle.std.specs.Prelude.{◌≡◌, ℕ, ◌+◌, ◌-◌, ◌^◌, ◌<◌, ◌≤◌, ◌⊎◌, max, min, Bool, true, false, List, [], ◌∷◌, ◌++◌, length, map, All, Option, Some, None, vec_capacity, if◌then◌else◌}
use Rattle.wire_core.specs.Counts.{Rose}
use Rattle.radius_packet.specs.declared.reasons.Via.TheVariants.{Auth, Acct}
use Rattle.peer_machine.specs.declared.LinkCause.{LinkCause}
use Rattle.wire_devices.specs.Dialling.{Dials}
use Rattle.wire_devices.specs.Links.{Inlet, Outlet, IsFreshInlet, IsFreshOutlet}
use Rattle.wire_devices.specs.Sockets.{Socket}
use Rattle.wire_devices.specs.Telling.{TellsOnly}
use Rattle.agent_events.specs.declared.events.Input.{Input}
use Rattle.agent_events.specs.declared.events.Input.TheVariants.{Up, Drain, Leave}
use Rattle.atomic_table.specs.Seated.{TableId}
use Rattle.turnstile.specs.declared.pass.PassOf.{PassOf}
use Rattle.turnstile.specs.declared.view.Known.{Known}
use Rattle.turnstile.specs.Passes.{known, table_of}
use Rattle.turnstile.specs.Turns.{of}
use Rattle.server_workers.specs.declared.heard.Heard.{Heard}
use Rattle.server_workers.specs.declared.link_making.Dialling.{Dialling}
use Rattle.server_workers.specs.declared.link_making.Dialling.TheVariants as dialling
use Rattle.server_workers.specs.declared.link_writer.WriterEnd.{WriterEnd}
use Rattle.server_workers.specs.declared.link_writer.WriterEnd.TheVariants as writer
use Rattle.server_workers.specs.declared.running.Live.{Live}
use Rattle.server_workers.specs.declared.running.Next.{Next}
use Rattle.server_workers.specs.declared.running.Next.TheVariants as next
use Rattle.server_workers.specs.declared.running.Past.{Past}
use Rattle.server_workers.specs.declared.running.ReaderBack.{ReaderBack}
use Rattle.server_workers.specs.declared.running.RunEnd.{RunEnd}
use Rattle.server_workers.specs.declared.running.RunEnd.TheVariants as run
use Rattle.server_workers.specs.declared.running.Twins.{Twins}
use Rattle.server_workers.specs.declared.links.Pair.{Pair}
use Rattle.server_workers.specs.declared.workers.Worker.{Worker}
use Rattle.server_workers.specs.declared.workers.Worker.TheVariants as worker
use Rattle.server_workers.specs.Entries.{EachEntry, EndsWith, HasLeave, RunTurn, is_final, octets_in, replies_by, ticks}
use Rattle.server_workers.specs.Going.{Went}
use Rattle.server_workers.specs.LinkReading.{LinkMayTake, ReadsLink, sight}
use Rattle.agent_events.specs.Kinds.{is_leave}
use Rattle.server_workers.specs.Serving.{AllBut, AreUnopened, FirstWasRead, IsTick, Spanned, WasRead}
use Rattle.server_workers.specs.Segments.{IsClosed, ServerTurn, is_beginning}

-- ---- the writer's turns

-- the agent took no leave
abbrev pub NoLeave : List RunTurn → Type 0
NoLeave turns = EachEntry (λ ask heard. is_leave ask ≡ false) turns

-- The writer took the agent's leave once, after an answer by which the run was at its end, and drained after it.
pub record LeftAtEnd (turns : List RunTurn) : Type 0 where
  pub front : List RunTurn
  pub ask : Input
  pub heard : Heard
  pub between : List RunTurn
  pub left : Heard
  pub last : Heard
  pub rest : List RunTurn
  pub whole : turns ≡ front ++ Some (ask, heard) ∷ (between ++ Some (Leave, left) ∷ Some (Drain, last) ∷ rest)
  pub finished : heard.finished ≡ true
  pub stays : is_leave ask ≡ false
  pub quiet : NoLeave front × NoLeave between × NoLeave rest

-- The writer was told by a Drain that the link is closed, and no link began since.
pub record LastDrain (turns : List RunTurn) : Type 0 where
  pub front : List RunTurn
  pub heard : Heard
  pub back : List RunTurn
  pub cause : LinkCause
  pub whole : turns ≡ front ++ Some (Drain, heard) ∷ back
  pub closed : heard.closed ≡ Some cause
  pub later : EachEntry (λ ask heard. is_beginning ask ≡ false) back

-- After a Drain by which the writer was told that the link is closed, a further one hands nothing over while no link began.
abbrev pub LateDrainsAreEmpty : List RunTurn → Type 0
LateDrainsAreEmpty turns =
    (front between back : List RunTurn) (heard last : Heard) (cause : LinkCause)
    → turns ≡ front ++ Some (Drain, heard) ∷ (between ++ Some (Drain, last) ∷ back) → heard.closed ≡ Some cause
    → EachEntry (λ ask heard. is_beginning ask ≡ false) between → octets_in last.sends ≡ []

-- why no link is made after one from which the writer went so; None where one is to be made
abbrev pub end_after : WriterEnd → Option RunEnd
end_after (writer.Closed cause) = if is_final cause then Some run.Closed else None
end_after writer.Done = Some run.Left
end_after writer.NoMemory = Some run.NoMemory

-- where no link is open, the leave was taken by a Leave and a Drain, or as far as there was memory
abbrev pub LeftAlone : RunEnd → List RunTurn → Type 0
LeftAlone run.Left mine = (left : Heard) × (last : Heard) × (mine ≡ Some (Leave, left) ∷ Some (Drain, last) ∷ [])
LeftAlone run.NoMemory mine = (mine ≡ None ∷ []) ⊎ ((left : Heard) × (mine ≡ Some (Leave, left) ∷ None ∷ []))
LeftAlone end mine = ⊥

abbrev pub TakesLeaveAlone : {T : Type 0} → RunEnd → Known T Input Heard → Known T Input Heard → Type 0
TakesLeaveAlone {T} end k k' = (mine : List RunTurn) × Went mine k k' × LeftAlone end mine

-- ---- dialling

-- so many dials failed, and the count of faults rose by them; a u64's count stands still at its end
abbrev pub RoseBy : ℕ → ℕ → ℕ → Type 0
RoseBy n before now = min (before + n) (2 ^ 64 - 1) ≤ now

-- More turns of the writer came, of which so many Ticks as the count of failed dials rose by. It never fell.
pub record Ticked (own own' : List RunTurn) (faults faults' : ℕ) : Type 0 where
  pub more : List RunTurn
  pub whole : own' ≡ own ++ more
  pub counted : RoseBy (ticks more) faults faults'
  pub grows : faults ≤ faults'

abbrev pub IsFinishedTick : RunTurn → Type 0
IsFinishedTick None = ⊥
IsFinishedTick (Some entry) = IsTick entry.0 × (entry.1.finished ≡ true)

-- what the readers of links counted, and what the twins were handed
pub record Tally {D I O : Type 0} (told : D → Socket) (past : Past I O) (auth acct : D) (seen : List ServerTurn) (out retries : ℕ) : Type 0 where
  pub lost : past.lost ≡ min out (2 ^ 64 - 1)
  pub again : past.again ≡ min retries (2 ^ 64 - 1)
  pub auth_handed : TellsOnly (told auth).handed (replies_by Auth (of 3 seen))
  pub acct_handed : TellsOnly (told acct).handed (replies_by Acct (of 3 seen))
  pub room : 256 ≤ vec_capacity past.pairs

-- a Tick or a blank turn; whether the run is at its end by the answer
abbrev pub TookTick : Bool → RunTurn → Type 0
TookTick finished None = finished ≡ false
TookTick finished (Some entry) = IsTick entry.0 × (entry.1.finished ≡ finished)

-- ---- how a link ends, and a run

-- a Drain of the writer was told that the link is closed for this cause
pub record ClosedFor (cause : LinkCause) (seg : List ServerTurn) : Type 0 where
  pub heard : Heard
  pub front : List ServerTurn
  pub back : List ServerTurn
  pub whole : seg ≡ front ++ (0, Some (Drain, heard)) ∷ back
  pub closed : heard.closed ≡ Some cause

-- why the writer went from the last of these links
abbrev pub EndsLink : WriterEnd → List (List ServerTurn) → List ServerTurn → Type 0
EndsLink (writer.Closed cause) segs seen = NoLeave (of 0 seen) × EndsWith (ClosedFor cause) segs × LastDrain (of 0 seen)
EndsLink writer.Done segs seen = LeftAtEnd (of 0 seen)
EndsLink writer.NoMemory segs seen = Unit {0}

-- why no further link is made: `row` is the dialer's, and `refused` says that a start of the crew was
abbrev pub EndsRun : RunEnd → ℕ → Type 0 → List (List ServerTurn) → List ServerTurn → Type 0
EndsRun run.Closed row refused segs seen =
    NoLeave (of 0 seen) × ((cause : LinkCause) × (is_final cause ≡ true) × EndsWith (ClosedFor cause) segs)
EndsRun run.Left row refused segs seen = LeftAtEnd (of 0 seen)
EndsRun run.Worn row refused segs seen =
    (length segs ≡ 256) × HasLeave (of 0 seen) × ((cause : LinkCause) × (is_final cause ≡ false) × EndsWith (ClosedFor cause) segs)
EndsRun run.LinkFault row refused segs seen = (row ≡ 16) × HasLeave (of 0 seen)
EndsRun run.NoThread row refused segs seen = refused × HasLeave (of 0 seen)
EndsRun run.NoMemory row refused segs seen = Unit {0}

-- the reader of each link took turns, but that of the last where it couldn't be started
abbrev pub HasReaders : RunEnd → List (List ServerTurn) → Type 0
HasReaders run.NoThread segs = AllBut WasRead segs
HasReaders run.NoMemory segs = AllBut WasRead segs
HasReaders end segs = All WasRead segs

-- A run ends so where the crew refused a start, and where 16 dials in a row failed; the crew's count of refused starts was
-- `starts` and is `starts'`.
pub record StopsFor (end : RunEnd) (row starts starts' : ℕ) : Type 0 where
  pub threads : starts < starts' → end ≡ run.NoThread
  pub dials : row ≡ 16 → end ≡ run.LinkFault

abbrev pub StopsAs : {T D I O : Type 0} → Next T D I O → ℕ → ℕ → ℕ → Type 0
StopsAs {T} {D} {I} {O} (next.Go live) row starts starts' = Unit {0}
StopsAs {T} {D} {I} {O} (next.Stop end twins) row starts starts' = StopsFor end row starts starts'

-- ---- links that were made

-- a count, so many later; a u64's count stands still at its end
abbrev pub counted : ℕ → ℕ → ℕ
counted before n = max before (min (before + n) (2 ^ 64 - 1))

-- a dialling made a link, or none
abbrev pub MadeBy : {I O : Type 0} → Dialling I O → ℕ → ℕ → Type 0
MadeBy {I} {O} (dialling.Made link_in link_out) before now = now ≡ counted before 1
MadeBy {I} {O} dialling.Finished before now = now ≡ before
MadeBy {I} {O} dialling.Failed before now = now ≡ before

-- as many links were put behind those that are over as the dialer made
pub record Keeps (links links' made made' : ℕ) : Type 0 where
  pub more : ℕ
  pub links_are : links' ≡ links + more
  pub made_is : made' ≡ counted made more

-- the same, but a link that goes on is not yet over
abbrev pub KeepsAll : {T D I O : Type 0} → Next T D I O → ℕ → ℕ → ℕ → ℕ → Type 0
KeepsAll {T} {D} {I} {O} (next.Go live) links links' made made' = (links' ≡ links) × (made' ≡ counted made 1)
KeepsAll {T} {D} {I} {O} (next.Stop end twins) links links' made made' = Keeps links links' made made'

-- a link that was made goes on or is over
abbrev pub KeepsPair : {T D I O : Type 0} → Next T D I O → ℕ → ℕ → Type 0
KeepsPair {T} {D} {I} {O} (next.Go live) links links' = links' ≡ links
KeepsPair {T} {D} {I} {O} (next.Stop end twins) links links' = links' ≡ links + 1

-- only where memory was wanting are links spare
abbrev pub HasSpare : {A : Type 0} → RunEnd → List A → Type 0
HasSpare {A} run.NoMemory spare = Unit {0}
HasSpare {A} end spare = spare ≡ []

-- ---- by what links tell

module _ {I O : Type 0} (hears : I → Inlet) (speaks : O → Outlet) where
  abbrev pub DialsBy : Dialling I O → List RunTurn → Dials → Type 0
  DialsBy (dialling.Made link_in link_out) mine dials = (dials.row ≡ 0) × IsFreshInlet (hears link_in) × IsFreshOutlet (speaks link_out)
  DialsBy dialling.Finished mine dials = (0 < dials.row) × (dials.row < 16) × EndsWith IsFinishedTick mine
  DialsBy dialling.Failed mine dials = dials.row ≡ 16

  -- A dialling: each dial that failed was followed by a Tick. The count of faults never fell, and it rose where more dials
  -- in a row failed than before.
  pub record Dialled (end : Dialling I O) (mine : List RunTurn) (before now : Dials) : Type 0 where
    pub asks : EachEntry (λ ask heard. IsTick ask) mine
    pub faults : RoseBy (length mine) before.faults now.faults
    pub grows : before.faults ≤ now.faults
    pub failed : before.row < now.row → Rose before.faults now.faults
    pub ends : DialsBy end mine now

  -- ---- between links

  -- All links so far are over, each was closed for a cause after which another is made, and the agent took no leave.
  pub record Between (pairs : List (Pair I O)) (seen : List ServerTurn) (out retries : ℕ) : Type 0 where
    pub segs : List (List ServerTurn)
    pub spanned : Spanned hears speaks pairs segs seen out retries
    pub closed : All IsClosed segs
    pub read : All WasRead segs
    pub quiet : NoLeave (of 0 seen)

  -- the Up of the next link came last
  pub record Opened (pairs : List (Pair I O)) (seen : List ServerTurn) (out retries : ℕ) : Type 0 where
    pub before : List ServerTurn
    pub between : Between pairs before out retries
    pub opened : Heard
    pub whole : seen ≡ before ++ (0, Some (Up, opened)) ∷ []

  -- the last of these links is over, from which the writer went so
  pub record LinkOver (end : WriterEnd) (pairs : List (Pair I O)) (seen : List ServerTurn) (out retries : ℕ) : Type 0 where
    pub segs : List (List ServerTurn)
    pub spanned : Spanned hears speaks pairs segs seen out retries
    pub some : 0 < length segs
    pub closed : AllBut IsClosed segs
    pub read : All WasRead segs
    pub ends : EndsLink end segs seen

  -- ---- the end

  -- all links are over
  pub record RunOver (end : RunEnd) (row : ℕ) (refused : Type 0) (pairs : List (Pair I O)) (seen : List ServerTurn) (out retries : ℕ) : Type 0 where
    pub served : List (Pair I O)
    pub spare : List (Pair I O)
    pub paired : pairs ≡ served ++ spare
    pub unopened : AreUnopened hears speaks spare
    pub only : HasSpare end spare
    pub segs : List (List ServerTurn)
    pub spanned : Spanned hears speaks served segs seen out retries
    pub some : 0 < length segs
    pub few : length pairs ≤ 256
    pub closed : AllBut IsClosed segs
    pub first : FirstWasRead segs
    pub read : HasReaders end segs
    pub ends : EndsRun end row refused segs seen

  -- ---- what the writer holds

  module _ {T D : Type 0} (told : D → Socket) where
    -- a reader was started on a link that was just opened
    pub record Started (turnstile : TableId) (k : Known T Input Heard) (pass : PassOf T Input Heard) (link : I)
        (auth acct : D) (link_out : O) (past : Past I O) : Type 0 where
      pub table : table_of pass ≡ turnstile
      pub mine : k.numbers ≡ 0 ∷ []
      pub theirs : (known pass).numbers ≡ 3 ∷ []
      pub seen : (known pass).seen ≡ k.seen
      pub first : (known pass).first ≡ k.first
      pub fresh_in : IsFreshInlet (hears link)
      pub fresh_out : IsFreshOutlet (speaks link_out)
      pub out : ℕ
      pub retries : ℕ
      pub few : length past.pairs.items < 256
      pub opened : Opened past.pairs.items k.seen out retries
      pub tally : Tally told past auth acct k.seen out retries

    abbrev pub StartedAs : TableId → Known T Input Heard → Worker T D I → O → Past I O → Type 0
    StartedAs turnstile k (worker.Link alloc shared pass link auth acct) link_out past = Started turnstile k pass link auth acct link_out past
    StartedAs turnstile k (worker.Reader alloc shared pass via socket) link_out past = ⊥

    -- the writer has the number of the link's reader too, and all links are over
    pub record Over (end : WriterEnd) (k k' : Known T Input Heard) (twins : Twins D) (past : Past I O) : Type 0 where
      pub first : k'.first ≡ k.first
      pub numbers : k'.numbers ≡ 0 ∷ 3 ∷ []
      pub ticked : Ticked (of 0 k.seen) (of 0 k'.seen) 0 0
      pub out : ℕ
      pub retries : ℕ
      pub few : length past.pairs.items ≤ 256
      pub over : LinkOver end past.pairs.items k'.seen out retries
      pub tally : Tally told past twins.auth twins.acct k'.seen out retries

    -- the same, where another link is to be made
    pub record Rests (k : Known T Input Heard) (twins : Twins D) (past : Past I O) : Type 0 where
      pub numbers : k.numbers ≡ 0 ∷ 3 ∷ []
      pub out : ℕ
      pub retries : ℕ
      pub few : length past.pairs.items ≤ 256
      pub some : 0 < length past.pairs.items
      pub between : Between past.pairs.items k.seen out retries
      pub late : LastDrain (of 0 k.seen)
      pub tally : Tally told past twins.auth twins.acct k.seen out retries

    -- the Up of the next link came last, and its reader isn't started yet
    pub record LinkOpened (k : Known T Input Heard) (twins : Twins D) (past : Past I O) : Type 0 where
      pub numbers : k.numbers ≡ 0 ∷ 3 ∷ []
      pub out : ℕ
      pub retries : ℕ
      pub few : length past.pairs.items < 256
      pub some : 0 < length past.pairs.items
      pub opened : Opened past.pairs.items k.seen out retries
      pub tally : Tally told past twins.auth twins.acct k.seen out retries

    -- no further link is made; the dialer's counts are those before and now
    pub record NoNextLink (end : RunEnd) (before now : Dials) (refused : Type 0) (k k' : Known T Input Heard) (twins : Twins D) (past : Past I O) : Type 0 where
      pub first : k'.first ≡ k.first
      pub numbers : k'.numbers ≡ 0 ∷ 3 ∷ []
      pub ticked : Ticked (of 0 k.seen) (of 0 k'.seen) before.faults now.faults
      pub failed : now.row ≡ 16 → Rose before.faults now.faults
      pub out : ℕ
      pub retries : ℕ
      pub reads : All LinkMayTake (of 3 k'.seen)
      pub over : LateDrainsAreEmpty (of 0 k'.seen) → RunOver end now.row refused past.pairs.items k'.seen out retries
      pub tally : Tally told past twins.auth twins.acct k'.seen out retries

    -- a link was opened and its reader started; the crew refused no start
    pub record Goes (turnstile : TableId) (before now : Dials) (same : Type 0) (k k' : Known T Input Heard) (live : Live T D I O) (past : Past I O) : Type 0 where
      pub first : k'.first ≡ k.first
      pub ticked : Ticked (of 0 k.seen) (of 0 k'.seen) before.faults now.faults
      pub row : now.row ≡ 0
      pub unrefused : same
      pub started : StartedAs turnstile k' live.helper live.link_out past

    -- what comes after a link, where the crew's count of refused starts was `starts` and is `starts'`
    abbrev pub ComesNext : Next T D I O → TableId → Dials → Dials → ℕ → ℕ → Known T Input Heard → Known T Input Heard → Past I O → Type 0
    ComesNext (next.Go live) turnstile before now starts starts' k k' past = Goes turnstile before now (starts' ≡ starts) k k' live past
    ComesNext (next.Stop end twins) turnstile before now starts starts' k k' past = NoNextLink end before now (Rose starts starts') k k' twins past

-- ---- the reader of a link, back

abbrev pub IsLinkWorker : {T D I : Type 0} → Worker T D I → Type 0
IsLinkWorker {T} {D} {I} (worker.Link alloc shared pass link auth acct) = Unit {0}
IsLinkWorker {T} {D} {I} (worker.Reader alloc shared pass via socket) = ⊥

-- where the twins are
abbrev pub ports_of : {D : Type 0} → (D → Socket) → Twins D → Option ℕ × Option ℕ
ports_of {D} told twins = ((told twins.auth).port, (told twins.acct).port)

abbrev pub ports_in : {T D I : Type 0} → (D → Socket) → Worker T D I → Option ℕ × Option ℕ
ports_in {T} {D} {I} told (worker.Link alloc shared pass link auth acct) = ((told auth).port, (told acct).port)
ports_in {T} {D} {I} told (worker.Reader alloc shared pass via socket) = (None, None)

abbrev pub ports_next : {T D I O : Type 0} → (D → Socket) → Next T D I O → Option ℕ × Option ℕ
ports_next {T} {D} {I} {O} told (next.Go live) = ports_in told live.helper
ports_next {T} {D} {I} {O} told (next.Stop end twins) = ports_of told twins

-- ---- in which order links were made

-- which of its dialer's links each is
abbrev pub numbers_of : {I O : Type 0} → (I → Inlet) → List (Pair I O) → List (Option ℕ)
numbers_of {I} {O} hears pairs = map (λ (pair : Pair I O). (hears pair.link_in).number) pairs

abbrev pub number_in : {T D I : Type 0} → (I → Inlet) → Worker T D I → Option ℕ
number_in {T} {D} {I} hears (worker.Link alloc shared pass link auth acct) = (hears link).number
number_in {T} {D} {I} hears (worker.Reader alloc shared pass via socket) = None

-- the first is the n-th that was made, and each other the one after that before it
abbrev pub InOrder : ℕ → List (Option ℕ) → Type 0
InOrder n [] = Unit {0}
InOrder n (x ∷ xs) = TellsOnly x n × InOrder (counted n 1) xs

-- a link that was made goes on, or is over with the others, or none was made
abbrev pub NextInOrder : {T D I O : Type 0} → (I → Inlet) → Next T D I O → ℕ → List (Option ℕ) → List (Option ℕ) → Type 0
NextInOrder {T} {D} {I} {O} hears (next.Go live) made before now = (now ≡ before) × TellsOnly (number_in hears live.helper) made
NextInOrder {T} {D} {I} {O} hears (next.Stop end twins) made before now =
    (now ≡ before) ⊎ ((x : Option ℕ) × (now ≡ before ++ x ∷ []) × TellsOnly x made)

-- the n-th link was made, or none
abbrev pub MadeAs : {I O : Type 0} → (I → Inlet) → Dialling I O → ℕ → Type 0
MadeAs {I} {O} hears (dialling.Made link_in link_out) made = TellsOnly (hears link_in).number made
MadeAs {I} {O} hears dialling.Finished made = Unit {0}
MadeAs {I} {O} hears dialling.Failed made = Unit {0}

-- it was never started
abbrev pub ReaderNeverRan : {T D I : Type 0} → Worker T D I → ReaderBack T D I → Type 0
ReaderNeverRan {T} {D} {I} (worker.Link alloc shared pass link auth acct) back =
    back ≡ record { pass = pass; link_in = link; twins = record { auth = auth; acct = acct }; lost = 0; again = 0 }
ReaderNeverRan {T} {D} {I} (worker.Reader alloc shared pass via socket) back = ⊥

-- it ran
abbrev pub ReaderRan : {T D I : Type 0} → (D → Socket) → (I → Inlet) → Worker T D I → ReaderBack T D I → Type 0
ReaderRan {T} {D} {I} told hears (worker.Link alloc shared pass link auth acct) back =
    (table_of back.pass ≡ table_of pass)
    × ReadsLink (sight (known pass) (hears link) (told auth) (told acct))
    (sight (known back.pass) (hears back.link_in) (told back.twins.auth) (told back.twins.acct)) back.lost back.again
ReaderRan {T} {D} {I} told hears (worker.Reader alloc shared pass via socket) back = ⊥
