-- Internal: how a run starts and how it ends: what is at hand before its first link, what came of that link and of the starts of the
-- workers, and what is known when all workers are done.
use Rattle.std.specs.Prelude.{◌≡◌, ℕ, ◌<◌, ◌≤◌, ◌⊎◌, false, List, [], ◌∷◌, Option, Result, Ok, Err, vec_capacity}
use Rattle.std.specs.Arc.{arc_value}
use Rattle.wire_core.specs.Counts.{Rose}
use Rattle.radius_packet.specs.declared.reasons.Via.{Via}
use Rattle.radius_packet.specs.declared.reasons.Via.TheVariants.{Auth, Acct}
use Rattle.agent_status.specs.declared.status.Status.{Status}
use Rattle.agent_status.specs.declared.status.Status.TheVariants.{DatagramFault, LinkFault, OutOfMemory}
use Rattle.wire_devices.specs.Dialling.{Dials}
use Rattle.wire_devices.specs.Links.{Inlet, Outlet, IsFreshInlet, IsFreshOutlet}
use Rattle.wire_devices.specs.Sockets.{Socket, Twinned, IsFreshSocket}
use Rattle.agent_events.specs.declared.events.Input.{Input}
use Rattle.atomic_table.specs.Seated.{TableId}
use Rattle.turnstile.specs.declared.pass.PassOf.{PassOf}
use Rattle.turnstile.specs.declared.view.Known.{Known}
use Rattle.turnstile.specs.Knowing.{Carries}
use Rattle.turnstile.specs.Passes.{known, table_of}
use Rattle.turnstile.specs.Turns.{Numbered, of, plain}
use Rattle.agent_server.specs.declared.desk.AgentDesk.{AgentDesk}
use Rattle.server_workers.specs.declared.base.RunBase.{RunBase}
use Rattle.server_workers.specs.declared.heard.Heard.{Heard}
use Rattle.server_workers.specs.declared.running.Past.{Past}
use Rattle.server_workers.specs.declared.running.RunEnd.{RunEnd}
use Rattle.server_workers.specs.declared.running.Twins.{Twins}
use Rattle.agent_server.specs.declared.stand.FirstLink.{FirstLink}
use Rattle.agent_server.specs.declared.stand.Shares.{Shares}
use Rattle.agent_server.specs.declared.team.SocketBack.{SocketBack}
use Rattle.agent_server.specs.declared.stand.Stand.{Stand}
use Rattle.server_workers.specs.declared.workers.Worker.{Worker}
use Rattle.server_workers.specs.declared.workers.Worker.TheVariants as worker
use Rattle.agent_server.specs.declared.desk.Tools.{Tools}
use Rattle.agent_server.specs.Desks.{HasRead, HasSent, StandsBy}
use Rattle.server_workers.specs.Entries.{EachEntry, EndsWith, ticks}
use Rattle.server_workers.specs.Running.{NoNextLink, IsFinishedTick, Opened, RoseBy, StopsFor}
use Rattle.agent_server.specs.Runs.{IsRun, entries_recorded}
use Rattle.agent_server.specs.Server.{Began}
use Rattle.server_workers.specs.Serving.{IsTick}
use Rattle.server_workers.specs.SocketReading.{ReadsSocket}
use Rattle.server_workers.specs.Segments.{ServerTurn}

-- ---- before the first link

pub record AreShares {C : Type 0} (turnstile : TableId) (shares : Shares C) : Type 0 where
  pub auth : arc_value shares.auth ≡ turnstile
  pub acct : arc_value shares.acct ≡ turnstile
  pub link : arc_value shares.link ≡ turnstile

-- The shares are of the turnstile, its one pass has seen nothing, and there is room for the links, of which none is over.
pub record IsReady {C I O : Type 0} (stand : Stand C I O) : Type 0 where
  pub table : table_of stand.pass ≡ arc_value stand.turnstile
  pub shares : AreShares (arc_value stand.turnstile) stand.shares
  pub numbers : (known stand.pass).numbers ≡ 0 ∷ 1 ∷ 2 ∷ 3 ∷ []
  pub seen : (known stand.pass).seen ≡ []
  pub pairs : stand.past.pairs.items ≡ []
  pub lost : stand.past.lost ≡ 0
  pub again : stand.past.again ≡ 0
  pub room : 256 ≤ vec_capacity stand.past.pairs

-- what a turnstile was of whose desk this is left: its turns were a run, which the clock has read, and which was recorded
-- where there is a sender
pub record IsRead {C : Type 0} (readings : C → Option (List ℕ)) (tools : Tools C) (base : RunBase) (seen : List ServerTurn) : Type 0 where
  pub run : IsRun base.config base.until (plain seen)
  pub numbered : Numbered seen
  pub clock_read : HasRead (readings tools.clock) base.before (plain seen)
  pub sent : HasSent base.sender tools.sender (entries_recorded base.config (plain seen))

-- a run began from this base, and this is left of its desk
abbrev pub BeganFrom : {C : Type 0} → (C → Option (List ℕ)) → RunBase → Tools C → Type 0
BeganFrom {C} readings base tools =
    Began base.config base.until base.before (readings tools.clock) (HasSent base.sender tools.sender)

-- ---- the first link

-- only the writer took turns
abbrev pub IsAlone : List ServerTurn → Type 0
IsAlone seen = (of 1 seen ≡ []) × (of 2 seen ≡ []) × (of 3 seen ≡ [])

-- the writer was alone and let time pass, and by the last answer the run was at its end
pub record FinishedAlone (seen : List ServerTurn) : Type 0 where
  pub asks : EachEntry (λ ask heard. IsTick ask) (of 0 seen)
  pub last : EndsWith IsFinishedTick (of 0 seen)
  pub alone : IsAlone seen

-- a socket of which twins were made
abbrev pub Alike : Socket → Socket → Type 0
Alike before now = Twinned ⊥ before now

module _ {I O : Type 0} (hears : I → Inlet) (speaks : O → Outlet) where
  -- the first link was made, and its Up came last
  pub record FirstOpened {D : Type 0} (told : D → Socket) (first : FirstLink D I O) (seen : List ServerTurn) (before now : Dials) : Type 0 where
    pub fresh_in : IsFreshInlet (hears first.pair.link_in)
    pub fresh_out : IsFreshOutlet (speaks first.pair.link_out)
    pub auth : IsFreshSocket (told first.twins.auth)
    pub acct : IsFreshSocket (told first.twins.acct)
    pub alone : IsAlone seen
    pub opened : Opened hears speaks [] seen 0 0
    pub dialled : RoseBy (ticks (of 0 seen)) before.faults now.faults
    pub grows : before.faults ≤ now.faults
    pub row : now.row ≡ 0

-- why no link was opened, or no twin made of a socket, by the dialer's counts before and now
abbrev pub FirstFails : Status → List ServerTurn → Dials → Dials → Type 0 → Type 0
FirstFails OutOfMemory seen before now twin = Unit {0}
FirstFails LinkFault seen before now twin = Rose before.faults now.faults × ((now.row ≡ 16) ⊎ ((0 < now.row) × FinishedAlone seen))
FirstFails DatagramFault seen before now twin = twin
FirstFails status seen before now twin = ⊥

-- ---- workers

-- a pass of this turnstile, with this one number
abbrev pub IsPassOf : {C : Type 0} → TableId → ℕ → TableId → Known (AgentDesk C) Input Heard → Type 0
IsPassOf turnstile number table k = (table ≡ turnstile) × (k.numbers ≡ number ∷ [])

-- a share of this turnstile, and a pass with this number that has seen what the writer has
pub record IsPlace {C : Type 0} (turnstile : TableId) (number : ℕ) (k : Known (AgentDesk C) Input Heard) (share : TableId)
    (pass : PassOf (AgentDesk C) Input Heard) : Type 0 where
  pub shared : share ≡ turnstile
  pub table : table_of pass ≡ turnstile
  pub numbers : (known pass).numbers ≡ number ∷ []
  pub seen : (known pass).seen ≡ k.seen
  pub first : (known pass).first ≡ k.first

module _ {C D I : Type 0} where
  -- the reader of this socket, and of this link with the twins, at its place
  abbrev pub IsReaderOf : TableId → ℕ → Via → Known (AgentDesk C) Input Heard → D → Worker (AgentDesk C) D I → Type 0
  IsReaderOf turnstile number via k device (worker.Reader alloc shared pass port socket) =
      IsPlace turnstile number k (arc_value shared) pass × (port ≡ via) × (socket ≡ device)
  IsReaderOf turnstile number via k device (worker.Link alloc shared pass link auth acct) = ⊥

  abbrev pub IsLinkReaderOf : TableId → ℕ → Known (AgentDesk C) Input Heard → I → Twins D → Worker (AgentDesk C) D I → Type 0
  IsLinkReaderOf turnstile number k inlet twins (worker.Link alloc shared pass link auth acct) =
      IsPlace turnstile number k (arc_value shared) pass × (link ≡ inlet) × (auth ≡ twins.auth) × (acct ≡ twins.acct)
  IsLinkReaderOf turnstile number k inlet twins (worker.Reader alloc shared pass via socket) = ⊥

  abbrev pub IsReader : TableId → ℕ → Worker (AgentDesk C) D I → Type 0
  IsReader turnstile number (worker.Reader alloc shared pass via socket) = IsPassOf turnstile number (table_of pass) (known pass)
  IsReader turnstile number (worker.Link alloc shared pass link auth acct) = ⊥

  abbrev pub IsLinkReader : TableId → ℕ → Worker (AgentDesk C) D I → Type 0
  IsLinkReader turnstile number (worker.Link alloc shared pass link auth acct) = IsPassOf turnstile number (table_of pass) (known pass)
  IsLinkReader turnstile number (worker.Reader alloc shared pass via socket) = ⊥

  abbrev pub IsSocketWorker : Worker (AgentDesk C) D I → Type 0
  IsSocketWorker (worker.Reader alloc shared pass via socket) = Unit {0}
  IsSocketWorker (worker.Link alloc shared pass link auth acct) = ⊥

  -- a start gave this worker, whether or not it was started
  abbrev pub IsStart : Worker (AgentDesk C) D I → Result (Worker (AgentDesk C) D I) (Worker (AgentDesk C) D I) → Type 0
  IsStart handed (Ok started) = started ≡ handed
  IsStart handed (Err back) = back ≡ handed

-- A reader was made of a socket of this port, under this number, when so much was seen. No receive had failed just before.
pub record ReadsFor {C : Type 0} (via : Via) (number : ℕ) (k begin : Known (AgentDesk C) Input Heard) (before made : Socket) : Type 0 where
  pub numbers : begin.numbers ≡ number ∷ []
  pub seen : begin.seen ≡ k.seen
  pub none : of number k.seen ≡ []
  pub alike : Alike before made
  pub row : before.row ≡ 0

module _ {C D : Type 0} (told : D → Socket) where
  -- its worker
  abbrev pub StartsFor : {I : Type 0} → Via → ℕ → Known (AgentDesk C) Input Heard → Socket → Worker (AgentDesk C) D I → Type 0
  StartsFor {I} via number k before (worker.Reader alloc shared pass port socket) = (port ≡ via) × ReadsFor via number k (known pass) before (told socket)
  StartsFor {I} via number k before (worker.Link alloc shared pass link auth acct) = ⊥

  -- the reader of a socket that ran, or was never started
  abbrev pub IsSocketBack : {I : Type 0} → Result (Worker (AgentDesk C) D I) (Worker (AgentDesk C) D I) → SocketBack C D → Type 0
  IsSocketBack {I} (Ok (worker.Reader alloc shared pass via socket)) back =
      (table_of back.pass ≡ table_of pass)
      × ReadsSocket via (known pass) (known back.pass) (told socket) (told back.socket) back.lost back.failed
  IsSocketBack {I} (Err (worker.Reader alloc shared pass via socket)) back =
      back ≡ record { pass = pass; socket = socket; lost = 0; failed = false }
  IsSocketBack {I} (Ok (worker.Link alloc shared pass link auth acct)) back = ⊥
  IsSocketBack {I} (Err (worker.Link alloc shared pass link auth acct)) back = ⊥

  -- the reader of a socket is done
  pub record SocketDone (via : Via) (number : ℕ) (k : Known (AgentDesk C) Input Heard) (before : Socket) (back : SocketBack C D) : Type 0 where
    pub begin : Known (AgentDesk C) Input Heard
    pub made : Socket
    pub begun : ReadsFor via number k begin before made
    pub reads : ReadsSocket via begin (known back.pass) made (told back.socket) back.lost back.failed

-- ---- the end

-- The end of all workers of a run: what the writer knew when they were started and knows now, how the links ended, and what
-- each reader gave back. `dials` are the dialer's counts at first, when the workers were started, and now; `starts` are the
-- crew's counts of refused starts.
pub record TeamEnd (C D I O : Type 0) : Type 0 where
  pub base : RunBase
  pub dials : Dials
  pub dials' : Dials
  pub dials'' : Dials
  pub starts : ℕ
  pub starts' : ℕ
  pub auth : Socket
  pub acct : Socket
  pub k : Known (AgentDesk C) Input Heard
  pub k' : Known (AgentDesk C) Input Heard
  pub end : RunEnd
  pub twins : Twins D
  pub past : Past I O
  pub auth_back : SocketBack C D
  pub acct_back : SocketBack C D

-- all workers are done
pub record AllDone {C D I O : Type 0} (readings : C → Option (List ℕ)) (told : D → Socket) (hears : I → Inlet) (speaks : O → Outlet) (team : TeamEnd C D I O) : Type 0 where
  pub carries : Carries (StandsBy readings) team.k team.base
  pub dialled : RoseBy (ticks (of 0 team.k.seen)) team.dials.faults team.dials'.faults
  pub grows : team.dials.faults ≤ team.dials'.faults
  pub ends : NoNextLink hears speaks told team.end team.dials' team.dials'' (Rose team.starts team.starts') team.k team.k' team.twins team.past
  pub stops : StopsFor team.end team.dials''.row team.starts team.starts'
  pub auth_done : SocketDone told Auth 1 team.k team.auth team.auth_back
  pub acct_done : SocketDone told Acct 2 team.k team.acct team.acct_back
