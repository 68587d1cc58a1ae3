-- What a run of the server was, with workers or without: by what its devices tell before and after it.
use Rattle.std.specs.Prelude.{◌≡◌, ℕ, ◌⊎◌, List, [], length, map, Option, Some, None, IfSome, IfNone}
use Rattle.wire_core.specs.Counts.{Rose}
use Rattle.agent_settings.specs.declared.config.Config.{Config}
use Rattle.agent_status.specs.declared.status.Status.{Status}
use Rattle.agent_status.specs.declared.status.Status.TheVariants.{Done, NoThread, OutOfMemory, WriteFault}
use Rattle.run_record.specs.declared.entry.Entry.{Entry}
use Rattle.wire_devices.specs.Dialling.{Dials}
use Rattle.wire_devices.specs.Links.{Inlet, Outlet}
use Rattle.wire_devices.specs.Sockets.{Socket}
use Rattle.agent_core.specs.Places.{Event}
use Rattle.server_workers.specs.Running.{InOrder, counted, numbers_of, ports_of}
use Rattle.agent_server.specs.declared.server.Finish.{Finish}
use Rattle.agent_server.specs.declared.server.World.{World}
use Rattle.agent_server.specs.declared.trail.Trail.{Trail}
use Rattle.turnstile.specs.Turns.{StartsWith, plain}
use Rattle.agent_server.specs.Desks.{HasRead, event}
use Rattle.agent_server.specs.Runs.{entries_recorded}
use Rattle.agent_server.specs.Server.{Began, EndsEarly, HasTrail, RunTold, Served, twins_of}

-- these are all readings that a clock told, where it tells them
abbrev pub HasToldOnly : Option (List ℕ) → List ℕ → Type 0
HasToldOnly told before = HasRead told before []

-- nothing is said of the entries that a record of a run has
abbrev pub IsAny : List Event → Type 0
IsAny events = Unit {0}

-- A run: its settings, the moment up to which it serves, the outside before and after it, how it ended, and its trail, where
-- it has one.
pub record Run (C D L W I O : Type 0) : Type 0 where
  pub config : Config
  pub until : ℕ
  pub world : World C D L W
  pub world' : World C D L W
  pub status : Status
  pub trail : Option (Trail C D I O)

-- the run of these settings up to this moment that began from this outside and ended so
abbrev pub run_by : {C D L W I O : Type 0} → Config → ℕ → World C D L W → Finish C D L W I O → Run C D L W I O
run_by {C} {D} {L} {W} {I} {O} config until world finish = record {
  config = config;
  until = until;
  world = world;
  world' = finish.world;
  status = finish.status;
  trail = finish.trail;
}

module _ {C D L W I O : Type 0} (told : D → Socket) (dials : L → Dials) (faults : W → ℕ) where
  -- a run of this trail, by what its outside tells, over a clock that had told these readings before
  abbrev pub run_told : Run C D L W I O → List ℕ → Trail C D I O → RunTold C D I O
  run_told run before trail = record {
    config = run.config;
    until = run.until;
    before = before;
    auth = told run.world.auth;
    acct = told run.world.acct;
    auth' = told run.world'.auth;
    acct' = told run.world'.acct;
    dials = dials run.world.dialer;
    dials' = dials run.world'.dialer;
    starts = faults run.world.crew;
    starts' = faults run.world'.crew;
    clock = run.world'.clock;
    trail = trail;
    status = run.status;
  }

module _ {C D L W I O : Type 0} (readings : C → Option (List ℕ)) (told : D → Socket) (hears : I → Inlet) (speaks : O → Outlet)
    (dials : L → Dials) (made : L → ℕ) (faults started : W → ℕ) where
  -- What a run was. `begun` says of readings that the clock told no others before the first turn, and `has` is what holds of
  -- the entries that a record of the run has.
  pub record RanFrom (begun : List ℕ → Type 0) (run : Run C D L W I O) (has : List Event → Type 0) : Type 0 where
    pub workers : HasTrail run.trail (started run.world.crew) (started run.world'.crew)
    pub links : IfSome run.trail (λ t. made run.world'.dialer ≡ counted (made run.world.dialer) (length t.links))
    pub ports : IfSome run.trail (λ t. ports_of told (twins_of t) ≡ ((told run.world.auth).port, (told run.world.acct).port))
    pub order : IfSome run.trail (λ t. InOrder (made run.world.dialer) (numbers_of hears t.links))
    pub began : (before : List ℕ) → begun before → IfNone run.trail (Began run.config run.until before (readings run.world'.clock) has)
    pub served : (before : List ℕ) → begun before → IfSome run.trail (λ t. Served readings told hears speaks (run_told told dials faults run before t))
    pub recorded : (before : List ℕ) → begun before → IfSome run.trail (λ t. has (entries_recorded run.config (plain t.turns)))
    pub early : (before : List ℕ) → begun before
        → IfNone run.trail (EndsEarly run.status (readings run.world'.clock) run.until (dials run.world.dialer) (dials run.world'.dialer)
        (Rose (told run.world.auth).faults (told run.world'.auth).faults ⊎ Rose (told run.world.acct).faults (told run.world'.acct).faults)
        (Rose (faults run.world.crew) (faults run.world'.crew)))

-- ---- a run that is recorded

-- a run that would be Done isn't where its record is short
abbrev pub status_recorded : Status → Option ℕ → Status
status_recorded Done (Some moment) = WriteFault
status_recorded status closed = status

-- the thread that writes couldn't be started, and so nothing was
pub record Unstarted {C D L W I O : Type 0} (run : Run C D L W I O) (closed : Option ℕ) (starts starts' : ℕ) : Type 0 where
  pub same : run.world' ≡ run.world
  pub none : run.trail ≡ None
  pub unclosed : closed ≡ None
  pub because : (run.status ≡ OutOfMemory) ⊎ ((run.status ≡ NoThread) × Rose starts starts')

module _ {E Base : Type 0} (stands : E → Base → List Entry → Type 0) where
  -- The writer was given entries that begin these events, and all of them where the record wasn't closed.
  pub record IsRecorded (base : Base) (writer : E) (closed : Option ℕ) (events : List Event) : Type 0 where
    pub written : List Entry
    pub stood : stands writer base written
    pub begins : StartsWith events (map event written)
    pub whole : closed ≡ None → map event written ≡ events

  module _ {C D L W I O : Type 0} (readings : C → Option (List ℕ)) (told : D → Socket) (hears : I → Inlet) (speaks : O → Outlet)
      (dials : L → Dials) (made : L → ℕ) (faults started : W → ℕ) where
    -- A run as it is without a record but for its status, of which the writer was given this.
    pub record RanRecorded (begun : List ℕ → Type 0) (run : Run C D L W I O) (base : Base) (writer : E) (closed : Option ℕ) : Type 0 where
      pub end : Status
      pub given : run.status ≡ status_recorded end closed
      pub ran : RanFrom readings told hears speaks dials made faults started begun (record run { status = end }) (IsRecorded base writer closed)
