-- How the command `serve` ends.
use Rattle.std.specs.Prelude.{◌≡◌, ℕ, ◌⊎◌, ◌/◌, ◌%◌, ◌^◌, nat_lt, if◌then◌else◌, List, [], ◌∷◌, ◌++◌, codes, decimal, Option, Some, None, IfSome, IfNone}
use Rattle.std.specs.Option.{option_or}
use Rattle.wire_core.specs.Counts.{Rose}
use Rattle.wire_core.specs.Sink.{Appends, AppendsPrefix}
use Rattle.agent_settings.specs.declared.config.Config.{Config}
use Rattle.agent_status.specs.declared.status.Status.{Status}
use Rattle.agent_status.specs.declared.status.Status.TheVariants.{Done, Usage, BadConfig, BadTranscript, ReadFault, PeerRefused, WriteFault, OutOfMemory, LinkEnded, TooLong}
use Rattle.wire_devices.specs.Dialling.{Dials}
use Rattle.wire_devices.specs.Links.{Inlet, Outlet}
use Rattle.wire_devices.specs.Sockets.{Socket}
use Rattle.agent_core.specs.Places.{Event}
use Rattle.agent_server.specs.declared.server.Finish.{Finish}
use Rattle.agent_server.specs.declared.server.World.{World}
use Rattle.agent_server.specs.Desks.{HasRead}
use Rattle.agent_server.specs.Ran.{IsAny, RanFrom, run_by}
use Rattle.agent_server.specs.Server.{rank}
use Rattle.text_commands.specs.SettingsInput.{SettingsNot, SettingsTaken}
use Rattle.text_commands.specs.Tasks.{EndsCounts}
use Rattle.peer_runs.specs.Until.{until_of}
use Rattle.socket_commands.specs.Streams.{HasSettings, NoDeviceFailed, NoStreamFailed, StreamsTold}

-- ---- what a run begins from

-- a boot that isn't set is the first reading of the clock in whole seconds
abbrev pub with_boot : ℕ → Config → Config
with_boot first config = record config { boot = option_or config.boot (Some (first / 1000 % 2 ^ 32)) }

-- ---- what is written of it

-- 'served E L': the entries, and the inputs that were lost
abbrev pub served_line : ℕ → ℕ → List ℕ
served_line entries lost = codes "served " ++ decimal entries ++ 32 ∷ decimal lost ++ 10 ∷ []

-- a failed write, unless the run's own status goes before it
abbrev pub after_failure : Status → Status
after_failure status = if nat_lt (rank status) 4 then status else WriteFault

-- The line was written and the run's status stands, or a prefix of it was, or there was no memory for it.
abbrev pub Reports : Status → Status → List ℕ → Option (List ℕ) → Option (List ℕ) → ℕ → ℕ → Type 0
Reports end status line before now faults faults' =
    (Appends before now line × (status ≡ end))
    ⊎ ((AppendsPrefix before now line × Rose faults faults' × (status ≡ after_failure end))
    ⊎ ((now ≡ before) × (status ≡ OutOfMemory)))

-- ---- a run

-- these are all readings that a clock told, of which the run took the last as its first
abbrev pub HasToldFirst : Option (List ℕ) → ℕ → List ℕ → Type 0
HasToldFirst told first readings = (before : List ℕ) × HasRead told before [] × (readings ≡ before ++ first ∷ [])

-- how a run ends that began
abbrev pub IsRunEnd : Status → Type 0
IsRunEnd Usage = ⊥
IsRunEnd (BadConfig fault) = ⊥
IsRunEnd (BadTranscript line reason) = ⊥
IsRunEnd ReadFault = ⊥
IsRunEnd TooLong = ⊥
IsRunEnd status = Unit {0}

-- how a run ends that no device failed
abbrev pub IsSoundEnd : Status → Type 0
IsSoundEnd Done = Unit {0}
IsSoundEnd OutOfMemory = Unit {0}
IsSoundEnd (PeerRefused code) = Unit {0}
IsSoundEnd (LinkEnded cause) = Unit {0}
IsSoundEnd status = ⊥

module _ {C D L W I O : Type 0} (readings : C → Option (List ℕ)) (told : D → Socket) (hears : I → Inlet) (speaks : O → Outlet)
    (dials : L → Dials) (made : L → ℕ) (faults started : W → ℕ) where
  -- The server ran by these settings up to so long after the clock's first reading. `has` is what holds then of the entries
  -- that a record of the run has.
  pub record RanFor (config : Config) (millis : ℕ) (world : World C D L W) (finish : Finish C D L W I O) (has : ℕ → List Event → Type 0) : Type 0 where
    pub first : ℕ
    pub ran : RanFrom readings told hears speaks dials made faults started (HasToldFirst (readings world.clock) first)
        (run_by (with_boot first config) (until_of first millis) world finish) (has first)

  -- Settings were read from the input, and the server ran by them. Where its workers were started the line that tells of it
  -- was written.
  pub record RanServer (millis : ℕ) (streams : StreamsTold) (world : World C D L W) (finish : Finish C D L W I O) : Type 0 where
    pub config : Config
    pub settings : SettingsTaken config streams.input.left streams.input.left'
    pub end : Status
    pub run : RanFor config millis world (record finish { status = end }) (λ first. IsAny)
    pub reported : IfSome finish.trail
        (λ t. Reports end finish.status (served_line t.entries t.lost) streams.output.written streams.output.written' streams.output.faults
        streams.output.faults')
    pub unreported : IfNone finish.trail (finish.status ≡ end)

  -- the settings of the input could be read and the server ran, or they couldn't and nothing was done
  abbrev pub ServesBy : ℕ → StreamsTold → World C D L W → Finish C D L W I O → Type 0
  ServesBy millis streams world finish =
      (SettingsNot finish.status streams.input.left streams.input.left' × (finish.world ≡ world) × (finish.trail ≡ None)) ⊎ RanServer millis streams world finish

  -- What `serve` promises: the run and its line, or why there was none; which count rose, by the status; and what is left of
  -- the statuses where the input has settings and nothing failed.
  pub record ServeEnded (millis : ℕ) (streams : StreamsTold) (world : World C D L W) (finish : Finish C D L W I O) : Type 0 where
    pub served : ServesBy millis streams world finish
    pub counts : EndsCounts finish.status streams.input.ends streams.input.ends' streams.input.faults streams.input.faults'
        streams.output.faults streams.output.faults'
    pub complete : HasSettings streams.input → NoStreamFailed streams → NoDeviceFailed told dials faults world finish.world
        → IsSoundEnd finish.status
