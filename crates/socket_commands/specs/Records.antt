-- How the command `record` ends, and what it writes.
use Rattle.std.specs.Prelude.{◌≡◌, ℕ, ◌⊎◌, List, map, Option, None}
use Rattle.wire_core.specs.Counts.{Rose}
use Rattle.wire_core.specs.Sink.{Appends, AppendsPrefix}
use Rattle.agent_settings.specs.declared.config.Config.{Config}
use Rattle.agent_status.specs.declared.status.Status.{Status}
use Rattle.agent_status.specs.declared.status.Status.TheVariants.{NoThread, OutOfMemory, WriteFault}
use Rattle.wire_devices.specs.Dialling.{Dials}
use Rattle.wire_devices.specs.Links.{Inlet, Outlet}
use Rattle.wire_devices.specs.Sockets.{Socket}
use Rattle.agent_core.specs.Places.{Event}
use Rattle.printed_lines.specs.SettingsText.{settings_text}
use Rattle.transcript.specs.Records.{record_text}
use Rattle.agent_server.specs.declared.server.Finish.{Finish}
use Rattle.agent_server.specs.declared.server.World.{World}
use Rattle.agent_server.specs.Ran.{status_recorded}
use Rattle.text_commands.specs.SettingsInput.{SettingsNot, SettingsTaken}
use Rattle.text_commands.specs.Tasks.{EndsCounts}
use Rattle.socket_commands.specs.declared.recording.CommandEnd.{CommandEnd}
use Rattle.socket_commands.specs.declared.recording.Tape.{Tape}
use Rattle.socket_commands.specs.Serves.{IsSoundEnd, RanFor, with_boot}
use Rattle.socket_commands.specs.Streams.{HasSettings, InputTold, NoDeviceFailed}

-- the text of a record: the lines of the settings, and then one for each of these events
abbrev pub text_recorded : Config → List Event → List ℕ
text_recorded config events = record_text config (map (λ e. (e.moment, e.input)) events)

-- The record of these events was written, or a beginning of it; all of it where it wasn't closed.
pub record IsRecordText (config : Config) (before now : Option (List ℕ)) (closed : Option ℕ) (events : List Event) : Type 0 where
  pub begins : AppendsPrefix before now (text_recorded config events)
  pub whole : closed ≡ None → Appends before now (text_recorded config events)

-- What a tape tells before a run and after it: what was written to it, how many of its writes failed and how many starts of
-- its thread were refused. Where its record is short, the moment of the first entry that wasn't written.
pub record TapeTold : Type 0 where
  pub output : Option (List ℕ)
  pub output' : Option (List ℕ)
  pub writes : ℕ
  pub writes' : ℕ
  pub starts : ℕ
  pub starts' : ℕ
  pub closed : Option ℕ

module _ {C D L W I O Q T V : Type 0} (written : T → Option (List ℕ)) (writes : T → ℕ) (starts : V → ℕ) where
  abbrev pub tape_told : Tape Q T V → CommandEnd C D L W Q T V I O → TapeTold
  tape_told tape end = record {
    output = written tape.writer.sink;
    output' = written end.tape.writer.sink;
    writes = writes tape.writer.sink;
    writes' = writes end.tape.writer.sink;
    starts = starts tape.crew;
    starts' = starts end.tape.crew;
    closed = end.closed;
  }

-- the world is as it was, but for its clock
abbrev pub IsAsItWas : {C D L W : Type 0} → World C D L W → World C D L W → Type 0
IsAsItWas world world' = world' ≡ record { clock = world'.clock; auth = world.auth; acct = world.acct; dialer = world.dialer; crew = world.crew }

-- nothing was done
abbrev pub IsUntouched : {C D L W I O Q T V : Type 0} → World C D L W → Tape Q T V → CommandEnd C D L W Q T V I O → Type 0
IsUntouched world tape end =
    end ≡ record { finish = record { status = end.finish.status; world = world; trail = None; home = None }; tape = tape; closed = None }

-- no run began: the settings couldn't be written, or the thread that writes couldn't be started
pub record RecordNot {C D L W I O : Type 0} (config : Config) (world : World C D L W) (finish : Finish C D L W I O) (tape : TapeTold) : Type 0 where
  pub first : ℕ
  pub same : IsAsItWas world finish.world
  pub none : finish.trail ≡ None
  pub unclosed : tape.closed ≡ None
  pub because : ((finish.status ≡ WriteFault) × Rose tape.writes tape.writes') ⊎ ((finish.status ≡ OutOfMemory) ⊎ ((finish.status ≡ NoThread) × Rose tape.starts tape.starts'))
  pub wrote : AppendsPrefix tape.output tape.output' (settings_text (with_boot first config))

module _ {C D L W I O : Type 0} (readings : C → Option (List ℕ)) (told : D → Socket) (hears : I → Inlet) (speaks : O → Outlet)
    (dials : L → Dials) (made : L → ℕ) (faults started : W → ℕ) where
  -- The server ran by these settings, as it does without a record, and the record of the run was written.
  pub record RecordRan (config : Config) (millis : ℕ) (world : World C D L W) (finish : Finish C D L W I O) (tape : TapeTold) : Type 0 where
    pub end : Status
    pub given : finish.status ≡ status_recorded end tape.closed
    pub run : RanFor readings told hears speaks dials made faults started config millis world (record finish { status = end })
        (λ first. IsRecordText (with_boot first config) tape.output tape.output' tape.closed)

  -- the server ran, or no run began
  abbrev pub RecordsBy : Config → ℕ → World C D L W → Finish C D L W I O → TapeTold → Type 0
  RecordsBy config millis world finish tape = RecordNot config world finish tape ⊎ RecordRan config millis world finish tape

  -- the same by the settings of the input
  pub record Recorded (millis : ℕ) (input : InputTold) (world : World C D L W) (finish : Finish C D L W I O) (tape : TapeTold) : Type 0 where
    pub config : Config
    pub settings : SettingsTaken config input.left input.left'
    pub recorded : RecordsBy config millis world finish tape

  module _ {Q T V : Type 0} (written : T → Option (List ℕ)) (writes : T → ℕ) (starts : V → ℕ) where
    -- What `record` promises: the run and its record, or why there was none; which count rose, by the status, and what is left
    -- of the statuses where the input has settings and nothing failed, both where the record isn't short.
    pub record RecordEnded (millis : ℕ) (input : InputTold) (world : World C D L W) (tape : Tape Q T V) (end : CommandEnd C D L W Q T V I O) : Type 0 where
      pub recorded : (SettingsNot end.finish.status input.left input.left' × IsUntouched world tape end)
          ⊎ Recorded millis input world end.finish (tape_told written writes starts tape end)
      pub counts : end.closed ≡ None → EndsCounts end.finish.status input.ends input.ends' input.faults input.faults'
          (writes tape.writer.sink) (writes end.tape.writer.sink)
      pub complete : HasSettings input → ¬ Rose input.faults input.faults' → end.closed ≡ None
          → ¬ Rose (writes tape.writer.sink) (writes end.tape.writer.sink) → ¬ Rose (starts tape.crew) (starts end.tape.crew)
          → NoDeviceFailed told dials faults world end.finish.world → IsSoundEnd end.finish.status
