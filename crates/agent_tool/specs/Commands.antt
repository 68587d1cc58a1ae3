-- What each command promises.
use Rattle.std.specs.Prelude.{◌≡◌, ℕ, List, Option, Some, None, IfNone}
use Rattle.agent_status.specs.declared.status.Status.{Status}
use Rattle.wire_devices.specs.Dialling.{Dials}
use Rattle.wire_devices.specs.Links.{Inlet, Outlet}
use Rattle.wire_devices.specs.Sockets.{Socket}
use Rattle.agent_server.specs.declared.server.World.{World}
use Rattle.text_runs.specs.TextEnds.{CountsAs, EndsAs, IsEndAs, IsSound}
use Rattle.command_line.specs.declared.command.TextCommand.{TextCommand}
use Rattle.command_line.specs.declared.command.Command.{Command}
use Rattle.command_line.specs.declared.command.Command.TheVariants.{Text, Run}
use Rattle.command_line.specs.declared.command.Places.TheVariants.{Serve, Record, Home, Nas}
use Rattle.socket_commands.specs.declared.recording.CommandEnd.{CommandEnd}
use Rattle.socket_commands.specs.declared.recording.Tape.{Tape}
use Rattle.socket_commands.specs.PeerEnds.{HomeEnded, IsDone, NasEnded}
use Rattle.socket_commands.specs.Records.{RecordEnded}
use Rattle.socket_commands.specs.Serves.{ServeEnded}
use Rattle.socket_commands.specs.Streams.{NoStreamFailed, StreamsTold}

-- What a command from text to text promises: what was taken and written, by the status; the statuses that it has at all;
-- which count rose; and that it is done where its input is sound and nothing failed.
pub record TextEnded (command : TextCommand) (streams : StreamsTold) (status : Status) : Type 0 where
  pub ends : EndsAs command status streams.input.left streams.input.left' streams.output.written streams.output.written'
  pub known : IsEndAs command status
  pub counts : CountsAs command status streams.input.ends streams.input.ends' streams.input.faults streams.input.faults'
      streams.output.faults streams.output.faults'
  pub complete : (X : List ℕ) → streams.input.left ≡ Some X → IsSound command X → NoStreamFailed streams → IsDone status

-- The output is as it was where words are no command's, for `record`, and for `serve` where its workers weren't started.
abbrev pub Unwritten : {A : Type 0} → Option Command → Option A → Type 0 → Type 0
Unwritten None trail same = same
Unwritten (Some (Text command)) trail same = Unit {0}
Unwritten (Some (Run (Serve address auth acct peer port) millis)) trail same = IfNone trail same
Unwritten (Some (Run (Record address auth acct peer port) millis)) trail same = same
Unwritten (Some (Run (Home address port) millis)) trail same = Unit {0}
Unwritten (Some (Run (Nas address port) millis)) trail same = Unit {0}

module _ {C D L W I O Q T V : Type 0} (readings : C → Option (List ℕ)) (told : D → Socket) (hears : I → Inlet) (speaks : O → Outlet)
    (dials : L → Dials) (made : L → ℕ) (faults started : W → ℕ) (written : T → Option (List ℕ)) (writes : T → ℕ) (starts : V → ℕ) where
  -- how each command ends
  abbrev pub CommandEnded : Option Command → StreamsTold → World C D L W → Tape Q T V → CommandEnd C D L W Q T V I O → Type 0
  CommandEnded None streams world tape end = Unit {0}
  CommandEnded (Some (Text command)) streams world tape end = TextEnded command streams end.finish.status
  CommandEnded (Some (Run (Serve address auth acct peer port) millis)) streams world tape end =
      ServeEnded readings told hears speaks dials made faults started millis streams world end.finish
  CommandEnded (Some (Run (Record address auth acct peer port) millis)) streams world tape end =
      RecordEnded readings told hears speaks dials made faults started written writes starts millis streams.input world tape end
  CommandEnded (Some (Run (Home address port) millis)) streams world tape end =
      HomeEnded readings hears speaks dials millis streams world end.finish
  CommandEnded (Some (Run (Nas address port) millis)) streams world tape end =
      NasEnded readings told (record { address = address; port = port }) millis streams world end.finish
