-- How the commands `home` and `nas` end.
use Rattle.std.specs.Prelude.{◌≡◌, ℕ, ◌≤◌, ◌⊎◌, ◌↔◌, List, length, Option, Some, None, Ok, IsOk}
use Rattle.std.specs.List.{AllByRecursion}
use Rattle.wire_core.specs.Counts.{Rose}
use Rattle.wire_devices.specs.Dialling.{Dials}
use Rattle.wire_devices.specs.Links.{Inlet, Outlet}
use Rattle.wire_devices.specs.Sockets.{Socket}
use Rattle.agent_status.specs.declared.status.Status.{Status}
use Rattle.agent_status.specs.declared.status.Status.TheVariants.{DatagramFault, Done, OutOfMemory}
use Rattle.test_peers.specs.declared.users.User.{User}
use Rattle.test_peers.specs.PacketLines.{packet_in}
use Rattle.test_peers.specs.Users.{users_in}
use Rattle.text_lines.specs.Streams.{most_octets}
use Rattle.text_lines.specs.Words.{lines_of}
use Rattle.text_commands.specs.Tasks.{EndsCounts}
use Rattle.text_commands.specs.WholeInput.{most_whole}
use Rattle.peer_runs.specs.declared.asking.Target.{Target}
use Rattle.peer_runs.specs.HomeRuns.{HomeBy, HomeCauses, HomeCounts, HomeRun, IsSound}
use Rattle.peer_runs.specs.NasRuns.{NasEnds, NasTold}
use Rattle.server_workers.specs.declared.links.Pair.{Pair}
use Rattle.agent_server.specs.declared.server.Finish.{Finish}
use Rattle.agent_server.specs.declared.server.World.{World}
use Rattle.socket_commands.specs.Streams.{NoStreamFailed, StreamsTold}

-- the two ends of a link, where there is one
abbrev pub link_of : {I O : Type 0} → Option (Pair I O) → Option (I × O)
link_of None = None
link_of (Some pair) = Some (pair.link_in, pair.link_out)

-- the command ended as it is to, or there was no memory
abbrev pub IsDone : Status → Type 0
IsDone status = (status ≡ Done) ⊎ (status ≡ OutOfMemory)

module _ {I O : Type 0} (hears : I → Inlet) (speaks : O → Outlet) where
  -- The input is a list of users that is short enough, and no call on the link failed.
  pub record IsSoundHome (link : Option (Pair I O)) (told : Option (List ℕ)) : Type 0 where
    pub input : List ℕ
    pub users : List User
    pub is_told : told ≡ Some input
    pub read : users_in input ≡ Ok users
    pub short : length input ≤ most_whole
    pub sound : IsSound hears speaks (link_of link)

module _ {C D L W I O : Type 0} (readings : C → Option (List ℕ)) (hears : I → Inlet) (speaks : O → Outlet) (dials : L → Dials) where
  abbrev pub home_run : ℕ → StreamsTold → World C D L W → Finish C D L W I O → HomeRun
  home_run millis streams world finish = record {
    millis = millis;
    input = streams.input.left;
    input' = streams.input.left';
    reads = streams.input.faults;
    reads' = streams.input.faults';
    dials = dials world.dialer;
    dials' = dials finish.world.dialer;
    clock = readings world.clock;
    clock' = readings finish.world.clock;
    output = streams.output.written;
    output' = streams.output.written';
  }

  -- What `home` promises: how a home server's run ends where the input is told, and whether or not it is; which count rose, by
  -- the status; and that it is done where the input has users and nothing failed.
  pub record HomeEnded (millis : ℕ) (streams : StreamsTold) (world : World C D L W) (finish : Finish C D L W I O) : Type 0 where
    pub ends : HomeBy hears speaks finish.status (link_of finish.home) (home_run millis streams world finish)
    pub causes : HomeCauses hears speaks finish.status (link_of finish.home) (home_run millis streams world finish)
    pub counts : HomeCounts finish.status streams.input.faults streams.input.faults' streams.output.faults streams.output.faults'
    pub complete : IsSoundHome hears speaks finish.home streams.input.left → NoStreamFailed streams
        → ¬ Rose (dials world.dialer).faults (dials finish.world.dialer).faults → IsDone finish.status

-- How a client's run ends. A failed socket ends it where 16 receives in a row failed, and then only.
pub record NasRan (status : Status) (place : Target) (patience : ℕ) (run : NasTold) : Type 0 where
  pub ends : NasEnds status place patience run
  pub failed : (status ≡ DatagramFault) ↔ (run.socket'.row ≡ 16)
  pub rose : status ≡ DatagramFault → Rose run.socket.faults run.socket'.faults

-- each line of the input is a packet, and the input is short enough
pub record TakesAll (told : Option (List ℕ)) : Type 0 where
  pub input : List ℕ
  pub is_told : told ≡ Some input
  pub packets : AllByRecursion (λ line. IsOk (packet_in line)) (lines_of input)
  pub short : length input ≤ most_octets

module _ {C D L W I O : Type 0} (readings : C → Option (List ℕ)) (told : D → Socket) where
  abbrev pub nas_run : StreamsTold → World C D L W → Finish C D L W I O → NasTold
  nas_run streams world finish = record {
    input = streams.input.left;
    input' = streams.input.left';
    output = streams.output.written;
    output' = streams.output.written';
    clock = readings world.clock;
    clock' = readings finish.world.clock;
    socket = told world.auth;
    socket' = told finish.world.auth;
  }

  -- What `nas` promises: how the run of its clients ends; which count rose, by the status; and that it is done where each line
  -- is a packet and nothing failed.
  pub record NasEnded (place : Target) (millis : ℕ) (streams : StreamsTold) (world : World C D L W) (finish : Finish C D L W I O) : Type 0 where
    pub ran : NasRan finish.status place millis (nas_run streams world finish)
    pub counts : EndsCounts finish.status streams.input.ends streams.input.ends' streams.input.faults streams.input.faults'
        streams.output.faults streams.output.faults'
    pub complete : TakesAll streams.input.left → NoStreamFailed streams → ¬ Rose (told world.auth).faults (told finish.world.auth).faults
        → IsDone finish.status
