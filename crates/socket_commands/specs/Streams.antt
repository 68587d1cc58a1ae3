-- What the input, the output and the devices of a command tell before it and after it.
use Rattle.std.specs.Prelude.{◌≡◌, ℕ, ◌≤◌, List, length, Option, Some, Ok}
use Rattle.wire_core.specs.Counts.{Rose}
use Rattle.agent_settings.specs.declared.config.Config.{Config}
use Rattle.agent_config.specs.Settings.{settings_in}
use Rattle.wire_devices.specs.Dialling.{Dials}
use Rattle.wire_devices.specs.Sockets.{Socket}
use Rattle.text_commands.specs.WholeInput.{most_whole}
use Rattle.agent_server.specs.declared.server.World.{World}

-- what is left of an input, how often its end was read, and how many reads failed
pub record InputTold : Type 0 where
  pub left : Option (List ℕ)
  pub left' : Option (List ℕ)
  pub ends : ℕ
  pub ends' : ℕ
  pub faults : ℕ
  pub faults' : ℕ

-- what was written to an output, and how many writes failed
pub record OutputTold : Type 0 where
  pub written : Option (List ℕ)
  pub written' : Option (List ℕ)
  pub faults : ℕ
  pub faults' : ℕ

pub record StreamsTold : Type 0 where
  pub input : InputTold
  pub output : OutputTold

abbrev pub input_told : {S : Type 0} → (S → Option (List ℕ)) → (S → ℕ) → (S → ℕ) → S → S → InputTold
input_told left ends faults before after = record {
  left = left before;
  left' = left after;
  ends = ends before;
  ends' = ends after;
  faults = faults before;
  faults' = faults after;
}

abbrev pub output_told : {K : Type 0} → (K → Option (List ℕ)) → (K → ℕ) → K → K → OutputTold
output_told written faults before after =
    record { written = written before; written' = written after; faults = faults before; faults' = faults after }

-- no read failed, and no write
pub record NoStreamFailed (streams : StreamsTold) : Type 0 where
  pub reads : ¬ Rose streams.input.faults streams.input.faults'
  pub writes : ¬ Rose streams.output.faults streams.output.faults'

-- The input is told, has settings, and is within what may be taken.
pub record HasSettings (input : InputTold) : Type 0 where
  pub octets : List ℕ
  pub config : Config
  pub is_told : input.left ≡ Some octets
  pub read : settings_in octets ≡ Ok config
  pub short : length octets ≤ most_whole

module _ {C D L W : Type 0} (told : D → Socket) (dials : L → Dials) (faults : W → ℕ) where
  -- no call on a socket failed and no dial, and no start of a thread was refused
  pub record NoDeviceFailed (world world' : World C D L W) : Type 0 where
    pub auth : ¬ Rose (told world.auth).faults (told world'.auth).faults
    pub acct : ¬ Rose (told world.acct).faults (told world'.acct).faults
    pub dialer : ¬ Rose (dials world.dialer).faults (dials world'.dialer).faults
    pub crew : ¬ Rose (faults world.crew) (faults world'.crew)
