-- Internal: when a core may be: its settings are in limits, and it stands for some history of octets.
use Rattle.std.specs.Prelude.{ℕ, ◌<◌, ◌^◌, List, IfSome, slice_index}
use Rattle.std.specs.List.{AllByRecursion}
use Rattle.agent_settings.specs.Config.{InLimits}
use Rattle.agent_events.specs.declared.events.Input.{Input}
use Rattle.agent_events.specs.declared.events.Input.TheVariants.{Datagram, Up, Ready, Message, Broken, Down, Tick, Drain, Leave}
use Rattle.agent_core.specs.declared.ledger.Ledger.{Ledger}
use Rattle.agent_core.specs.Places.{Event}
use Rattle.agent_core.specs.Standing.{StandsFor, IsRoomy}

-- each of these is an octet
abbrev pub AreBytes : List ℕ → Type 0
AreBytes octets = (i : ℕ) → slice_index octets i < 256

-- a datagram has octets
abbrev pub IsReal : Input → Type 0
IsReal (Datagram via address port octets) = AreBytes octets
IsReal Up = Unit {0}
IsReal Ready = Unit {0}
IsReal (Message octets) = Unit {0}
IsReal (Broken fault) = Unit {0}
IsReal Down = Unit {0}
IsReal Tick = Unit {0}
IsReal Drain = Unit {0}
IsReal Leave = Unit {0}

pub record IsCore (S : Ledger) : Type 0 where
  pub limits : InLimits S.config
  pub boot : IfSome S.config.boot (λ b. b < 2 ^ 32)
  pub roomy : IsRoomy S
  pub history : List Event
  pub stands : StandsFor S history
  pub real : AllByRecursion (λ e. IsReal e.input) history
