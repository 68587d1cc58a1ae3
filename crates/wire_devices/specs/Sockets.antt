-- What a socket tells, and what each call on it does to that.
use Rattle.std.specs.Prelude.{◌≡◌, ℕ, ◌+◌, ◌≤◌, min, Bool, List, [], ◌∷◌, length, take, Option, ⊤}
use Rattle.wire_core.specs.Counts.{Counts, one_more}
use Rattle.wire_core.specs.Sink.{PutFailed}
use Rattle.wire_core.specs.declared.outside.Put.{Put}
use Rattle.wire_devices.specs.declared.devices.Datagram.{Datagram}
use Rattle.wire_devices.specs.declared.devices.Took.{Took}
use Rattle.wire_devices.specs.declared.devices.Took.TheVariants.{From, Nothing, Failed}
use Rattle.wire_devices.specs.Telling.{Adds, AddsOne, TellsOnly, MayBeQuiet}

-- The datagrams that were received and those that `send` was handed, each in order; whether the next look finds one;
-- the looks that found none; the calls that failed; the receives that failed since the last one that didn't, up to 16;
-- and the port that it is at, which stays
pub record Socket : Type 0 where
  pub received : Option (List Datagram)
  pub handed : Option (List Datagram)
  pub ready : Option Bool
  pub idle : Option ℕ
  pub faults : ℕ
  pub row : ℕ
  pub port : Option ℕ

abbrev pub datagram : ℕ → ℕ → List ℕ → Datagram
datagram a p octets = record { address = a; port = p; octets = octets }

-- one more failure in a row, counted up to 16 (profile)
abbrev pub next_row : ℕ → ℕ
next_row row = min (row + 1) 16

-- a receive gave this datagram
pub record Gave (before now : Socket) (d : Datagram) : Type 0 where
  pub received : Adds before.received now.received (d ∷ [])
  pub row : now.row ≡ 0
  pub handed : now.handed ≡ before.handed
  pub idle : now.idle ≡ before.idle
  pub faults : now.faults ≡ before.faults
  pub port : now.port ≡ before.port

-- a receive looked, and no datagram was there
pub record FoundNone (before now : Socket) : Type 0 where
  pub quiet : MayBeQuiet before.ready
  pub idle : AddsOne before.idle now.idle
  pub row : now.row ≡ 0
  pub received : now.received ≡ before.received
  pub handed : now.handed ≡ before.handed
  pub faults : now.faults ≡ before.faults
  pub port : now.port ≡ before.port

-- a receive failed
pub record FailedToReceive (before now : Socket) : Type 0 where
  pub faults : now.faults ≡ one_more before.faults
  pub row : now.row ≡ next_row before.row
  pub received : now.received ≡ before.received
  pub handed : now.handed ≡ before.handed
  pub idle : now.idle ≡ before.idle
  pub port : now.port ≡ before.port

-- a datagram has at most so many octets
abbrev pub Fits : Took → ℕ → Type 0
Fits (From a p count) room = count ≤ room
Fits Nothing room = ⊤
Fits Failed room = ⊤

-- A datagram's octets are the first so many of the buffer.
abbrev pub Receives : Took → Socket → Socket → List ℕ → Type 0
Receives (From a p count) before now buf = (count ≤ length buf) × Gave before now (datagram a p (take count buf))
Receives Nothing before now buf = FoundNone before now
Receives Failed before now buf = FailedToReceive before now

-- `send` was handed this datagram, whether or not it could send it
pub record Sends (put : Put) (before now : Socket) (d : Datagram) : Type 0 where
  pub handed : Adds before.handed now.handed (d ∷ [])
  pub faults : Counts (PutFailed put) before.faults now.faults
  pub row : now.row ≡ before.row
  pub received : now.received ≡ before.received
  pub ready : now.ready ≡ before.ready
  pub idle : now.idle ≡ before.idle
  pub port : now.port ≡ before.port

-- a twin was made of the socket, or refused, and nothing of the socket changed but the count of faults
pub record Twinned (refused : Type 0) (before now : Socket) : Type 0 where
  pub faults : Counts refused before.faults now.faults
  pub row : now.row ≡ before.row
  pub received : now.received ≡ before.received
  pub handed : now.handed ≡ before.handed
  pub ready : now.ready ≡ before.ready
  pub idle : now.idle ≡ before.idle
  pub port : now.port ≡ before.port

-- nothing was received yet, nothing was handed in, and nothing failed
pub record IsFreshSocket (s : Socket) : Type 0 where
  pub received : TellsOnly s.received []
  pub handed : TellsOnly s.handed []
  pub idle : TellsOnly s.idle 0
  pub faults : s.faults ≡ 0
  pub row : s.row ≡ 0
