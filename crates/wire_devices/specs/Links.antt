-- What the two ends of a link tell, and what each call on them does to that.
use Rattle.std.specs.Prelude.{◌≡◌, ℕ, ◌<◌, ◌≤◌, Bool, List, [], length, take, Option, ⊤}
use Rattle.wire_core.specs.Counts.{Counts, one_more}
use Rattle.wire_core.specs.Source.{Consumes, IsAtEnd}
use Rattle.wire_core.specs.Sink.{PutFailed}
use Rattle.wire_core.specs.declared.outside.Put.{Put}
use Rattle.wire_core.specs.declared.outside.Put.TheVariants as puts
use Rattle.wire_devices.specs.declared.devices.LinkGot.{LinkGot}
use Rattle.wire_devices.specs.declared.devices.LinkGot.TheVariants.{Bytes, Nothing, Ended, Failed}
use Rattle.wire_devices.specs.Telling.{Adds, AddsPrefix, AddsOne, TellsOnly, MayBeQuiet}

-- The octets that were received, in order, and those that are still to come; whether the next look finds one; the looks
-- that found none; the receives that were Ended or gave no octet; those that failed; and which of its dialer's links it is,
-- counted from 0, which stays
pub record Inlet : Type 0 where
  pub received : Option (List ℕ)
  pub left : Option (List ℕ)
  pub ready : Option Bool
  pub idle : Option ℕ
  pub ends : ℕ
  pub faults : ℕ
  pub number : Option ℕ

-- A receive gave the first octets of the buffer, so many. None counts as an end, and is one unless the buffer is empty.
pub record Brought (count : ℕ) (before now : Inlet) (buf : List ℕ) : Type 0 where
  pub within : count ≤ length buf
  pub received : Adds before.received now.received (take count buf)
  pub left : Consumes before.left now.left (take count buf)
  pub end : count ≡ 0 → 0 < length buf → IsAtEnd before.left
  pub ends : Counts (count ≡ 0) before.ends now.ends
  pub idle : now.idle ≡ before.idle
  pub faults : now.faults ≡ before.faults
  pub number : now.number ≡ before.number

-- a receive looked, and no octet was there
pub record HeardNone (before now : Inlet) : Type 0 where
  pub quiet : MayBeQuiet before.ready
  pub idle : AddsOne before.idle now.idle
  pub received : now.received ≡ before.received
  pub left : now.left ≡ before.left
  pub ends : now.ends ≡ before.ends
  pub faults : now.faults ≡ before.faults
  pub number : now.number ≡ before.number

-- nothing is left
pub record HeardTheEnd (before now : Inlet) : Type 0 where
  pub end : IsAtEnd before.left
  pub ends : now.ends ≡ one_more before.ends
  pub received : now.received ≡ before.received
  pub left : now.left ≡ before.left
  pub idle : now.idle ≡ before.idle
  pub faults : now.faults ≡ before.faults
  pub number : now.number ≡ before.number

-- a receive failed
pub record FailedToHear (before now : Inlet) : Type 0 where
  pub faults : now.faults ≡ one_more before.faults
  pub received : now.received ≡ before.received
  pub left : now.left ≡ before.left
  pub idle : now.idle ≡ before.idle
  pub ends : now.ends ≡ before.ends
  pub number : now.number ≡ before.number

-- some octets, and no more than so many
abbrev pub Within : LinkGot → ℕ → Type 0
Within (Bytes count) room = (0 < count) × (count ≤ room)
Within Nothing room = ⊤
Within Ended room = ⊤
Within Failed room = ⊤

abbrev pub Hears : LinkGot → Inlet → Inlet → List ℕ → Type 0
Hears (Bytes count) before now buf = Brought count before now buf
Hears Nothing before now buf = HeardNone before now
Hears Ended before now buf = HeardTheEnd before now
Hears Failed before now buf = FailedToHear before now

-- the octets that `send` was handed, one after another, and the calls that failed
pub record Outlet : Type 0 where
  pub handed : Option (List ℕ)
  pub faults : ℕ

-- `Done` sent the whole piece, `Failed` a prefix of it
abbrev pub HandsOver : Put → Option (List ℕ) → Option (List ℕ) → List ℕ → Type 0
HandsOver puts.Done before now piece = Adds before now piece
HandsOver puts.Failed before now piece = AddsPrefix before now piece

pub record Speaks (put : Put) (before now : Outlet) (piece : List ℕ) : Type 0 where
  pub handed : HandsOver put before.handed now.handed piece
  pub faults : Counts (PutFailed put) before.faults now.faults

-- the end of a link that was just made
pub record IsFreshInlet (i : Inlet) : Type 0 where
  pub received : TellsOnly i.received []
  pub idle : TellsOnly i.idle 0
  pub ends : i.ends ≡ 0
  pub faults : i.faults ≡ 0

pub record IsFreshOutlet (o : Outlet) : Type 0 where
  pub handed : TellsOnly o.handed []
  pub faults : o.faults ≡ 0
