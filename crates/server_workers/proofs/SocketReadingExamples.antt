-- The definitions on a reader of a socket.
use Rattle.std.proofs.Common.{◌≡◌, Bool, false, List, [], ◌∷◌, Option, Some, None, refl, arith}
use Rattle.radius_packet.specs.declared.reasons.Reason.TheVariants.{Silent}
use Rattle.radius_packet.specs.declared.reasons.Via.TheVariants.{Auth, Acct}
use Rattle.peer_machine.specs.declared.LinkCause.{LinkCause}
use Rattle.peer_machine.specs.declared.LinkCause.TheVariants.{PeerLeft, Refused}
use Rattle.agent_events.specs.declared.events.Input.TheVariants.{Leave, Tick}
use Rattle.agent_events.specs.declared.events.Output.{Output}
use Rattle.agent_events.specs.declared.events.Output.TheVariants.{Dropped, Reply}
use Rattle.wire_devices.specs.declared.devices.Datagram.{Datagram}
use Rattle.wire_devices.specs.Sockets.{datagram}
use Rattle.server_workers.specs.declared.heard.Heard.{Heard}
use Rattle.server_workers.specs.Entries.{EndsWith, Less, RunTurn, replies, ticks}
use Rattle.server_workers.specs.Entries.Less.{empty, keeps, loses}
use Rattle.server_workers.specs.SocketReading.{IsLast, SocketMayTake, datagrams, input_of}
use Rattle.server_workers.proofs.EntryLemmas.{less-length}

abbrev answer : List Output → Bool → Option LinkCause → Heard
answer outputs finished closed = record { moment = 5; outputs = outputs; sends = []; finished = finished; closed = closed }

abbrev first : Datagram
first = datagram 1 1812 (1 ∷ 2 ∷ [])

abbrev second : Datagram
second = datagram 2 1812 (3 ∷ [])

-- One datagram got a reply, and a second one was lost at its visit. Then nothing was there, and the link was refused.
abbrev turns : List RunTurn
turns =
    Some (input_of Auth first, answer (Dropped Silent ∷ Reply Auth 1 1812 (4 ∷ []) ∷ []) false None)
    ∷ None
    ∷ Some (Tick, answer [] false (Some (Refused 5012)))
    ∷ []

came : datagrams turns ≡ first ∷ []
came = refl

one-lost : Less (first ∷ second ∷ []) (datagrams turns) 1
one-lost = keeps first (second ∷ []) [] 1 (loses second [] [] 0 empty)

-- the second one can't count as entered
none-lost : Less (first ∷ second ∷ []) (datagrams turns) 0 → ⊥
none-lost less = let e = less-length (first ∷ second ∷ []) (datagrams turns) 0 less in absurd (omega (arith, e))

replied : replies turns ≡ datagram 1 1812 (4 ∷ []) ∷ []
replied = refl

ticked : ticks turns ≡ 1
ticked = refl

refused : EndsWith IsLast turns
refused = (
  Some (input_of Auth first, answer (Dropped Silent ∷ Reply Auth 1 1812 (4 ∷ []) ∷ []) false None) ∷ None ∷ [],
  Some (Tick, answer [] false (Some (Refused 5012))),
  refl,
  refl,
)

-- a peer that left may come back
left : IsLast (Some (Tick, answer [] false (Some (PeerLeft 0)))) → ⊥
left last = cc

-- a datagram of the other port isn't this reader's
other-port : SocketMayTake Acct 0 (Some (input_of Auth first, answer [] false None)) → ⊥
other-port same = cc

-- nor does it ask to leave before 16 receives in a row failed
early-leave : SocketMayTake Auth 15 (Some (Leave, answer [] false None)) → ⊥
early-leave full = cc
