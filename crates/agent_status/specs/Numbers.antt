-- The numbers of statuses (profile).
use Rattle.std.specs.Prelude.{ℕ}
use Rattle.agent_status.specs.declared.status.Status.{Status}
use Rattle.agent_status.specs.declared.status.Status.TheVariants.{Done, Usage, BadConfig, BadTranscript, ReadFault, WriteFault, LinkFault, PeerRefused, NoThread, OutOfMemory, DatagramFault, LinkEnded, TooLong}

abbrev pub status_number : Status → ℕ
status_number Done = 0
status_number Usage = 1
status_number (BadConfig fault) = 2
status_number (BadTranscript line reason) = 3
status_number ReadFault = 4
status_number WriteFault = 5
status_number LinkFault = 6
status_number (PeerRefused code) = 7
status_number NoThread = 8
status_number OutOfMemory = 9
status_number DatagramFault = 10
status_number (LinkEnded cause) = 11
status_number TooLong = 12
