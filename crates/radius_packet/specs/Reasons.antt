-- The numbers of the reasons, in the one order in which they are looked at (profile).
use Rattle.std.specs.Prelude.{ℕ}
use Rattle.radius_packet.specs.declared.reasons.Reason.{Reason}
use Rattle.radius_packet.specs.declared.reasons.Reason.TheVariants.{UnknownClient, Short, BadLength, BadCode, BadAttribute, BadAuthenticator, NoSeal, BadSeal, NasAddress, BothPasswords, BadPassword, NoStatus, OnOff, KeyAttribute, BadValue, ProxyStateTooLong, Waiting, Silent, LinkDown, Spent, Full, Backlog, BadMessage, WrongPhase, Unmatched}

abbrev pub reason_number : Reason → ℕ
reason_number UnknownClient = 1
reason_number Short = 2
reason_number BadLength = 3
reason_number BadCode = 4
reason_number BadAttribute = 5
reason_number BadAuthenticator = 6
reason_number NoSeal = 7
reason_number BadSeal = 8
reason_number NasAddress = 9
reason_number BothPasswords = 10
reason_number BadPassword = 11
reason_number NoStatus = 12
reason_number OnOff = 13
reason_number KeyAttribute = 14
reason_number (BadValue code) = 15
reason_number ProxyStateTooLong = 16
reason_number Waiting = 17
reason_number Silent = 18
reason_number LinkDown = 19
reason_number Spent = 20
reason_number Full = 21
reason_number Backlog = 22
reason_number BadMessage = 23
reason_number WrongPhase = 24
reason_number Unmatched = 25
