-- The lines that outputs are printed as (profile).
use Rattle.std.specs.Prelude.{ℕ, Bool, true, false, nat_eq, List, [], ◌∷◌, ◌++◌, length, map, codes, decimal, if◌then◌else◌}
use Rattle.std.specs.List.{join_with_byte}
use Rattle.wire_core.specs.Numbers.{u32}
use Rattle.hex.specs.Hex.{encode_lower}
use Rattle.radius_packet.specs.declared.reasons.Via.{Via}
use Rattle.radius_packet.specs.declared.reasons.Via.TheVariants.{Auth, Acct}
use Rattle.radius_packet.specs.declared.reasons.Reason.{Reason}
use Rattle.radius_packet.specs.declared.reasons.Reason.TheVariants.{UnknownClient, Short, BadLength, BadCode, BadAttribute, BadAuthenticator, NoSeal, BadSeal, NasAddress, BothPasswords, BadPassword, NoStatus, OnOff, KeyAttribute, BadValue, ProxyStateTooLong, Waiting, Silent, LinkDown, Spent, Full, Backlog, BadMessage, WrongPhase, Unmatched}
use Rattle.radius_packet.specs.Reasons.{reason_number}
use Rattle.diameter_message.specs.declared.fault.FrameFault.{FrameFault}
use Rattle.diameter_message.specs.declared.fault.FrameFault.TheVariants as frame
use Rattle.peer_machine.specs.declared.LinkCause.{LinkCause}
use Rattle.peer_machine.specs.declared.LinkCause.TheVariants as link
use Rattle.agent_events.specs.declared.events.Output.{Output}
use Rattle.agent_events.specs.declared.events.Output.TheVariants.{Reply, Send, Dropped, Closed}

-- ---- one line

-- pairs of hex digits in lower case, or '-' for no octets
abbrev pub hex_text : List ℕ → List ℕ
hex_text octets = if nat_eq (length octets) 0 then codes "-" else encode_lower octets

-- the octets of an IPv4 address, separated by '.'
abbrev pub address_text : ℕ → List ℕ
address_text address = join_with_byte 46 (map decimal (u32 address))

abbrev pub via_name : Via → List ℕ
via_name Auth = codes "auth"
via_name Acct = codes "acct"

abbrev pub reason_name : Reason → List ℕ
reason_name UnknownClient = codes "UnknownClient"
reason_name Short = codes "Short"
reason_name BadLength = codes "BadLength"
reason_name BadCode = codes "BadCode"
reason_name BadAttribute = codes "BadAttribute"
reason_name BadAuthenticator = codes "BadAuthenticator"
reason_name NoSeal = codes "NoSeal"
reason_name BadSeal = codes "BadSeal"
reason_name NasAddress = codes "NasAddress"
reason_name BothPasswords = codes "BothPasswords"
reason_name BadPassword = codes "BadPassword"
reason_name NoStatus = codes "NoStatus"
reason_name OnOff = codes "OnOff"
reason_name KeyAttribute = codes "KeyAttribute"
reason_name (BadValue code) = codes "BadValue"
reason_name ProxyStateTooLong = codes "ProxyStateTooLong"
reason_name Waiting = codes "Waiting"
reason_name Silent = codes "Silent"
reason_name LinkDown = codes "LinkDown"
reason_name Spent = codes "Spent"
reason_name Full = codes "Full"
reason_name Backlog = codes "Backlog"
reason_name BadMessage = codes "BadMessage"
reason_name WrongPhase = codes "WrongPhase"
reason_name Unmatched = codes "Unmatched"

-- what stands after a reason's name: the type of the attribute with a bad value
abbrev pub reason_words : Reason → List (List ℕ)
reason_words (BadValue code) = decimal code ∷ []
reason_words reason = []

abbrev pub fault_name : FrameFault → List ℕ
fault_name frame.BadVersion = codes "BadVersion"
fault_name frame.BadLength = codes "BadLength"
fault_name frame.TooLong = codes "TooLong"

abbrev pub close_name : LinkCause → List ℕ
close_name (link.Refused result) = codes "Refused"
close_name (link.PeerLeft cause) = codes "PeerLeft"
close_name (link.Broken fault) = codes "Broken"
close_name link.Ended = codes "Ended"
close_name link.Watchdog = codes "Watchdog"
close_name link.Stalled = codes "Stalled"
close_name link.Left = codes "Left"

-- what stands after a cause's name: a number or a fault's name
abbrev pub close_words : LinkCause → List (List ℕ)
close_words (link.Refused result) = decimal result ∷ []
close_words (link.PeerLeft cause) = decimal cause ∷ []
close_words (link.Broken fault) = fault_name fault ∷ []
close_words cause = []

abbrev pub output_words : Output → List (List ℕ)
output_words (Reply via address port octets) =
    codes "reply" ∷ via_name via ∷ address_text address ∷ decimal port ∷ hex_text octets ∷ []
output_words (Send octets) = codes "send" ∷ hex_text octets ∷ []
output_words (Dropped reason) = codes "drop" ∷ decimal (reason_number reason) ∷ reason_name reason ∷ reason_words reason
output_words (Closed cause) = codes "close" ∷ close_name cause ∷ close_words cause

-- words separated by one space, and with the octet 0a behind them
abbrev pub line_of : List (List ℕ) → List ℕ
line_of words = join_with_byte 32 words

abbrev pub line_text : List (List ℕ) → List ℕ
line_text words = line_of words ++ 10 ∷ []

-- the line of an output of the input on this line
abbrev pub output_line : ℕ → Output → List ℕ
output_line line output = line_text (decimal line ∷ output_words output)

-- the line of a drop, by its number and its name
abbrev pub drop_line : ℕ → ℕ → List ℕ → List ℕ
drop_line line number name = line_text (decimal line ∷ codes "drop" ∷ decimal number ∷ name ∷ [])

-- the line of a packet that goes out to this address and port, beside the agent's outputs
abbrev pub control_line : ℕ → ℕ → ℕ → List ℕ → List ℕ
control_line line address port octets =
    line_text (decimal line ∷ codes "control" ∷ address_text address ∷ decimal port ∷ hex_text octets ∷ [])

-- the last line: how many lines of each kind there were
abbrev pub end_line : ℕ → ℕ → ℕ → List ℕ
end_line replies sends drops = line_text (codes "end" ∷ decimal replies ∷ decimal sends ∷ decimal drops ∷ [])

-- the last line where control lines may have been printed too
abbrev pub end_line_with_controls : ℕ → ℕ → ℕ → ℕ → List ℕ
end_line_with_controls replies sends drops controls =
    line_text (codes "end" ∷ decimal replies ∷ decimal sends ∷ decimal drops ∷ decimal controls ∷ [])

-- ---- which outputs are counted

abbrev pub is_reply : Output → Bool
is_reply (Reply via address port octets) = true
is_reply output = false

abbrev pub is_send : Output → Bool
is_send (Send octets) = true
is_send output = false

abbrev pub is_drop : Output → Bool
is_drop (Dropped reason) = true
is_drop output = false
