-- What is read of messages and packets for the book.
use Rattle.std.specs.Prelude.{ℕ, Bool, nat_le, ◌==◌, ◌&&◌, List, find, Option, Some, None, option_map, unwrap_or, Result, Ok, Err, if◌then◌else◌}
use Rattle.radius_packet.specs.Packet.{PacketParts}
use Rattle.diameter_avp.specs.Avps.{AvpParts, read_avps, readable_avps}
use Rattle.diameter_message.specs.declared.header.Header.{Header}
use Rattle.diameter_message.specs.declared.fault.MessageFault.{MessageFault}
use Rattle.diameter_message.specs.Message.{MessageParts, read_message}
use Rattle.diameter_message.specs.Finding.{has_code, only_in}
use Rattle.accounting_map.specs.Numbers.{first_number}
use Rattle.session_book.specs.declared.aborts.Asked.{Asked}
use Rattle.session_book.specs.declared.reading.Ask.{Ask}

-- ---- Abort-Session-Requests (RFC 6733, section 8.5.1)

-- who asks, and which session is to end
pub record AskParts : Type 0 where
  pub asked : Asked
  pub session : List ℕ
  pub host : List ℕ

abbrev pub ask_view : Ask → AskParts
ask_view a = record { asked = a.asked; session = a.session.now; host = a.host.now }

-- a request of the command Abort-Session: flag R is set
abbrev pub is_abort : Header → Bool
is_abort h = nat_le 128 h.flags && h.command == 274

abbrev pub asked_by : Header → Asked
asked_by h = record { flags = h.flags; application = h.application; hop = h.hop; end = h.end }

abbrev pub ask_with : Header → Option (List ℕ) → Option (List ℕ) → Option AskParts
ask_with h None host = None
ask_with h (Some session) None = None
ask_with h (Some session) (Some host) = Some (record { asked = asked_by h; session = session; host = host })

-- with exactly one Session-Id and one Origin-Host, of any size
abbrev pub ask_in : MessageParts → Option AskParts
ask_in m = if is_abort m.header then ask_with m.header (only_in 263 (read_avps m.avps)) (only_in 264 (read_avps m.avps)) else None

abbrev pub ask_of : Result MessageParts MessageFault → Option AskParts
ask_of (Ok m) = ask_in m
ask_of (Err fault) = None

-- ---- what was sent

abbrev pub session_of : Result MessageParts MessageFault → Option (List ℕ)
session_of (Ok m) = option_map (λ a. a.body) (find (has_code 263) (readable_avps m.avps))
session_of (Err fault) = None

-- the first Session-Id, of any size
abbrev pub session_in : List ℕ → Option (List ℕ)
session_in octets = session_of (read_message octets)

-- ---- Accounting-Requests

-- the Acct-Status-Type of an Accounting-Request, else 0, which no status has (RFC 2866, section 5.1)
abbrev pub status : PacketParts → ℕ
status p = if p.code == 4 then unwrap_or (first_number 40 p.attributes) 0 else 0
