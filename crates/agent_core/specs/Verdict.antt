-- Whether a datagram is a request, and of what kind (RFC 2865, sections 3 to 5; RFC 2866; RFC 3579; profile).
use Rattle.std.specs.Prelude.{ℕ, ◌==◌, List, Option, Some, None, Result, Ok, Err, slice_index, if◌then◌else◌}
use Rattle.radius_packet.specs.Packet.{PacketParts, packet_text, read_packet}
use Rattle.radius_packet.specs.declared.reasons.Via.{Via}
use Rattle.radius_packet.specs.declared.reasons.Via.TheVariants.{Auth, Acct}
use Rattle.radius_packet.specs.declared.reasons.Reason.{Reason}
use Rattle.radius_packet.specs.declared.reasons.Reason.TheVariants as reasons
use Rattle.radius_packet.specs.declared.fault.PacketFault.{PacketFault}
use Rattle.radius_packet.specs.declared.fault.PacketFault.TheVariants as faults
use Rattle.session_carrier.specs.declared.kept.Kind2.{Kind2}
use Rattle.agent_settings.specs.declared.config.Config.{Config}
use Rattle.agent_settings.specs.declared.client.Client.{Client}
use Rattle.agent_settings.specs.Config.{find_address}
use Rattle.access_map.specs.Verdict as access
use Rattle.accounting_map.specs.Verdict as accounting
use Rattle.pending_table.specs.declared.key.Key.{Key}

-- a datagram that is authentic, with its client and what makes it one request
pub record Request : Type 0 where
  pub client : ℕ
  pub settings : Client
  pub kind : Kind2
  pub packet : PacketParts
  pub key : Key

-- the port of arrival, the source, and the octets that the packet's length counts
abbrev pub key_of : Via → ℕ → ℕ → PacketParts → Key
key_of via address port packet = record { via = via; address = address; port = port; octets = packet_text packet }

-- the code of the requests that arrive there: Access-Request, or Accounting-Request
abbrev pub code_at : Via → ℕ
code_at Auth = 1
code_at Acct = 4

-- the reason against a packet of the right code, or its kind
abbrev pub kind_at : Via → Client → ℕ → PacketParts → Result Kind2 Reason
kind_at Auth client address packet = access.verdict client address packet
kind_at Acct client address packet = accounting.verdict client address packet

-- another code is a reason before any attribute is looked at, also where one isn't whole
abbrev pub fault_reason : Via → List ℕ → PacketFault → Reason
fault_reason via octets faults.Short = reasons.Short
fault_reason via octets faults.BadLength = reasons.BadLength
fault_reason via octets (faults.BadAttribute place) =
    if slice_index octets 0 == code_at via then reasons.BadAttribute else reasons.BadCode

abbrev pub judged : ℕ → Client → PacketParts → Key → Result Kind2 Reason → Result Request Reason
judged place client packet key (Err reason) = Err reason
judged place client packet key (Ok kind) =
    Ok (record { client = place; settings = client; kind = kind; packet = packet; key = key })

abbrev pub packet_verdict : Via → ℕ → ℕ → List ℕ → ℕ × Client → Result PacketParts PacketFault → Result Request Reason
packet_verdict via address port octets client (Err fault) = Err (fault_reason via octets fault)
packet_verdict via address port octets client (Ok packet) =
    if packet.code == code_at via
    then judged client.0 client.1 packet (key_of via address port packet) (kind_at via client.1 address packet)
    else Err reasons.BadCode

abbrev pub client_verdict : Via → ℕ → ℕ → List ℕ → Option (ℕ × Client) → Result Request Reason
client_verdict via address port octets None = Err reasons.UnknownClient
client_verdict via address port octets (Some client) = packet_verdict via address port octets client (read_packet octets)

abbrev pub verdict : Config → Via → ℕ → ℕ → List ℕ → Result Request Reason
verdict config via address port octets = client_verdict via address port octets (find_address address config.clients)
