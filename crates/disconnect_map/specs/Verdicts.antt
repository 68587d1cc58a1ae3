-- What a datagram says to a Disconnect-Request (RFC 5176, sections 2.1 and 2.3).
use Rattle.std.specs.Prelude.{◌≡◌, ℕ, ◌==◌, nat_eq, Bool, true, false, ◌&&◌, if◌then◌else◌, List, slice_index, Option, Some, None, Result, Ok, Err}
use Rattle.std.specs.Cmp.Lexicographic.{pointwise}
use Rattle.wire_core.specs.Numbers.{octets_at}
use Rattle.radius_packet.specs.Packet.{PacketParts, IsPacket, packet_text, whole, read_packet}
use Rattle.radius_packet.specs.Seals.{response_authenticator}
use Rattle.radius_packet.specs.declared.fault.PacketFault.{PacketFault}
use Rattle.agent_settings.specs.declared.client.Client.{Client}

-- The octets up to Length are a packet of this code that answers the request: it has the request's identifier, and its
-- authenticator is the Response Authenticator under this secret (RFC 2865, section 3).
pub record Answers (secret request octets : List ℕ) (code : ℕ) : Type 0 where
  pub parts : PacketParts
  pub packet : IsPacket (whole octets) parts
  pub code_is : parts.code ≡ code
  pub id : parts.id ≡ slice_index request 1
  pub authenticator : parts.authenticator ≡ response_authenticator secret (octets_at request 4 16) (whole octets)

-- ---- the same, found from the octets

-- a Disconnect-ACK says that the session was ended, a Disconnect-NAK that it wasn't
abbrev pub code_verdict : ℕ → Option Bool
code_verdict code = if code == 41 then Some true else (if code == 42 then Some false else None)

-- whether a packet has the identifier and the authenticator of an answer to the request
abbrev pub is_authentic_answer : List ℕ → List ℕ → PacketParts → Bool
is_authentic_answer secret request p =
    p.id == slice_index request 1
    && pointwise nat_eq p.authenticator (response_authenticator secret (octets_at request 4 16) (packet_text p))

abbrev pub read_verdict : List ℕ → List ℕ → Result PacketParts PacketFault → Option Bool
read_verdict secret request (Ok p) = if is_authentic_answer secret request p then code_verdict p.code else None
read_verdict secret request (Err fault) = None

-- whether the client ended the session, where the datagram answers the request
unfoldable pub verdict_of : Client → List ℕ → List ℕ → Option Bool
verdict_of client request octets = read_verdict client.secret request (read_packet octets)
