-- What is known of a datagram that is a request.
use Rattle.std.proofs.Common.{◌≡◌, ℕ, true, false, cond, List, Option, Some, None, Result, Ok, Err, refl, subst}
use Rattle.std.specs.Prelude.{slice_get, ◌==◌}
use Rattle.radius_packet.specs.declared.reasons.Via.{Via}
use Rattle.radius_packet.specs.declared.reasons.Reason.{Reason}
use Rattle.radius_packet.specs.declared.reasons.Reason.TheVariants as reasons
use Rattle.radius_packet.specs.declared.fault.PacketFault.{PacketFault}
use Rattle.radius_packet.specs.Packet.{PacketParts, read_packet}
use Rattle.session_carrier.specs.declared.kept.Kind2.{Kind2}
use Rattle.agent_settings.specs.declared.config.Config.{Config}
use Rattle.agent_settings.specs.declared.client.Client.{Client}
use Rattle.agent_settings.specs.Config.{find_address, FoundStandsAtPlace}
use Rattle.pending_table.specs.declared.key.Key.{Key}
use Rattle.agent_core.specs.Verdict.{Request, judged, packet_verdict, client_verdict, verdict, kind_at, code_at, key_of}

-- it has the client that stands at its place, and is the packet that its octets are, of the kind that was judged
pub record VerdictFits (config : Config) (via : Via) (address : ℕ) (octets : List ℕ) (request : Request) : Type 0 where
  pub settings : slice_get config.clients request.client ≡ Some request.settings
  pub read : read_packet octets ≡ Ok request.packet
  pub kind : kind_at via request.settings address request.packet ≡ Ok request.kind

judged-fits : (config : Config) (via : Via) (address : ℕ) (octets : List ℕ) (place : ℕ) (client : Client) (packet : PacketParts) (key : Key) (r : Result Kind2 Reason) (request : Request) → slice_get config.clients place ≡ Some client → read_packet octets ≡ Ok packet → kind_at via client address packet ≡ r → judged place client packet key r ≡ Ok request → VerdictFits config via address octets request
judged-fits config via address octets place client packet key (Err reason) request there read is e = absurd (cc)
judged-fits config via address octets place client packet key (Ok kind) request there read is e =
    let made : Request = record { client = place; settings = client; kind = kind; packet = packet; key = key } in
    let same : made ≡ request = cc in
    subst (VerdictFits config via address octets) same (record { settings = there; read = read; kind = is })

packet-fits : (config : Config) (via : Via) (address port : ℕ) (octets : List ℕ) (client : ℕ × Client) (r : Result PacketParts PacketFault) (request : Request) → slice_get config.clients client.0 ≡ Some client.1 → read_packet octets ≡ r → packet_verdict via address port octets client r ≡ Ok request → VerdictFits config via address octets request
packet-fits config via address port octets client (Err fault) request there read e = absurd (cc)
packet-fits config via address port octets client (Ok packet) request there read e =
    elim (packet.code == code_at via) as (λ b. cond b (judged client.0 client.1 packet (key_of via address port packet) (kind_at via client.1 address packet)) (Err reasons.BadCode) ≡ Ok request → VerdictFits config via address octets request) [
      | true ↦ (λ h. judged-fits config via address octets client.0 client.1 packet (key_of via address port packet) (kind_at via client.1 address packet) request there read refl h)
      | false ↦ (λ h. absurd (cc))
    ] e

client-fits : (config : Config) (via : Via) (address port : ℕ) (octets : List ℕ) (found : Option (ℕ × Client)) (request : Request) → ((c : ℕ × Client) → found ≡ Some c → slice_get config.clients c.0 ≡ Some c.1) → client_verdict via address port octets found ≡ Ok request → VerdictFits config via address octets request
client-fits config via address port octets None request there e = absurd (cc)
client-fits config via address port octets (Some c) request there e =
    packet-fits config via address port octets c (read_packet octets) request (there c refl) refl e

pub verdict-fits : FoundStandsAtPlace → (config : Config) (via : Via) (address port : ℕ) (octets : List ℕ) (request : Request) → verdict config via address port octets ≡ Ok request → VerdictFits config via address octets request
verdict-fits law config via address port octets request e =
    client-fits config via address port octets (find_address address config.clients) request (λ c found. (law config.clients address c.0 c.1 found).1) e
