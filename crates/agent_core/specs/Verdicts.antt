-- Internal: a request, without where it lies in memory, and what is known of it.
use Rattle.std.specs.Prelude.{◌≡◌, ℕ, ◌≤◌, length, slice_get, Result, Ok, Err, Some}
use Rattle.std.specs.List.{AllByRecursion}
use Rattle.radius_packet.specs.Packet.{AttributeParts, PacketParts}
use Rattle.radius_packet.specs.declared.reasons.Via.{Via}
use Rattle.radius_packet.specs.declared.reasons.Via.TheVariants.{Auth, Acct}
use Rattle.radius_packet.specs.declared.reasons.Reason.{Reason}
use Rattle.session_carrier.specs.declared.kept.Kind2.{Kind2}
use Rattle.session_carrier.specs.declared.kept.Kind2.TheVariants.{Access, Eap, Start, Interim, Stop}
use Rattle.agent_settings.specs.Config.{ClientInLimits}
use Rattle.agent_settings.specs.declared.client.Client.{Client}
use Rattle.agent_settings.specs.declared.config.Config.{Config}
use Rattle.access_map.specs.Verdict as access
use Rattle.accounting_map.specs.Verdict as accounting
use Rattle.pending_table.specs.declared.key.Key.{Key}
use Rattle.agent_core.specs.declared.verdict.Request.{Request as Borrowed}
use Rattle.agent_core.specs.Verdict.{Request, key_of}

abbrev pub request_with : Key → Borrowed → Request
request_with key r =
    record { client = r.client; settings = r.settings.now; kind = r.kind; packet = r.packet; key = key }

abbrev pub request_view : Via → ℕ → ℕ → Result Borrowed Reason → Result Request Reason
request_view via address port (Err reason) = Err reason
request_view via address port (Ok r) = Ok (request_with (key_of via address port r.packet) r)

-- the port at which requests of a kind arrive
abbrev pub via_of : Kind2 → Via
via_of Access = Auth
via_of Eap = Auth
via_of Start = Acct
via_of Interim = Acct
via_of Stop = Acct

-- the map of a kind took the packet for a request of it
abbrev pub IsJudged : Kind2 → Client → PacketParts → Type 0
IsJudged Access client packet = access.IsJudged client packet Access
IsJudged Eap client packet = access.IsJudged client packet Eap
IsJudged Start client packet = accounting.IsJudged client packet Start
IsJudged Interim client packet = accounting.IsJudged client packet Interim
IsJudged Stop client packet = accounting.IsJudged client packet Stop

-- a value that an attribute can hold (RFC 2865, section 5)
abbrev pub IsShort : AttributeParts → Type 0
IsShort a = length a.value ≤ 253

-- what the maps want of a request
pub record IsRequest (config : Config) (r : Borrowed) : Type 0 where
  pub client : slice_get config.clients r.client ≡ Some r.settings.now
  pub limits : ClientInLimits r.settings.now
  pub judged : IsJudged r.kind r.settings.now r.packet
  pub values : AllByRecursion IsShort r.packet.attributes
