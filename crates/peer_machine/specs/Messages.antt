-- The messages that the link makes (RFC 6733, sections 5.3 to 5.5 and 6.2; the order of the AVPs is the profile's).
use Rattle.std.specs.Prelude.{ℕ, Bool, false, List, [], ◌∷◌, ◌++◌, find, Option, Some, None, bit_and, bit_or, if◌then◌else◌, codes}
use Rattle.wire_core.specs.Numbers.{u32}
use Rattle.diameter_avp.specs.Avps.{AvpParts, made, avps_text, readable_avps}
use Rattle.diameter_message.specs.declared.header.Header.{Header}
use Rattle.diameter_message.specs.Message.{MessageParts, message_text}
use Rattle.diameter_message.specs.Finding.{has_size}
use Rattle.diameter_message.specs.PlainAvps.{origin_avps, plain_avp}
use Rattle.peer_machine.specs.declared.messages.Names.{Names}
use Rattle.peer_machine.specs.declared.words.BaseRequest.{BaseRequest}
use Rattle.peer_machine.specs.declared.words.BaseRequest.TheVariants.{CapabilitiesExchange, DeviceWatchdog, DisconnectPeer}

-- an IPv4 address: its family and its octets (section 4.3.1)
abbrev pub address_body : ℕ → List ℕ
address_body address = 0 ∷ 1 ∷ u32 address

-- Auth-Application-Id of RFC 4005 and of RFC 4072, Acct-Application-Id
abbrev pub applications : List AvpParts
applications = plain_avp 258 (u32 1) ∷ plain_avp 258 (u32 5) ∷ plain_avp 259 (u32 3) ∷ []

-- the one AVP with M clear
abbrev pub product_name : AvpParts
product_name = made 269 None false (codes "rd-agent")

-- Host-IP-Address, Vendor-Id, Product-Name
abbrev pub product : Names → List AvpParts
product names =
    plain_avp 257 (address_body names.address) ∷ plain_avp 266 (u32 0) ∷ product_name ∷ []

-- the product, Origin-State-Id, the applications
abbrev pub capabilities : Names → List AvpParts
capabilities names = product names ++ plain_avp 278 (u32 names.boot) ∷ applications

-- what stands after Origin-Host and Origin-Realm: the capabilities; Origin-State-Id; Disconnect-Cause = REBOOTING
abbrev pub details : Names → BaseRequest → List AvpParts
details names CapabilitiesExchange = capabilities names
details names DeviceWatchdog = plain_avp 278 (u32 names.boot) ∷ []
details names DisconnectPeer = plain_avp 273 (u32 0) ∷ []

abbrev pub command_of : BaseRequest → ℕ
command_of CapabilitiesExchange = 257
command_of DeviceWatchdog = 280
command_of DisconnectPeer = 282

-- a request of the base protocol: flag R alone, application 0
abbrev pub request_header : BaseRequest → ℕ → ℕ → Header
request_header request hop end =
    record { flags = 128; command = command_of request; application = 0; hop = hop; end = end }

unfoldable pub request_text : Names → BaseRequest → ℕ → ℕ → List ℕ
request_text names request hop end =
    message_text (request_header request hop end) (avps_text (origin_avps names.host names.realm ++ details names request))

-- ---- answers

abbrev pub error_flag : Bool → ℕ
error_flag error = if error then 32 else 0

-- the request's header, with its flag P alone, and E where there is an error
abbrev pub answer_header : Header → Bool → Header
answer_header h error =
    record { flags = bit_or (bit_and h.flags 64) (error_flag error); command = h.command; application = h.application; hop = h.hop; end = h.end }

abbrev pub session_avps : Option AvpParts → List AvpParts
session_avps None = []
session_avps (Some a) = plain_avp 263 a.body ∷ []

-- the first Session-Id of at most 4096 octets that can be read in the request, Result-Code, Origin-Host,
-- Origin-Realm
abbrev pub answer_avps : Names → List AvpParts → ℕ → List AvpParts
answer_avps names avps code =
    session_avps (find (has_size 263 0 4096) avps) ++ plain_avp 268 (u32 code) ∷ origin_avps names.host names.realm

unfoldable pub answer_text : Names → MessageParts → ℕ → Bool → List ℕ
answer_text names message code error =
    message_text (answer_header message.header error) (avps_text (answer_avps names (readable_avps message.avps) code))
