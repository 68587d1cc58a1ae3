-- The reply to a request for access (RFC 2865, sections 4 and 5; RFC 3579, section 3.1; RFC 4005, section 9).
use Rattle.std.specs.Prelude.{ℕ, ◌+◌, ◌*◌, ◌/◌, Bool, true, false, nat_le, not, ◌&&◌, List, [], ◌∷◌, ◌++◌, length, take, drop, map, min, find, Option, Some, None, Result, Ok, Err, if◌then◌else◌}
use Rattle.std.specs.List.{flat_map, enumerate_from, range_with_len}
use Rattle.wire_core.specs.Numbers.{u32}
use Rattle.radius_packet.specs.Packet.{AttributeParts, attributes_in, attributes_text}
use Rattle.radius_packet.specs.Seals.{reply_text}
use Rattle.diameter_avp.specs.Avps.{AvpParts}
use Rattle.diameter_message.specs.Finding.{has_code, first_number}
use Rattle.attribute_table.specs.declared.row.Row.{Row}
use Rattle.attribute_table.specs.declared.image.RowFault.{RowFault}
use Rattle.attribute_table.specs.Rows.{row_of_avp}
use Rattle.attribute_table.specs.Images.{backward_image}
use Rattle.session_carrier.specs.Session.{class_text}
use Rattle.session_carrier.specs.declared.kept.Kept.{Kept}
use Rattle.agent_settings.specs.declared.client.Client.{Client}
use Rattle.tunnel_map.specs.Groups.{group_fault, group_attributes}
use Rattle.tunnel_map.specs.RoundTrip.{is_group}
use Rattle.tunnel_map.specs.declared.fault.TunnelFault.{TunnelFault}
use Rattle.translation.specs.declared.service.Service.{Service}
use Rattle.translation.specs.declared.service.Service.TheVariants.{Nasreq, Eap}
use Rattle.translation.specs.declared.class.Class.{Class}
use Rattle.translation.specs.declared.class.Class.TheVariants.{Bad, Refusal, Challenge, Success}
use Rattle.translation.specs.Reading.{goes_back, takes_groups, is_key_avp, fits_vendor, group_number, state_value}

abbrev pub attribute : ℕ → List ℕ → AttributeParts
attribute code value = record { code = code; value = value }

abbrev pub optional : ℕ → Option (List ℕ) → List AttributeParts
optional code None = []
optional code (Some value) = attribute code value ∷ []

-- Access-Accept, Access-Challenge or Access-Reject
abbrev pub reply_code : Class → ℕ
reply_code Success = 2
reply_code Challenge = 11
reply_code Refusal = 3
reply_code Bad = 3

-- ---- the session: in a success as Class (25), in a challenge as State (24)

abbrev pub session_code : Class → ℕ
session_code Success = 25
session_code _ = 24

abbrev pub carrier_value : Class → List ℕ → List AvpParts → Option (List ℕ)
carrier_value Success session avps = Some (class_text session)
carrier_value Challenge session avps = state_value session avps
carrier_value _ session avps = None

abbrev pub carrier : Class → List ℕ → List AvpParts → List AttributeParts
carrier class session avps = optional (session_code class) (carrier_value class session avps)

-- ---- the AVPs in order

abbrev pub value_attributes : ℕ → Result (List ℕ) RowFault → List AttributeParts
value_attributes code (Ok value) = attribute code value ∷ []
value_attributes code (Err fault) = []

-- one of a row that the reply takes up, where its value is good
abbrev pub row_attributes : Class → Option Row → List ℕ → List AttributeParts
row_attributes class None body = []
row_attributes class (Some row) body = if goes_back class row then value_attributes row.code (backward_image row body) else []

abbrev pub sound_group : Option TunnelFault → ℕ → List ℕ → List AttributeParts
sound_group None number body = group_attributes number body
sound_group (Some fault) number body = []

-- a group's attributes are tagged with its number, and a faulty one has none
abbrev pub tunnel_attributes : Class → ℕ → AvpParts → List AttributeParts
tunnel_attributes class number a =
    if takes_groups class && is_group a then sound_group (group_fault number a.body) number a.body else []

-- a refusal has none
abbrev pub takes_vendors : Class → Bool
takes_vendors Success = true
takes_vendors Challenge = true
takes_vendors _ = false

-- the vendor, the vendor's type, the length of type, length and value, and the value (RFC 2865, section 5.26)
abbrev pub vendor_value : ℕ → AvpParts → List ℕ
vendor_value vendor a = u32 vendor ++ a.code ∷ (length a.body + 2) ∷ a.body

abbrev pub vendor_attributes : Class → ℕ → AvpParts → List AttributeParts
vendor_attributes class vendor a =
    if takes_vendors class && not (is_key_avp a) && fits_vendor a then attribute 26 (vendor_value vendor a) ∷ [] else []

abbrev pub plain_attributes : Class → ℕ → AvpParts → List AttributeParts
plain_attributes class number a =
    row_attributes class (row_of_avp a.code) a.body ++ tunnel_attributes class number a

abbrev pub image_of : Option ℕ → Class → ℕ → AvpParts → List AttributeParts
image_of None class number a = plain_attributes class number a
image_of (Some vendor) class number a = vendor_attributes class vendor a

-- what stands in the reply for one AVP
abbrev pub image : Class → ℕ → AvpParts → List AttributeParts
image class number a = image_of a.vendor class number a

abbrev pub images : Class → List AvpParts → List AttributeParts
images class avps = flat_map (λ p. image class (group_number avps p.0) p.1) (enumerate_from 0 avps)

-- ---- the timeouts: Session-Timeout (27), Termination-Action (29)

-- after so many seconds the session may be authorized again: RADIUS-Request
abbrev pub lifetime : ℕ → List AttributeParts
lifetime seconds = attribute 27 (u32 seconds) ∷ attribute 29 (u32 1) ∷ []

abbrev pub session_timeout : Option ℕ → List AttributeParts
session_timeout None = []
session_timeout (Some seconds) = attribute 27 (u32 seconds) ∷ []

-- the Session-Timeout and the Authorization-Lifetime; of the two the lesser (profile)
abbrev pub success_timeouts : Option ℕ → Option ℕ → List AttributeParts
success_timeouts timeout None = session_timeout timeout
success_timeouts None (Some authorized) = lifetime authorized
success_timeouts (Some timeout) (Some authorized) = lifetime (min timeout authorized)

abbrev pub timeouts : Class → List AvpParts → List AttributeParts
timeouts Success avps = success_timeouts (first_number 27 avps) (first_number 291 avps)
timeouts Challenge avps = session_timeout (first_number 272 avps)
timeouts _ avps = []

-- ---- EAP-Messages (79) of 253 octets, the last perhaps shorter

abbrev pub eap_piece : List ℕ → ℕ → AttributeParts
eap_piece body k = attribute 79 (take 253 (drop (253 * k) body))

abbrev pub eap_pieces : List ℕ → List AttributeParts
eap_pieces body = map (eap_piece body) (range_with_len 0 ((length body + 252) / 253))

abbrev pub payload_pieces : Option AvpParts → List AttributeParts
payload_pieces None = []
payload_pieces (Some a) = eap_pieces a.body

abbrev pub eap_messages : Service → Class → List AvpParts → List AttributeParts
eap_messages Nasreq class avps = []
eap_messages Eap Bad avps = []
eap_messages Eap _ avps = payload_pieces (find (has_code 462) avps)

-- ---- the reply

-- its attributes behind the Message-Authenticator; of a bad answer the Proxy-States alone
abbrev pub reply_attributes : Service → Class → Kept → List AvpParts → List AttributeParts
reply_attributes service class kept avps =
    carrier class kept.session avps ++ images class avps ++ timeouts class avps ++ eap_messages service class avps
    ++ attributes_in kept.proxy

-- header, Message-Authenticator and attributes have at most 4096 octets
abbrev pub fits_packet : List AttributeParts → Bool
fits_packet attributes = nat_le (20 + 18 + length (attributes_text attributes)) 4096

unfoldable pub access_reply : Service → Class → Client → Kept → List AvpParts → List ℕ
access_reply service class client kept avps =
    reply_text client.secret kept.authenticator (reply_code class) kept.id true (reply_attributes service class kept avps)

-- a reply with the Proxy-States alone
unfoldable pub bare_reply : Client → Kept → ℕ → Bool → List ℕ
bare_reply client kept code sealed =
    reply_text client.secret kept.authenticator code kept.id sealed (attributes_in kept.proxy)
