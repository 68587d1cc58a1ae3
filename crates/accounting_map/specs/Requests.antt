-- What an Accounting-Request becomes: an Accounting-Request of Diameter (RFC 6733, section 9.7; RFC 4005, sections 3.9,
-- 8 and 9; the order of the AVPs is this profile's).
use Rattle.std.specs.Prelude.{ℕ, ◌+◌, ◌*◌, ◌-◌, ◌^◌, Bool, ◌==◌, nat_le, ◌&&◌, ◌||◌, List, [], ◌∷◌, ◌++◌, unwrap_or, if◌then◌else◌}
use Rattle.std.specs.Option.{option_map_or}
use Rattle.std.specs.List.{flat_map, enumerate_from}
use Rattle.wire_core.specs.Numbers.{u32, u64}
use Rattle.radius_packet.specs.Packet.{PacketParts, AttributeParts}
use Rattle.diameter_avp.specs.Avps.{AvpParts, avps_text}
use Rattle.diameter_message.specs.declared.header.Header.{Header}
use Rattle.diameter_message.specs.Message.{message_text}
use Rattle.diameter_message.specs.PlainAvps.{plain_avp}
use Rattle.session_carrier.specs.Route.{RouteParts}
use Rattle.session_carrier.specs.declared.kept.Numbers.{Numbers}
use Rattle.agent_settings.specs.declared.client.Client.{Client}
use Rattle.translation.specs.declared.direction.Direction.TheVariants.{Accounting}
use Rattle.translation.specs.Images.{is_first, common_piece}
use Rattle.translation.specs.Names.{names}
use Rattle.accounting_map.specs.Numbers.{first_value, number_in, first_number}
use Rattle.accounting_map.specs.Verdict.{status}

-- ---- the record

-- START_RECORD, STOP_RECORD or INTERIM_RECORD (RFC 6733, section 9.8.1)
abbrev pub record_type : ℕ → ℕ
record_type status = if status == 1 then 2 else if status == 2 then 4 else 3

-- no more than four octets hold
abbrev pub saturated : ℕ → ℕ
saturated n = if nat_le n (2 ^ 32 - 1) then n else 2 ^ 32 - 1

-- Accounting-Record-Number: a Start is the first record of a session, a Stop comes after an interim record of the same
-- second (profile)
abbrev pub record_number : ℕ → ℕ → ℕ
record_number status seconds = if status == 1 then 0 else if status == 2 then saturated (seconds + 2) else saturated (seconds + 1)

-- the seconds that a session has lasted: the first Acct-Session-Time (RFC 2866, section 5.7)
abbrev pub session_time : List AttributeParts → ℕ
session_time all = unwrap_or (first_number 46 all) 0

-- Accounting-Record-Type, Accounting-Record-Number, Acct-Application-Id, Origin-AAA-Protocol = RADIUS
abbrev pub record_avps : List AttributeParts → List AvpParts
record_avps all =
    plain_avp 480 (u32 (record_type (status all)))
    ∷ plain_avp 485 (u32 (record_number (status all) (session_time all)))
    ∷ plain_avp 259 (u32 3)
    ∷ plain_avp 408 (u32 1)
    ∷ []

-- the names, and what the record says of itself
abbrev pub head : Client → PacketParts → RouteParts → List AvpParts
head client packet route = names client route.session route.realm ++ record_avps packet.attributes

-- by what the client names a session: the first Acct-Session-Id (RFC 2866, section 5.5)
abbrev pub session_id : List AttributeParts → List ℕ
session_id all = unwrap_or (first_value 44 all) []

-- ---- what the session used (RFC 4005, section 8)

-- Acct-Input-Octets and Acct-Input-Gigawords
abbrev pub is_input : AttributeParts → Bool
is_input a = a.code == 42 || a.code == 52

-- Acct-Output-Octets and Acct-Output-Gigawords
abbrev pub is_output : AttributeParts → Bool
is_output a = a.code == 43 || a.code == 53

-- the octets in an attribute of the first type, and how often four octets of them were full in one of the second
-- (RFC 2869, section 5.1)
abbrev pub volume : ℕ → ℕ → List AttributeParts → ℕ
volume octets gigawords all = unwrap_or (first_number gigawords all) 0 * 2 ^ 32 + unwrap_or (first_number octets all) 0

-- the volume stands once, at the first attribute that tells of it
abbrev pub volume_avps : (AttributeParts → Bool) → ℕ → ℕ → List AttributeParts → ℕ → List AvpParts
volume_avps tells code octets all k = if is_first tells k all then plain_avp code (u64 octets) ∷ [] else []

-- Accounting-Input-Packets or Accounting-Output-Packets
abbrev pub packets_avp : ℕ → List ℕ → AvpParts
packets_avp code value = plain_avp code (u64 (number_in value))

-- ---- how the session ended

-- the Termination-Cause of an Acct-Terminate-Cause: each of the eighteen has its own, and DIAMETER_LOGOUT stands for any
-- other (RFC 4005, section 9.3.5)
abbrev pub termination_cause : ℕ → ℕ
termination_cause n = if nat_le 1 n && nat_le n 18 then n + 10 else 1

abbrev pub cause_avp : List ℕ → AvpParts
cause_avp value = plain_avp 295 (u32 (termination_cause (number_in value)))

-- the cause in the first Acct-Terminate-Cause, or DIAMETER_LOGOUT
abbrev pub cause : List AttributeParts → ℕ
cause all = option_map_or termination_cause (first_number 49 all) 1

-- ---- together

-- What the attribute at place k gives.
unfoldable pub piece : List AttributeParts → ℕ → AttributeParts → List AvpParts
piece all k a =
    if is_input a then volume_avps is_input 363 (volume 42 52 all) all k
    else if is_output a then volume_avps is_output 364 (volume 43 53 all) all k
    else if a.code == 47 then packets_avp 365 a.value ∷ []
    else if a.code == 48 then packets_avp 366 a.value ∷ []
    else if a.code == 49 then cause_avp a.value ∷ []
    else common_piece Accounting all k a

-- what all of them give, in order
abbrev pub pieces : List AttributeParts → List AvpParts
pieces all = flat_map (λ p. piece all p.0 p.1) (enumerate_from 0 all)

abbrev pub request_header : Numbers → Header
request_header numbers = record { flags = 192; command = 271; application = 3; hop = numbers.hop; end = numbers.end }

abbrev pub request_avps : Client → PacketParts → RouteParts → List AvpParts
request_avps client packet route = head client packet route ++ pieces packet.attributes

-- the one Accounting-Request of a packet
unfoldable pub accounting_image : Client → PacketParts → RouteParts → Numbers → List ℕ
accounting_image client packet route numbers =
    message_text (request_header numbers) (avps_text (request_avps client packet route))
