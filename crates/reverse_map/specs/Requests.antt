-- What a Diameter request becomes for a RADIUS server (RFC 4005, sections 3.1 and 4 to 9.2; RFC 2865, section 4.1; RFC 2866,
-- section 4.1; RFC 3579, section 3.2). The order of the attributes, and which faults refuse, are profile.
use Rattle.std.specs.Prelude.{ℕ, ◌+◌, ◌-◌, ◌^◌, Bool, false, true, ◌==◌, nat_le, nat_lt, not, ◌&&◌, ◌||◌, List, [], ◌∷◌, ◌++◌, length, count_by, replicate, min, Option, Some, None, option_and_then, is_none, is_err, unwrap_or, Result, Ok, Err, if◌then◌else◌}
use Rattle.std.specs.List.{list_any, flat_map}
use Rattle.md5.specs.Md5.{md5}
use Rattle.wire_core.specs.Numbers.{number, octets_at, u32}
use Rattle.password_hiding.specs.Hiding.{hidden_form}
use Rattle.radius_packet.specs.Packet.{AttributeParts, PacketParts, attributes_text, packet_text}
use Rattle.radius_packet.specs.Seals.{request_parts}
use Rattle.diameter_avp.specs.Avps.{AvpParts, is_mandatory, read_avps}
use Rattle.diameter_avp.specs.declared.fault.AvpFault.{AvpFault}
use Rattle.diameter_message.specs.Finding.{has_code, first_number, only_in}
use Rattle.attribute_table.specs.declared.row.Row.{Row}
use Rattle.attribute_table.specs.Rows.{row_of_avp}
use Rattle.attribute_table.specs.Images.{backward_image}
use Rattle.attribute_table.specs.Known.{is_known}
use Rattle.translation.specs.declared.direction.Direction.{Direction}
use Rattle.translation.specs.declared.direction.Direction.TheVariants.{Access, Accounting}
use Rattle.translation.specs.Direction.{goes}
use Rattle.translation.specs.Reading.{fits_vendor, is_key_avp}
use Rattle.translation.specs.Replies.{attribute, value_attributes, vendor_value}
use Rattle.reverse_map.specs.declared.fault.ReverseFault.{ReverseFault}
use Rattle.reverse_map.specs.declared.fault.ReverseFault.TheVariants.{Unsupported, Unable}

-- ---- what must be understood (RFC 6733, section 4.1: flag M)

-- the AVPs that requests have beside those that are known in answers, all with flag V clear
unfoldable pub request_codes : List ℕ
request_codes =
    2  -- User-Password
    ∷ 283  -- Destination-Realm
    ∷ 293  -- Destination-Host
    ∷ 295  -- Termination-Cause
    ∷ 363  -- Accounting-Input-Octets
    ∷ 364  -- Accounting-Output-Octets
    ∷ 365  -- Accounting-Input-Packets
    ∷ 366  -- Accounting-Output-Packets
    ∷ 402  -- CHAP-Auth
    ∷ []

-- an AVP of a vendor must have a type of one octet in an attribute
abbrev pub is_understood : Option ℕ → ℕ → Bool
is_understood None code = is_known code || list_any (λ x. x == code) request_codes
is_understood (Some vendor) code = nat_le code 255

abbrev pub is_unsupported : AvpParts → Bool
is_unsupported a = is_mandatory a && not (is_key_avp a) && not (is_understood a.vendor a.code)

-- ---- CHAP (RFC 4005, section 5.4; RFC 2865, section 5.3)

-- the algorithm is CHAP with MD5, the identifier has one octet, and the response has sixteen
abbrev pub chap_value : List ℕ → List ℕ → List ℕ → Option (List ℕ)
chap_value algorithm ident response =
    if length algorithm == 4 && number algorithm == 5 && length ident == 1 && length response == 16
    then Some (ident ++ response) else None

abbrev pub chap_by : Option (List ℕ) → Option (List ℕ) → Option (List ℕ) → Option (List ℕ)
chap_by (Some algorithm) (Some ident) (Some response) = chap_value algorithm ident response
chap_by _ _ _ = None

-- the value of the CHAP-Password that a CHAP-Auth with these members becomes, where there is one of each
abbrev pub chap_password : Result (List AvpParts) AvpFault → Option (List ℕ)
chap_password members = chap_by (only_in 403 members) (only_in 404 members) (only_in 405 members)

-- ---- counts (RFC 2866, section 5; RFC 2869, sections 5.1 and 5.2)

-- the low half of a number of eight octets, and the high one where it isn't 0
abbrev pub halves : ℕ → ℕ → List ℕ → List AttributeParts
halves low high body =
    attribute low (octets_at body 4 4)
    ∷ (if number (octets_at body 0 4) == 0 then [] else attribute high (octets_at body 0 4) ∷ [])

-- the number, or the greatest of four octets
abbrev pub saturated : ℕ → ℕ
saturated n = min n (2 ^ 32 - 1)

abbrev pub count_attributes : ℕ → List ℕ → List AttributeParts
count_attributes code body = attribute code (u32 (saturated (number body))) ∷ []

-- Termination-Cause: the causes of RADIUS are 11 to 28 (RFC 4005, section 9.3.5)
abbrev pub terminate_cause : ℕ → List AttributeParts
terminate_cause cause = if nat_le 11 cause && nat_le cause 28 then attribute 49 (u32 (cause - 10)) ∷ [] else []

-- Acct-Status-Type of an Accounting-Record-Type: Start, Interim-Update, Stop
abbrev pub status_of : ℕ → Option ℕ
status_of record_type =
    if record_type == 2 then Some 1 else if record_type == 3 then Some 3 else if record_type == 4 then Some 2 else None

-- that of the one Accounting-Record-Type, of four octets
abbrev pub status_in : List AvpParts → Option ℕ
status_in avps = if count_by (has_code 480) avps == 1 then option_and_then status_of (first_number 480 avps) else None

-- ---- what one AVP gives

-- one of a row that is copied into this packet, where its value is good
abbrev pub row_attributes : Direction → Option Row → List ℕ → List AttributeParts
row_attributes direction None body = []
row_attributes direction (Some row) body = if goes direction row then value_attributes row.code (backward_image row body) else []

abbrev pub chap_attributes : Option (List ℕ) → List AttributeParts
chap_attributes None = []
chap_attributes (Some value) = attribute 3 value ∷ []

-- in an Access-Request with this authenticator under this secret: the hidden User-Password, CHAP-Password, State, or by the row
abbrev pub access_attributes : List ℕ → List ℕ → AvpParts → List AttributeParts
access_attributes random secret a =
    if a.code == 2 then attribute 2 (hidden_form secret random a.body) ∷ []
    else if a.code == 402 then chap_attributes (chap_password (read_avps a.body))
    else if a.code == 24 then attribute 24 a.body ∷ []
    else row_attributes Access (row_of_avp a.code) a.body

-- Acct-Input-Octets, Acct-Output-Octets and their gigawords, Acct-Input-Packets, Acct-Output-Packets, Acct-Terminate-Cause, or
-- by the row
abbrev pub accounting_attributes : AvpParts → List AttributeParts
accounting_attributes a =
    if a.code == 363 then halves 42 52 a.body
    else if a.code == 364 then halves 43 53 a.body
    else if a.code == 365 then count_attributes 47 a.body
    else if a.code == 366 then count_attributes 48 a.body
    else if a.code == 295 then terminate_cause (number a.body)
    else row_attributes Accounting (row_of_avp a.code) a.body

abbrev pub plain_attributes : Direction → List ℕ → List ℕ → AvpParts → List AttributeParts
plain_attributes Access random secret a = access_attributes random secret a
plain_attributes Accounting random secret a = accounting_attributes a

abbrev pub vendor_attributes : ℕ → AvpParts → List AttributeParts
vendor_attributes vendor a = if fits_vendor a then attribute 26 (vendor_value vendor a) ∷ [] else []

abbrev pub image_of : Option ℕ → Direction → List ℕ → List ℕ → AvpParts → List AttributeParts
image_of None direction random secret a = plain_attributes direction random secret a
image_of (Some vendor) direction random secret a = vendor_attributes vendor a

abbrev pub image : Direction → List ℕ → List ℕ → AvpParts → List AttributeParts
image direction random secret a = image_of a.vendor direction random secret a

-- ---- what one AVP can't give

-- the row is copied into this packet, and the value doesn't fit it
abbrev pub is_bad_value : Direction → Option Row → List ℕ → Bool
is_bad_value direction None body = false
is_bad_value direction (Some row) body = goes direction row && is_err (backward_image row body)

-- without flag M the AVP of a row is left out
abbrev pub is_bad_row : Direction → AvpParts → Bool
is_bad_row direction a = is_mandatory a && is_bad_value direction (row_of_avp a.code) a.body

-- a password of over 128 octets, a CHAP-Auth that is none, a State that no attribute can hold
abbrev pub is_bad_access : AvpParts → Bool
is_bad_access a =
    if a.code == 2 then nat_lt 128 (length a.body)
    else if a.code == 402 then is_none (chap_password (read_avps a.body))
    else if a.code == 24 then nat_lt 253 (length a.body)
    else is_bad_row Access a

-- a count that isn't eight octets, a cause that isn't four
abbrev pub is_bad_accounting : AvpParts → Bool
is_bad_accounting a =
    if a.code == 363 || a.code == 364 || a.code == 365 || a.code == 366 then not (length a.body == 8)
    else if a.code == 295 then not (length a.body == 4)
    else is_bad_row Accounting a

abbrev pub is_bad_plain : Direction → AvpParts → Bool
is_bad_plain Access a = is_bad_access a
is_bad_plain Accounting a = is_bad_accounting a

-- with flag M set, one of a vendor that no attribute can hold
abbrev pub is_bad_vendor : AvpParts → Bool
is_bad_vendor a = is_mandatory a && nat_lt 247 (length a.body)

abbrev pub is_bad_of : Option ℕ → Direction → AvpParts → Bool
is_bad_of None direction a = is_bad_plain direction a
is_bad_of (Some vendor) direction a = is_bad_vendor a

-- an AVP that refuses the packet
abbrev pub is_bad : Direction → AvpParts → Bool
is_bad direction a = is_bad_of a.vendor direction a

-- ---- the packet

-- Acct-Status-Type comes first in an Accounting-Request
abbrev pub first_attributes : Direction → List AvpParts → List AttributeParts
first_attributes Access avps = []
first_attributes Accounting avps = attribute 40 (u32 (unwrap_or (status_in avps) 0)) ∷ []

-- the attributes in the order of the AVPs, without the Message-Authenticator
abbrev pub request_attributes : Direction → List ℕ → List ℕ → List AvpParts → List AttributeParts
request_attributes direction random secret avps =
    first_attributes direction avps ++ flat_map (image direction random secret) avps

-- an Accounting-Request with these attributes and this authenticator
abbrev pub accounting_packet : ℕ → List AttributeParts → List ℕ → PacketParts
accounting_packet id attributes authenticator =
    record { code = 4; id = id; authenticator = authenticator; attributes = attributes }

-- the MD5 of the packet that has sixteen zeros in its place, and of the secret (RFC 2866, section 3)
abbrev pub accounting_authenticator : ℕ → List ℕ → List AttributeParts → List ℕ
accounting_authenticator id secret attributes = md5 (packet_text (accounting_packet id attributes (replicate 16 0)) ++ secret)

-- The Access-Request with this authenticator, behind whose Message-Authenticator the attributes come; or the
-- Accounting-Request, which has an authenticator of its own.
abbrev pub request_packet : Direction → ℕ → List ℕ → List ℕ → List AvpParts → PacketParts
request_packet Access id random secret avps =
    request_parts secret (record { code = 1; id = id; request = random; sealed = true; attributes = request_attributes Access random secret avps })
request_packet Accounting id random secret avps =
    let attributes = request_attributes Accounting random secret avps in
    accounting_packet id attributes (accounting_authenticator id secret attributes)

-- how many octets it has: header, Message-Authenticator, attributes
abbrev pub seal_length : Direction → ℕ
seal_length Access = 18
seal_length Accounting = 0

abbrev pub request_length : Direction → List ℕ → List ℕ → List AvpParts → ℕ
request_length direction random secret avps =
    20 + seal_length direction + length (attributes_text (request_attributes direction random secret avps))

-- ---- why it can't be made

-- of these an Access-Request has one at most (RFC 2865, section 4.1)
abbrev pub is_credential : AvpParts → Bool
is_credential a = has_code 2 a || has_code 402 a

-- two credentials, or no one Accounting-Record-Type of a start, an interim record or a stop
abbrev pub is_unclear : Direction → List AvpParts → Bool
is_unclear Access avps = nat_lt 1 (count_by is_credential avps)
is_unclear Accounting avps = is_none (status_in avps)

abbrev pub is_unfit : Direction → List ℕ → List ℕ → List AvpParts → Bool
is_unfit direction random secret avps =
    is_unclear direction avps || list_any (is_bad direction) avps || nat_lt 4096 (request_length direction random secret avps)

-- keys are not handed on
abbrev pub is_unable : Direction → List ℕ → List ℕ → List AvpParts → Bool
is_unable direction random secret avps = list_any is_key_avp avps || is_unfit direction random secret avps

-- The packet that a request with these AVPs becomes, or why it becomes none.
unfoldable pub request_image : Direction → ℕ → List ℕ → List ℕ → List AvpParts → Result (List ℕ) ReverseFault
request_image direction id random secret avps =
    if list_any is_unsupported avps then Err Unsupported
    else if is_unable direction random secret avps then Err Unable
    else Ok (packet_text (request_packet direction id random secret avps))
