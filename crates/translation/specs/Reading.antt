-- What the AVPs of an answer to a request for access say (RFC 4005, section 3.2; RFC 4072, section 3.2).
use Rattle.std.specs.Prelude.{ℕ, ◌+◌, Bool, true, false, ◌==◌, nat_eq, nat_le, not, ◌&&◌, ◌||◌, List, length, take, find, count_by, Option, Some, None, is_some, is_none, is_err, option_and_then, Result, Ok, Err, if◌then◌else◌}
use Rattle.std.specs.List.{list_any, enumerate_from}
use Rattle.std.specs.Cmp.Lexicographic.{pointwise}
use Rattle.wire_core.specs.Words.{is_identity}
use Rattle.diameter_avp.specs.Avps.{AvpParts, is_mandatory, read_avps}
use Rattle.diameter_avp.specs.declared.fault.AvpFault.{AvpFault}
use Rattle.diameter_message.specs.Finding.{has_code}
use Rattle.diameter_message.specs.Results.{is_success}
use Rattle.attribute_table.specs.Known.{is_key, is_known}
use Rattle.attribute_table.specs.declared.row.Row.{Row}
use Rattle.attribute_table.specs.Rows.{row_of_avp}
use Rattle.attribute_table.specs.Images.{backward_image}
use Rattle.session_carrier.specs.Session.{state_text}
use Rattle.tunnel_map.specs.Groups.{group_fault}
use Rattle.tunnel_map.specs.RoundTrip.{is_group}
use Rattle.translation.specs.declared.service.Service.{Service}
use Rattle.translation.specs.declared.service.Service.TheVariants.{Nasreq, Eap}
use Rattle.translation.specs.declared.class.Class.{Class}
use Rattle.translation.specs.declared.class.Class.TheVariants.{Bad, Refusal, Challenge, Success}

-- ---- the Session-Id (RFC 6733, section 8.8)

abbrev pub is_own_session : List ℕ → AvpParts → Bool
is_own_session session a = has_code 263 a && pointwise nat_eq a.body session

-- there is exactly one, the request's
abbrev pub has_own_session : List ℕ → List AvpParts → Bool
has_own_session session avps = count_by (has_code 263) avps == 1 && list_any (is_own_session session) avps

-- ---- AVPs that must be understood (RFC 6733, section 4.1: flag M)

abbrev pub is_key_avp : AvpParts → Bool
is_key_avp a = is_key a.code a.vendor

-- it fits in a Vendor-Specific attribute (RFC 2865, section 5.26)
abbrev pub fits_vendor : AvpParts → Bool
fits_vendor a = nat_le a.code 255 && nat_le (length a.body) 247

-- a key, one of the known AVPs, or with V set one that fits in an attribute (profile)
abbrev pub is_understood : AvpParts → Bool
is_understood a = is_key_avp a || (if is_some a.vendor then fits_vendor a else is_known a.code)

abbrev pub is_unknown : AvpParts → Bool
is_unknown a = is_mandatory a && not (is_understood a)

abbrev pub has_unknown : List AvpParts → Bool
has_unknown avps = list_any is_unknown avps

-- ---- keys

abbrev pub is_key_among : Result (List AvpParts) AvpFault → Bool
is_key_among (Ok members) = list_any is_key_avp members
is_key_among (Err fault) = false

-- a key, or a group that can be read and holds one itself
abbrev pub holds_key : AvpParts → Bool
holds_key a = is_key_avp a || (is_group a && is_key_among (read_avps a.body))

abbrev pub has_key : List AvpParts → Bool
has_key avps = list_any holds_key avps

-- ---- values

-- whether the AVPs of a row are copied into the reply (profile)
abbrev pub goes_back : Class → Row → Bool
goes_back Bad row = false
goes_back Refusal row = row.reject
goes_back Challenge row = row.challenge
goes_back Success row = row.accept

abbrev pub is_bad_value : Class → Option Row → List ℕ → Bool
is_bad_value class None body = false
is_bad_value class (Some row) body = goes_back class row && is_err (backward_image row body)

-- Session-Timeout and Authorization-Lifetime count in a success, Multi-Round-Time-Out in a challenge (profile)
abbrev pub is_timeout : Class → AvpParts → Bool
is_timeout Success a = has_code 27 a || has_code 291 a
is_timeout Challenge a = has_code 272 a
is_timeout _ a = false

-- a number has four octets (RFC 6733, section 4.2)
abbrev pub is_bad_timeout : Class → AvpParts → Bool
is_bad_timeout class a = is_timeout class a && not (length a.body == 4)

-- the groups become attributes in a success alone
abbrev pub takes_groups : Class → Bool
takes_groups Success = true
takes_groups _ = false

-- how many groups stand before a place, and one more: the number of a group that stands there
abbrev pub group_number : List AvpParts → ℕ → ℕ
group_number avps place = count_by is_group (take place avps) + 1

abbrev pub is_bad_group : Class → ℕ → AvpParts → Bool
is_bad_group class number a = takes_groups class && is_group a && is_some (group_fault number a.body)

-- the number of seconds, the row or the group has a fault
abbrev pub is_plain_faulty : Class → ℕ → AvpParts → Bool
is_plain_faulty class number a =
    is_bad_timeout class a || is_bad_value class (row_of_avp a.code) a.body || is_bad_group class number a

-- an AVP that this reply takes up can't be attributes; one with a vendor always can, or is unknown
abbrev pub is_faulty : Class → ℕ → AvpParts → Bool
is_faulty class number a = is_none a.vendor && is_plain_faulty class number a

abbrev pub has_fault : Class → List AvpParts → Bool
has_fault class avps =
    list_any (λ p. is_mandatory p.1 && is_faulty class (group_number avps p.0) p.1) (enumerate_from 0 avps)

-- ---- EAP-Payloads (RFC 4072, section 4.1.1)

abbrev pub is_challenge : Class → Bool
is_challenge Challenge = true
is_challenge _ = false

-- two or more of them, or none in a challenge
abbrev pub has_bad_payload : Service → Class → List AvpParts → Bool
has_bad_payload Nasreq class avps = false
has_bad_payload Eap class avps =
    nat_le 2 (count_by (has_code 462) avps) || (is_challenge class && count_by (has_code 462) avps == 0)

-- ---- the kind by the Result-Code (RFC 6733, section 7.1)

abbrev pub result_class : ℕ → Class
result_class result = if result == 1001 then Challenge else (if is_success result then Success else Refusal)

-- ---- the State of a challenge

abbrev pub identity_in : AvpParts → Option (List ℕ)
identity_in a = if is_identity a.body then Some a.body else None

-- the first AVP of this code, where it is an identity
abbrev pub first_identity : ℕ → List AvpParts → Option (List ℕ)
first_identity code avps = option_and_then identity_in (find (has_code code) avps)

abbrev pub short_value : List ℕ → Option (List ℕ)
short_value value = if nat_le (length value) 253 then Some value else None

abbrev pub state_by : Option (List ℕ) → Option (List ℕ) → List ℕ → Option (List ℕ)
state_by None realm session = None
state_by (Some host) None session = None
state_by (Some host) (Some realm) session = short_value (state_text host realm session)

-- the answer's Origin-Host and Origin-Realm and the request's session, where they are identities and fit
abbrev pub state_value : List ℕ → List AvpParts → Option (List ℕ)
state_value session avps = state_by (first_identity 264 avps) (first_identity 296 avps) session
