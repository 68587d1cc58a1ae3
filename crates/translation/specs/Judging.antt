-- What packets of both codes are judged by (profile).
use Rattle.std.specs.Prelude.{ℕ, Bool, false, ◌==◌, nat_eq, nat_lt, not, ◌&&◌, ◌||◌, List, length, filter, Option, Some, None, option_map, Result, Ok, Err, if◌then◌else◌}
use Rattle.std.specs.Option.{option_or}
use Rattle.std.specs.List.{list_any}
use Rattle.wire_core.specs.Numbers.{number}
use Rattle.radius_packet.specs.Packet.{AttributeParts, attributes_text}
use Rattle.radius_packet.specs.declared.reasons.Reason.{Reason}
use Rattle.radius_packet.specs.declared.reasons.Reason.TheVariants.{KeyAttribute, BadValue, ProxyStateTooLong}
use Rattle.attribute_table.specs.Known.{is_key}
use Rattle.attribute_table.specs.Vendors.{VendorPart, vendor_parts}
use Rattle.agent_settings.specs.declared.client.Client.{Client}
use Rattle.session_carrier.specs.declared.kept.Kind2.{Kind2}
use Rattle.translation.specs.declared.direction.Direction.{Direction}
use Rattle.translation.specs.Values.{first_bad}

-- the address that a packet comes from, or one that the settings give the client
abbrev pub is_own_address : Client → ℕ → ℕ → Bool
is_own_address client source address = address == source || list_any (nat_eq address) client.nas

-- a NAS-IP-Address that is another's (RFC 2865, section 5.4)
abbrev pub is_foreign : Client → ℕ → AttributeParts → Bool
is_foreign client source a = a.code == 4 && length a.value == 4 && not (is_own_address client source (number a.value))

-- some part holds a key
abbrev pub has_key_part : Option (List VendorPart) → Bool
has_key_part None = false
has_key_part (Some parts) = list_any (λ p. is_key p.code (Some p.vendor)) parts

-- an attribute that holds a key, itself or in a part of a Vendor-Specific one (RFC 2548; RFC 2868, section 3.5)
abbrev pub is_key_attribute : AttributeParts → Bool
is_key_attribute a = is_key a.code None || (a.code == 26 && has_key_part (vendor_parts a.value))

abbrev pub is_proxy_state : AttributeParts → Bool
is_proxy_state a = a.code == 33

-- the Proxy-States (RFC 2865, section 5.33)
abbrev pub proxy_states : List AttributeParts → List AttributeParts
proxy_states attributes = filter is_proxy_state attributes

-- ---- reasons

abbrev pub reason_if : Bool → Reason → Option Reason
reason_if stands reason = if stands then Some reason else None

-- the reasons that lie in the attributes of either code: a key, the first bad value, or more than 2048 octets of
-- Proxy-States with their headers
abbrev pub value_reason : Direction → List AttributeParts → Option Reason
value_reason direction attributes =
    option_or (reason_if (list_any is_key_attribute attributes) KeyAttribute)
    (option_or (option_map (λ a. BadValue a.code) (first_bad direction attributes))
    (reason_if (nat_lt 2048 (length (attributes_text (proxy_states attributes)))) ProxyStateTooLong))

-- this kind, unless there is a reason against it
abbrev pub kind_unless : Option Reason → Kind2 → Result Kind2 Reason
kind_unless None kind = Ok kind
kind_unless (Some reason) kind = Err reason
