-- Whether an Access-Request is translated, and as what (profile).
use Rattle.std.specs.Prelude.{◌≡◌, ℕ, Bool, ◌==◌, nat_lt, not, ◌&&◌, ◌||◌, List, length, count_by, Option, Some, None, Result, Ok, if◌then◌else◌}
use Rattle.std.specs.Option.{option_or}
use Rattle.std.specs.List.{list_any}
use Rattle.password_hiding.specs.Hiding.{is_hidden_length}
use Rattle.radius_packet.specs.Checks.{seal_of}
use Rattle.radius_packet.specs.Packet.{PacketParts, AttributeParts}
use Rattle.radius_packet.specs.declared.checking.Seal.{Seal}
use Rattle.radius_packet.specs.declared.checking.Seal.TheVariants as seal
use Rattle.radius_packet.specs.declared.reasons.Reason.{Reason}
use Rattle.radius_packet.specs.declared.reasons.Reason.TheVariants.{NoSeal, BadSeal, NasAddress, BothPasswords, BadPassword}
use Rattle.session_carrier.specs.declared.kept.Kind2.{Kind2}
use Rattle.session_carrier.specs.declared.kept.Kind2.TheVariants.{Access, Eap}
use Rattle.agent_settings.specs.declared.client.Client.{Client}
use Rattle.translation.specs.Heads.{is_eap}
use Rattle.translation.specs.Judging.{is_foreign, reason_if, value_reason, kind_unless}
use Rattle.translation.specs.declared.direction.Direction.TheVariants as direction

-- a User-Password or a CHAP-Password (RFC 2865, sections 5.2 and 5.3)
abbrev pub is_password : AttributeParts → Bool
is_password a = a.code == 2 || a.code == 3

-- hidden octets have 16, 32, .. to 128, and a CHAP-Password has an identifier and sixteen octets
abbrev pub is_bad_password : AttributeParts → Bool
is_bad_password a =
    (a.code == 2 && not (is_hidden_length (length a.value))) || (a.code == 3 && not (length a.value == 17))

-- ---- reasons

-- an Access-Request needs a Message-Authenticator where it has an EAP-Message (RFC 3579, section 3.2), or where the
-- client's settings say so
abbrev pub needs_seal : Client → PacketParts → Bool
needs_seal client packet = client.require_seal || list_any is_eap packet.attributes

abbrev pub seal_reason_of : Bool → Seal → Option Reason
seal_reason_of needed seal.Absent = reason_if needed NoSeal
seal_reason_of needed seal.Right = None
seal_reason_of needed seal.Wrong = Some BadSeal

abbrev pub seal_reason : Client → PacketParts → Option Reason
seal_reason client packet = seal_reason_of (needs_seal client packet) (seal_of client.secret packet)

-- more than one password, or one beside an EAP-Message (RFC 2865, section 4.1; RFC 3579, section 3.1)
abbrev pub has_more_passwords : List AttributeParts → Bool
has_more_passwords attributes =
    let passwords = count_by is_password attributes in
    nat_lt 1 passwords || (nat_lt 0 passwords && list_any is_eap attributes)

abbrev pub password_reason : List AttributeParts → Option Reason
password_reason attributes =
    option_or (reason_if (has_more_passwords attributes) BothPasswords) (reason_if (list_any is_bad_password attributes) BadPassword)

-- the first reason against an Access-Request that comes from this address
abbrev pub access_reason : Client → ℕ → PacketParts → Option Reason
access_reason client source packet =
    option_or (seal_reason client packet)
    (option_or (reason_if (list_any (is_foreign client source) packet.attributes) NasAddress)
    (option_or (password_reason packet.attributes) (value_reason direction.Access packet.attributes)))

-- by EAP where an EAP-Message is there (RFC 4072)
abbrev pub access_kind : List AttributeParts → Kind2
access_kind attributes = if list_any is_eap attributes then Eap else Access

-- what an Access-Request asks for, or the first reason against it
unfoldable pub verdict : Client → ℕ → PacketParts → Result Kind2 Reason
verdict client source packet = kind_unless (access_reason client source packet) (access_kind packet.attributes)

-- from some address this is what the packet asks for
abbrev pub IsJudged : Client → PacketParts → Kind2 → Type 0
IsJudged client packet kind = (source : ℕ) × (verdict client source packet ≡ Ok kind)
