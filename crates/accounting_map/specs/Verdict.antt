-- Whether an Accounting-Request is translated, and as what (RFC 2866; the order of the reasons is this profile's).
use Rattle.std.specs.Prelude.{◌≡◌, ℕ, Bool, ◌==◌, not, ◌||◌, List, [], ◌∷◌, filter, Option, Some, None, Result, Ok, Err, if◌then◌else◌}
use Rattle.std.specs.Option.{option_or}
use Rattle.std.specs.List.{list_any}
use Rattle.radius_packet.specs.Checks.{is_accounting_right}
use Rattle.radius_packet.specs.Packet.{PacketParts, AttributeParts, packet_text}
use Rattle.radius_packet.specs.declared.reasons.Reason.{Reason}
use Rattle.radius_packet.specs.declared.reasons.Reason.TheVariants.{BadAuthenticator, NasAddress, NoStatus, OnOff}
use Rattle.session_carrier.specs.declared.kept.Kind2.{Kind2}
use Rattle.session_carrier.specs.declared.kept.Kind2.TheVariants.{Start, Interim, Stop}
use Rattle.agent_settings.specs.declared.client.Client.{Client}
use Rattle.translation.specs.Judging.{is_foreign, reason_if, value_reason, kind_unless}
use Rattle.translation.specs.declared.direction.Direction.TheVariants.{Accounting}
use Rattle.accounting_map.specs.Numbers.{number_in}

-- an Acct-Status-Type (section 5.1)
abbrev pub is_status : AttributeParts → Bool
is_status a = a.code == 40

-- the number in the only one of these, else 0
abbrev pub lone_number : List AttributeParts → ℕ
lone_number [] = 0
lone_number (a ∷ []) = number_in a.value
lone_number (a ∷ b ∷ rest) = 0

-- the number in the only Acct-Status-Type of a packet; 0, which no status has, where there isn't one of four octets
abbrev pub status : List AttributeParts → ℕ
status attributes = lone_number (filter is_status attributes)

-- Start, Stop and Interim-Update are translated; Accounting-On and Accounting-Off belong to no session
abbrev pub status_kind : ℕ → Result Kind2 Reason
status_kind status =
    if status == 1 then Ok Start
    else if status == 2 then Ok Stop
    else if status == 3 then Ok Interim
    else if status == 7 || status == 8 then Err OnOff
    else Err NoStatus

-- ---- reasons

-- the first reason against an Accounting-Request from this address that comes before its status is looked at
abbrev pub outer_reason : Client → ℕ → PacketParts → Option Reason
outer_reason client source packet =
    option_or (reason_if (not (is_accounting_right client.secret (packet_text packet))) BadAuthenticator)
    (reason_if (list_any (is_foreign client source) packet.attributes) NasAddress)

-- a kind, or what speaks against having one, between the reasons before it and those behind it
abbrev pub kind_between : Option Reason → Result Kind2 Reason → Option Reason → Result Kind2 Reason
kind_between (Some reason) kind last = Err reason
kind_between None (Err reason) last = Err reason
kind_between None (Ok kind) last = kind_unless last kind

-- what an Accounting-Request records, or the first reason against it
unfoldable pub verdict : Client → ℕ → PacketParts → Result Kind2 Reason
verdict client source packet =
    kind_between (outer_reason client source packet) (status_kind (status packet.attributes)) (value_reason Accounting packet.attributes)

-- from some address this is what the packet records
abbrev pub IsJudged : Client → PacketParts → Kind2 → Type 0
IsJudged client packet kind = (source : ℕ) × (verdict client source packet ≡ Ok kind)
