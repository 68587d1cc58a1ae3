-- Internal: the Acct-Status-Types of a packet, one attribute after another.
use Rattle.std.specs.Prelude.{ℕ, if◌then◌else◌}
use Rattle.radius_packet.specs.Packet.{AttributeParts}
use Rattle.accounting_map.specs.Numbers.{number_in}
use Rattle.accounting_map.specs.Verdict.{is_status}
use Rattle.accounting_map.specs.declared.statuses.Statuses.{Statuses}
use Rattle.accounting_map.specs.declared.statuses.Statuses.TheVariants.{Missing, Lone, Many}

abbrev pub further : Statuses → AttributeParts → Statuses
further Missing a = Lone (number_in a.value)
further (Lone number) a = Many
further Many a = Many

-- with one attribute more
abbrev pub statuses_with : Statuses → AttributeParts → Statuses
statuses_with found a = if is_status a then further found a else found

-- the number in the only one, else 0
abbrev pub status_of : Statuses → ℕ
status_of Missing = 0
status_of (Lone number) = number
status_of Many = 0
