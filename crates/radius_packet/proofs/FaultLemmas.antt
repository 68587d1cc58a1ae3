-- Each fault of reading comes exactly when its definition says.
use Rattle.std.proofs.Common.{◌≡◌, ℕ, ◌≤◌, List, length, drop, Result, Err, sym, ap, ◌∙◌, arith, inl, inr}
use Rattle.std.specs.Prelude.{◌↔◌}
use Rattle.std.proofs.lemmas.Bool.{cases_lt}
use Rattle.radius_packet.specs.declared.fault.PacketFault.{PacketFault}
use Rattle.radius_packet.specs.declared.fault.PacketFault.TheVariants.{Short, BadLength, BadAttribute}
use Rattle.radius_packet.specs.Packet.{AttributeParts, length_field, whole, with_header, read_attributes, read_packet}
use Rattle.radius_packet.specs.Faults.{HasGoodLength, IsShort, HasBadLength, HasBadAttribute}
use Rattle.radius_packet.proofs.Reading.{fault_is, breaks_at, breaks_back}
use Rattle.radius_packet.proofs.Packets.{reads_short, reads_low, reads_high, reads_cut, reads_whole, header_fails}

-- each datagram is of one of four kinds, and what is read of it goes by the kind
data Kind (octets : List ℕ) : Type 0 where
  TooShort : IsShort octets → read_packet octets ≡ Err Short → Kind octets
  OutOfRange : HasBadLength octets → read_packet octets ≡ Err BadLength → Kind octets
  Whole : HasGoodLength octets → length_field octets ≤ length octets
      → read_packet octets ≡ with_header (whole octets) (read_attributes (drop 20 (whole octets)) 0 20) → Kind octets

in_range : (octets : List ℕ) → 20 ≤ length octets → 20 ≤ length_field octets → length_field octets ≤ 4096 → Kind octets
in_range octets long low high = elim (cases_lt (length octets) (length_field octets)) [
  | inl cut ↦ TooShort (inr (record { low = low; high = high }, cut)) (reads_cut octets long low high cut)
  | inr there ↦ Whole (record { low = low; high = high }) there (reads_whole octets long low high there)
]

not_low : (octets : List ℕ) → 20 ≤ length octets → 20 ≤ length_field octets → Kind octets
not_low octets long low = elim (cases_lt 4096 (length_field octets)) [
  | inl high ↦ OutOfRange (long, inr high) (reads_high octets long low high)
  | inr fits ↦ in_range octets long low fits
]

has_header : (octets : List ℕ) → 20 ≤ length octets → Kind octets
has_header octets long = elim (cases_lt (length_field octets) 20) [
  | inl low ↦ OutOfRange (long, inl low) (reads_low octets long low)
  | inr fits ↦ not_low octets long fits
]

kind : (octets : List ℕ) → Kind octets
kind octets = elim (cases_lt (length octets) 20) [
  | inl short ↦ TooShort (inl short) (reads_short octets short)
  | inr long ↦ has_header octets long
]

-- a whole packet's fault is that of an attribute
names_attribute : (octets : List ℕ) (fault : PacketFault) → with_header octets (read_attributes (drop 20 octets) 0 20) ≡ Err fault → (n : ℕ) × (fault ≡ BadAttribute n)
names_attribute octets fault e = fault_is (drop 20 octets) 20 fault (header_fails octets _ fault e)

-- ---- too short

to_short : (octets : List ℕ) → Kind octets → read_packet octets ≡ Err Short → IsShort octets
to_short octets (TooShort short read) e = short
to_short octets (OutOfRange bad read) e = absurd cc
to_short octets (Whole good there read) e =
    let n = names_attribute (whole octets) Short (sym read ∙ e) in
    absurd cc

from_short : (octets : List ℕ) → IsShort octets → read_packet octets ≡ Err Short
from_short octets (inl short) = reads_short octets short
from_short octets (inr cut) = elim (cases_lt (length octets) 20) [
  | inl short ↦ reads_short octets short
  | inr long ↦ reads_cut octets long cut.0.low cut.0.high cut.1
]

pub short_is : (octets : List ℕ) → (read_packet octets ≡ Err Short) ↔ IsShort octets
short_is octets = (to_short octets (kind octets), from_short octets)

-- ---- out of range

to_bad_length : (octets : List ℕ) → Kind octets → read_packet octets ≡ Err BadLength → HasBadLength octets
to_bad_length octets (TooShort short read) e = absurd cc
to_bad_length octets (OutOfRange bad read) e = bad
to_bad_length octets (Whole good there read) e =
    let n = names_attribute (whole octets) BadLength (sym read ∙ e) in
    absurd cc

from_bad_length : (octets : List ℕ) → HasBadLength octets → read_packet octets ≡ Err BadLength
from_bad_length octets bad = elim bad.1 [
  | inl low ↦ reads_low octets bad.0 low
  | inr high ↦ reads_high octets bad.0 (omega (arith, high)) high
]

pub bad_length_is : (octets : List ℕ) → (read_packet octets ≡ Err BadLength) ↔ HasBadLength octets
bad_length_is octets = (to_bad_length octets (kind octets), from_bad_length octets)

-- ---- an attribute that isn't whole

to_bad_attribute : (octets : List ℕ) (place : ℕ) → Kind octets → read_packet octets ≡ Err (BadAttribute place) → HasBadAttribute octets place
to_bad_attribute octets place (TooShort short read) e = absurd cc
to_bad_attribute octets place (OutOfRange bad read) e = absurd cc
to_bad_attribute octets place (Whole good there read) e =
    record { in_range = good; there = there; breaks = breaks_at (whole octets) place (header_fails (whole octets) _ (BadAttribute place) (sym read ∙ e)) }

from_bad_attribute : (octets : List ℕ) (place : ℕ) → HasBadAttribute octets place → read_packet octets ≡ Err (BadAttribute place)
from_bad_attribute octets place bad =
    let there = bad.there in
    let low = bad.in_range.low in
    reads_whole octets (omega arith) low bad.in_range.high there
    ∙ ap (λ (r : Result (List AttributeParts) PacketFault). with_header (whole octets) r) (breaks_back (whole octets) place bad.breaks)

pub bad_attribute_is : (octets : List ℕ) (place : ℕ) → (read_packet octets ≡ Err (BadAttribute place)) ↔ HasBadAttribute octets place
bad_attribute_is octets place = (to_bad_attribute octets place (kind octets), from_bad_attribute octets place)
