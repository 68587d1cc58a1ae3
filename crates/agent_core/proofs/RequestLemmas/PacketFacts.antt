-- What is read of octets is a packet.
use Rattle.std.proofs.Common.{◌≡◌, ℕ, ◌<◌, ◌≤◌, inl, inr, List, length, get_or, drop, None, Result, Ok, Err, refl, sym, ◌∙◌, subst}
use Rattle.std.specs.Result.{result_err}
use Rattle.std.proofs.lemmas.Bool.{cases_lt}
use Rattle.radius_packet.specs.declared.fault.PacketFault.{PacketFault}
use Rattle.radius_packet.specs.declared.fault.PacketFault.TheVariants.{Short, BadLength}
use Rattle.radius_packet.specs.Packet.{AttributeParts, PacketParts, IsPacket, length_field, whole, with_header, read_attributes, read_packet}
use Rattle.radius_packet.proofs.Packets.{reads_short, reads_low, reads_high, reads_cut, reads_whole, accepted}

fails_not : (octets : List ℕ) (p : PacketParts) (fault : PacketFault) → read_packet octets ≡ Ok p → read_packet octets ≡ Err fault → ⊥
fails_not octets p fault read fails = let no : ◌≡◌ {A = Result PacketParts PacketFault} (Ok p) (Err fault) = sym read ∙ fails in absurd (cc)

no_fault : (octets : List ℕ) (r : Result (List AttributeParts) PacketFault) (p : PacketParts) → with_header octets r ≡ Ok p → None ≡ result_err r
no_fault octets (Ok list) p e = refl
no_fault octets (Err fault) p e = absurd (cc)

same_packet : (p q : PacketParts) → ◌≡◌ {A = Result PacketParts PacketFault} (Ok p) (Ok q) → p ≡ q
same_packet p q e = cc

-- where its Length is one that a packet can have, and isn't more than there is
read_within : (octets : List ℕ) (p : PacketParts) → ((i : ℕ) → get_or octets i 0 < 256) → 20 ≤ length octets → 20 ≤ length_field octets → length_field octets ≤ 4096 → length_field octets ≤ length octets → read_packet octets ≡ Ok p → IsPacket (whole octets) p
read_within octets p bytes long low high there read =
    let inner = sym (reads_whole octets long low high there) ∙ read in
    let sound = no_fault (whole octets) (read_attributes (drop 20 (whole octets)) 0 20) p inner in
    let a = accepted octets (length_field octets) bytes refl low high there sound in
    subst (IsPacket (whole octets)) (same_packet _ p (sym a.read ∙ read)) a.found

pub read_is_packet : (octets : List ℕ) (p : PacketParts) → ((i : ℕ) → get_or octets i 0 < 256) → read_packet octets ≡ Ok p → IsPacket (whole octets) p
read_is_packet octets p bytes read =
    elim (cases_lt (length octets) 20) [
      | inl short ↦ absurd (fails_not octets p Short read (reads_short octets short))
      | inr long ↦ (elim (cases_lt (length_field octets) 20) [
        | inl less ↦ absurd (fails_not octets p BadLength read (reads_low octets long less))
        | inr low ↦ (elim (cases_lt 4096 (length_field octets)) [
          | inl more ↦ absurd (fails_not octets p BadLength read (reads_high octets long low more))
          | inr high ↦ (elim (cases_lt (length octets) (length_field octets)) [
            | inl cut ↦ absurd (fails_not octets p Short read (reads_cut octets long low high cut))
            | inr there ↦ read_within octets p bytes long low high there read
          ])
        ])
      ])
    ]
