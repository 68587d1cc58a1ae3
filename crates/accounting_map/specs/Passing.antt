-- Internal: what the attributes of an Accounting-Request give, in one pass that keeps what it saw.
use Rattle.std.specs.Prelude.{ℕ, Bool, false, true, ◌==◌, List, [], ◌∷◌, if◌then◌else◌}
use Rattle.wire_core.specs.Numbers.{u64}
use Rattle.radius_packet.specs.Packet.{AttributeParts}
use Rattle.diameter_avp.specs.Avps.{AvpParts}
use Rattle.diameter_message.specs.PlainAvps.{plain_avp}
use Rattle.translation.specs.declared.direction.Direction.TheVariants.{Accounting}
use Rattle.translation.specs.Passing as common
use Rattle.accounting_map.specs.declared.requests.Passed.{Passed}
use Rattle.accounting_map.specs.Requests.{is_input, is_output, volume, packets_avp, cause_avp}

abbrev pub volume_after : Bool → ℕ → ℕ → List AvpParts
volume_after before code octets = if before then [] else plain_avp code (u64 octets) ∷ []

unfoldable pub piece_after : List AttributeParts → Passed → AttributeParts → List AvpParts
piece_after all passed a =
    if is_input a then volume_after passed.input 363 (volume 42 52 all)
    else if is_output a then volume_after passed.output 364 (volume 43 53 all)
    else if a.code == 47 then packets_avp 365 a.value ∷ []
    else if a.code == 48 then packets_avp 366 a.value ∷ []
    else if a.code == 49 then cause_avp a.value ∷ []
    else common.common_after Accounting all passed.seen a

unfoldable pub noted : Passed → AttributeParts → Passed
noted passed a =
    if is_input a then record passed { input = true }
    else if is_output a then record passed { output = true }
    else if a.code == 47 then passed
    else if a.code == 48 then passed
    else if a.code == 49 then passed
    else record passed { seen = common.noted Accounting passed.seen a }

abbrev pub nothing : Passed
nothing = record { seen = common.nothing; input = false; output = false }

-- what the attributes that are left give
abbrev pub pieces_after : List AttributeParts → Passed → List AttributeParts → List AvpParts
pieces_after all passed left = common.pieces_after (piece_after all) noted passed left
