-- Internal: the packet of a request as the code comes to it.
use Rattle.std.specs.Prelude.{◌≡◌, ℕ, List, Result, Ok, Err, if◌then◌else◌}
use Rattle.radius_packet.specs.Packet.{packet_text}
use Rattle.diameter_avp.specs.Avps.{AvpParts}
use Rattle.translation.specs.declared.direction.Direction.{Direction}
use Rattle.reverse_map.specs.declared.fault.ReverseFault.{ReverseFault}
use Rattle.reverse_map.specs.declared.fault.ReverseFault.TheVariants.{Unsupported, Unable, NoMemory}
use Rattle.reverse_map.specs.Requests.{is_unfit, request_packet}

-- this is what the image says, unless memory ran out
abbrev pub Gives : Result (List ℕ) ReverseFault → Result (List ℕ) ReverseFault → Type 0
Gives (Ok octets) wanted = wanted ≡ Ok octets
Gives (Err Unsupported) wanted = wanted ≡ Err Unsupported
Gives (Err Unable) wanted = wanted ≡ Err Unable
Gives (Err NoMemory) wanted = Unit {0}

-- the image where all AVPs are understood and none is a key
abbrev pub keyless_image : Direction → ℕ → List ℕ → List ℕ → List AvpParts → Result (List ℕ) ReverseFault
keyless_image direction id random secret avps =
    if is_unfit direction random secret avps then Err Unable
    else Ok (packet_text (request_packet direction id random secret avps))
