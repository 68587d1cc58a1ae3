-- Values in the attributes of a packet (RFC 2866, section 5). In a packet that is translated the numbers have four octets.
use Rattle.std.specs.Prelude.{ℕ, ◌==◌, List, length, find, Option, option_map, if◌then◌else◌}
use Rattle.wire_core.specs.Numbers.{number}
use Rattle.radius_packet.specs.Packet.{AttributeParts}

-- the value of the first attribute of this type
abbrev pub first_value : ℕ → List AttributeParts → Option (List ℕ)
first_value code all = option_map (λ a. a.value) (find (λ a. a.code == code) all)

-- the number in four octets, else 0
abbrev pub number_in : List ℕ → ℕ
number_in value = if length value == 4 then number value else 0

-- the number in the first attribute of this type
abbrev pub first_number : ℕ → List AttributeParts → Option ℕ
first_number code all = option_map number_in (first_value code all)
