-- IPv4 addresses as text (profile).
use Rattle.std.specs.Prelude.{ℕ, List, [], ◌∷◌, Option, None, Some, option_and_then}
use Rattle.std.specs.Net.Reader.{read_ipv4}
use Rattle.wire_core.specs.Numbers.{number}

-- four octets, where nothing follows them
abbrev pub alone : List ℕ × List ℕ → Option ℕ
alone (octets, []) = Some (number octets)
alone (octets, x ∷ rest) = None

-- an IPv4 address: four decimal numbers up to 255, without leading zeros, with dots between them
abbrev pub address_in : List ℕ → Option ℕ
address_in text = option_and_then alone (read_ipv4 text)
