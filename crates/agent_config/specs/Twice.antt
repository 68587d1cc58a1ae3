-- Two clients with one address (profile).
use Rattle.std.specs.Prelude.{◌≡◌, ℕ, ◌+◌, Bool, ◌==◌, List, take, Option, None, option_map, IsTrue, find}
use Rattle.std.specs.List.{list_any, enumerate_from}
use Rattle.agent_settings.specs.declared.client.Client.{Client}
use Rattle.agent_settings.specs.Config.{are_addresses_distinct}
use Rattle.agent_settings.specs.declared.fault.ConfigFault.{ConfigFault}
use Rattle.agent_settings.specs.declared.fault.ConfigFault.TheVariants.{TwiceAddress}

-- a client at this place, whose address an earlier one has
abbrev pub is_second : List Client → ℕ × Client → Bool
is_second clients p = list_any (λ c. c.address == p.1.address) (take p.0 clients)

-- that two clients have one address: the number, from 1, of the first that comes second
abbrev pub twice : List Client → Option ConfigFault
twice clients = option_map (λ p. TwiceAddress (p.0 + 1)) (find (λ p. is_second clients p) (enumerate_from 0 clients))

-- where no client comes second, no two have one address
abbrev pub DistinctUnlessTwice : Type 0
DistinctUnlessTwice = (clients : List Client) → twice clients ≡ None → IsTrue (are_addresses_distinct clients)
