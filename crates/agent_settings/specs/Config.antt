-- Settings: what they hold, and within which limits (profile).
use Rattle.std.specs.Prelude.{◌≡◌, ℕ, ◌<◌, ◌≤◌, Bool, ◌==◌, nat_le, ◌&&◌, not, true, List, [], ◌∷◌, ◌++◌, length, Option, None, Some, IsTrue, find, slice_get}
use Rattle.std.specs.List.{list_all, list_any, enumerate_from}
use Rattle.wire_core.specs.Words.{is_identity}
use Rattle.agent_settings.specs.declared.client.Client.{Client}
use Rattle.agent_settings.specs.declared.config.Config.{Config}

-- the first client with this address, and its place
abbrev pub find_address : ℕ → List Client → Option (ℕ × Client)
find_address address clients = find (λ p. p.1.address == address) (enumerate_from 0 clients)

abbrev pub is_between : ℕ → ℕ → ℕ → Bool
is_between low high n = nat_le low n && nat_le n high

-- a name of the settings: an identity of at most 64 octets
abbrev pub is_name : List ℕ → Bool
is_name xs = is_identity xs && nat_le (length xs) 64

unfoldable pub is_client_in_limits : Client → Bool
is_client_in_limits c =
    is_name c.name && is_name c.origin_host && is_name c.origin_realm
    && is_between 1 128 (length c.secret) && nat_le (length c.nas) 64

-- all but the clients; times are milliseconds
unfoldable pub are_settings_in_limits : Config → Bool
are_settings_in_limits c =
    is_name c.host && is_name c.realm && is_name c.home_realm
    && is_between 1000 300000 c.retention && is_between 1000 300000 c.patience && is_between 1 65536 c.capacity
    && is_between 2 65536 c.backlog && is_between 6000 600000 c.watchdog

-- no two clients have one address
abbrev pub are_addresses_distinct : List Client → Bool
are_addresses_distinct [] = true
are_addresses_distinct (c ∷ cs) = not (list_any (λ d. d.address == c.address) cs) && are_addresses_distinct cs

abbrev pub ClientInLimits : Client → Type 0
ClientInLimits c = IsTrue (is_client_in_limits c)

pub record InLimits (c : Config) : Type 0 where
  pub settings : IsTrue (are_settings_in_limits c)
  pub few : length c.clients ≤ 1024
  pub clients : IsTrue (list_all is_client_in_limits c.clients)
  pub distinct : IsTrue (are_addresses_distinct c.clients)

-- the settings with a further client, the last one
abbrev pub with_client : Config → Client → Config
with_client config client = record config { clients = config.clients ++ client ∷ [] }

-- a further client in limits, with an address of its own, keeps the settings in limits
abbrev pub ClientKeepsLimits : Type 0
ClientKeepsLimits = (config : Config) (client : Client) → InLimits config → ClientInLimits client
    → length config.clients < 1024 → find_address client.address config.clients ≡ None → InLimits (with_client config client)

-- each client of settings in limits is in limits
abbrev pub ClientsAreInLimits : Type 0
ClientsAreInLimits = (config : Config) (place : ℕ) (client : Client) → InLimits config
    → slice_get config.clients place ≡ Some client → ClientInLimits client

-- what is found has this address, and stands at this place
abbrev pub FoundStandsAtPlace : Type 0
FoundStandsAtPlace = (clients : List Client) (address place : ℕ) (client : Client)
    → find_address address clients ≡ Some (place, client)
    → (client.address ≡ address) × (slice_get clients place ≡ Some client)
