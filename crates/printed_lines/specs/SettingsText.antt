-- Settings as lines of a transcript (profile).
use Rattle.std.specs.Prelude.{ℕ, Bool, List, [], ◌∷◌, ◌++◌, map, codes, decimal, unwrap_or, if◌then◌else◌}
use Rattle.std.specs.List.{flat_map, join_with_byte}
use Rattle.agent_settings.specs.declared.client.Client.{Client}
use Rattle.agent_settings.specs.declared.config.Config.{Config}
use Rattle.printed_lines.specs.Text.{address_text, hex_text, line_text}

-- addresses separated by ',', or '-' for none
abbrev pub addresses_text : List ℕ → List ℕ
addresses_text [] = codes "-"
addresses_text (address ∷ addresses) = join_with_byte 44 (map address_text (address ∷ addresses))

-- an address behind others
abbrev pub further_text : ℕ → List ℕ
further_text address = 44 ∷ address_text address

abbrev pub seal_name : Bool → List ℕ
seal_name require_seal = if require_seal then codes "seal" else codes "plain"

abbrev pub keys_name : Bool → List ℕ
keys_name omit_keys = if omit_keys then codes "omit" else codes "refuse"

-- agent HOST REALM HOME ADDRESS BOOT RETENTION CAPACITY BACKLOG WATCHDOG PATIENCE, with boot 0 where it isn't set
abbrev pub agent_words : Config → List (List ℕ)
agent_words config = codes "agent" ∷ config.host ∷ config.realm ∷ config.home_realm ∷ address_text config.address
    ∷ decimal (unwrap_or config.boot 0) ∷ decimal config.retention ∷ decimal config.capacity ∷ decimal config.backlog
    ∷ decimal config.watchdog ∷ decimal config.patience ∷ []

abbrev pub agent_text : Config → List ℕ
agent_text config = line_text (agent_words config)

-- client NAME ADDRESS SECRET OHOST OREALM SEAL KEYS NAS
abbrev pub client_words : Client → List (List ℕ)
client_words client = codes "client" ∷ client.name ∷ address_text client.address ∷ hex_text client.secret
    ∷ client.origin_host ∷ client.origin_realm ∷ seal_name client.require_seal ∷ keys_name client.omit_keys
    ∷ addresses_text client.nas ∷ []

abbrev pub client_text : Client → List ℕ
client_text client = line_text (client_words client)

-- the agent line, and then a line for each client
abbrev pub settings_text : Config → List ℕ
settings_text config = agent_text config ++ flat_map client_text config.clients
