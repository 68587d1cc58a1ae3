-- The settings of a TOML document, and the first fault that it shows (profile).
use Rattle.std.specs.Prelude.{◌≡◌, ℕ, ◌+◌, Bool, false, not, List, [], ◌∷◌, ◌++◌, map, filter, codes, bytes_eq, Option, None, Some, unwrap_or, option_map, option_and_then, Result, Ok, Err, if◌then◌else◌}
use Rattle.std.specs.Cmp.Lexicographic.{slice_cmp}
use Rattle.std.specs.List.{list_any}
use Rattle.std.specs.Option.{option_map_or}
use Rattle.std.specs.Ordering.{is_lt, nat_cmp}
use Rattle.std.specs.Str.{is_utf8}
use Rattle.toml.specs.Data.{Data, Items, Members, no_members, member, get_member, as_bool, as_table}
use Rattle.toml.specs.Parse.{parse_document}
use Rattle.agent_settings.specs.declared.client.Client.{Client}
use Rattle.agent_settings.specs.declared.config.Config.{Config}
use Rattle.agent_settings.specs.declared.fault.ConfigFault.{ConfigFault}
use Rattle.agent_settings.specs.declared.fault.ConfigFault.TheVariants.{NotToml, Missing, BadValue}
use Rattle.agent_settings.specs.Config.{InLimits}
use Rattle.agent_config.specs.Twice.{twice}
use Rattle.agent_config.specs.Values.{each, name_of, secret_of, address_of, number_of, keys_choice_of, addresses_of, tables_of}

-- ---- a key of a table

-- what the value of a key stands for, where the table has the key and its value stands for something
abbrev pub at : {X : Type 0} → List ℕ → (Data → Option X) → Members → Option X
at key reads t = option_and_then reads (get_member key t)

abbrev pub fault_unless : {X : Type 0} → ConfigFault → Option X → Option ConfigFault
fault_unless fault None = Some fault
fault_unless fault (Some x) = None

abbrev pub needed_in : {X : Type 0} → ℕ → List ℕ → (Data → Option X) → Option Data → Option ConfigFault
needed_in client key reads None = Some (Missing client key)
needed_in client key reads (Some d) = fault_unless (BadValue client key) (reads d)

abbrev pub allowed_in : {X : Type 0} → ℕ → List ℕ → (Data → Option X) → Option Data → Option ConfigFault
allowed_in client key reads None = None
allowed_in client key reads (Some d) = fault_unless (BadValue client key) (reads d)

-- the fault of a key that has to be there, and of one that may be missing
abbrev pub needed : {X : Type 0} → ℕ → List ℕ → (Data → Option X) → Members → Option ConfigFault
needed client key reads t = needed_in client key reads (get_member key t)

abbrev pub allowed : {X : Type 0} → ℕ → List ℕ → (Data → Option X) → Members → Option ConfigFault
allowed client key reads t = allowed_in client key reads (get_member key t)

-- ---- keys that no settings have

abbrev pub keys_in : Members → List (List ℕ)
keys_in no_members = []
keys_in (member key d ms) = key ∷ keys_in ms

abbrev pub is_unknown : List (List ℕ) → List ℕ → Bool
is_unknown known key = not (list_any (bytes_eq key) known)

-- the earlier of two keys in the order of their octets
abbrev pub earlier : List ℕ → Option (List ℕ) → List ℕ
earlier k None = k
earlier k (Some l) = if is_lt (slice_cmp nat_cmp l k) then l else k

abbrev pub least : List (List ℕ) → Option (List ℕ)
least [] = None
least (k ∷ ks) = Some (earlier k (least ks))

abbrev pub first_unknown : List (List ℕ) → Members → Option (List ℕ)
first_unknown known t = least (filter (is_unknown known) (keys_in t))

abbrev pub unknown : ℕ → List (List ℕ) → Members → Option ConfigFault
unknown client known t = option_map (BadValue client) (first_unknown known t)

-- ---- the faults, in their order

abbrev pub top_keys : List (List ℕ)
top_keys =
    codes "host" ∷ codes "realm" ∷ codes "home_realm" ∷ codes "address" ∷ codes "boot" ∷ codes "retention_ms"
    ∷ codes "capacity" ∷ codes "backlog" ∷ codes "watchdog_ms" ∷ codes "patience_ms" ∷ codes "clients" ∷ []

abbrev pub client_keys : List (List ℕ)
client_keys =
    codes "name" ∷ codes "address" ∷ codes "secret" ∷ codes "origin_host" ∷ codes "origin_realm"
    ∷ codes "require_seal" ∷ codes "session_keys" ∷ codes "nas_addresses" ∷ []

-- those of the top table: its names and address, its numbers, its clients, and keys that no settings have
abbrev pub name_faults : Members → List (Option ConfigFault)
name_faults t =
    needed 0 (codes "host") name_of t
    ∷ needed 0 (codes "realm") name_of t
    ∷ allowed 0 (codes "home_realm") name_of t
    ∷ needed 0 (codes "address") address_of t
    ∷ []

abbrev pub number_faults : Members → List (Option ConfigFault)
number_faults t =
    allowed 0 (codes "boot") (number_of 0 4294967295) t
    ∷ allowed 0 (codes "retention_ms") (number_of 1000 300000) t
    ∷ allowed 0 (codes "capacity") (number_of 1 65536) t
    ∷ allowed 0 (codes "backlog") (number_of 2 65536) t
    ∷ allowed 0 (codes "watchdog_ms") (number_of 6000 600000) t
    ∷ allowed 0 (codes "patience_ms") (number_of 1000 300000) t
    ∷ []

unfoldable pub top_faults : Members → List (Option ConfigFault)
top_faults t =
    name_faults t ++ number_faults t
    ++ needed 0 (codes "clients") tables_of t
    ∷ unknown 0 top_keys t
    ∷ []

-- those of the client with this number, which is 1 for the first: who it is, the peer that it is in Diameter, what holds for
-- it, and keys that no client has
abbrev pub identity_faults : ℕ → Members → List (Option ConfigFault)
identity_faults client t =
    needed client (codes "name") name_of t
    ∷ needed client (codes "address") address_of t
    ∷ needed client (codes "secret") secret_of t
    ∷ []

abbrev pub origin_faults : ℕ → Members → List (Option ConfigFault)
origin_faults client t =
    needed client (codes "origin_host") name_of t
    ∷ needed client (codes "origin_realm") name_of t
    ∷ []

abbrev pub rule_faults : ℕ → Members → List (Option ConfigFault)
rule_faults client t =
    allowed client (codes "require_seal") as_bool t
    ∷ allowed client (codes "session_keys") keys_choice_of t
    ∷ allowed client (codes "nas_addresses") addresses_of t
    ∷ []

unfoldable pub client_faults : ℕ → Members → List (Option ConfigFault)
client_faults client t =
    identity_faults client t ++ origin_faults client t ++ rule_faults client t ++ unknown client client_keys t ∷ []

abbrev pub clients_faults : ℕ → List Members → List (Option ConfigFault)
clients_faults client [] = []
clients_faults client (t ∷ ts) = client_faults client t ++ clients_faults (client + 1) ts

abbrev pub or_first : Option ConfigFault → Option ConfigFault → Option ConfigFault
or_first None later = later
or_first (Some fault) later = Some fault

-- the first fault of a list
abbrev pub first : List (Option ConfigFault) → Option ConfigFault
first [] = None
first (fault ∷ faults) = or_first fault (first faults)

-- ---- the settings

unfoldable pub client_of : Members → Client
client_of t = record {
  name = unwrap_or (at (codes "name") name_of t) [];
  address = unwrap_or (at (codes "address") address_of t) 0;
  secret = unwrap_or (at (codes "secret") secret_of t) [];
  origin_host = unwrap_or (at (codes "origin_host") name_of t) [];
  origin_realm = unwrap_or (at (codes "origin_realm") name_of t) [];
  require_seal = unwrap_or (at (codes "require_seal") as_bool t) false;
  omit_keys = unwrap_or (at (codes "session_keys") keys_choice_of t) false;
  nas = unwrap_or (at (codes "nas_addresses") addresses_of t) [];
}

-- the tables among some items, where each is one
abbrev pub tables_in : Items → List Members
tables_in ds = unwrap_or (each as_table ds) []

-- the tables of the clients
abbrev pub client_tables : Members → List Members
client_tables t = unwrap_or (at (codes "clients") tables_of t) []

abbrev pub realm_of : Members → List ℕ
realm_of t = unwrap_or (at (codes "realm") name_of t) []

abbrev pub retention_of : Members → ℕ
retention_of t = unwrap_or (at (codes "retention_ms") (number_of 1000 300000) t) 30000

-- the settings but for the clients
unfoldable pub top_of : Members → Config
top_of t = record {
  host = unwrap_or (at (codes "host") name_of t) [];
  realm = realm_of t;
  home_realm = unwrap_or (at (codes "home_realm") name_of t) (realm_of t);
  address = unwrap_or (at (codes "address") address_of t) 0;
  boot = at (codes "boot") (number_of 0 4294967295) t;
  retention = retention_of t;
  patience = unwrap_or (at (codes "patience_ms") (number_of 1000 300000) t) (retention_of t);
  capacity = unwrap_or (at (codes "capacity") (number_of 1 65536) t) 4096;
  backlog = unwrap_or (at (codes "backlog") (number_of 2 65536) t) 4096;
  watchdog = unwrap_or (at (codes "watchdog_ms") (number_of 6000 600000) t) 30000;
  clients = [];
}

abbrev pub clients_of : Members → List Client
clients_of t = map client_of (client_tables t)

abbrev pub config_of : Members → Config
config_of t = record (top_of t) { clients = clients_of t }

-- all faults of a document, in their order
abbrev pub faults : Members → List (Option ConfigFault)
faults t = top_faults t ++ clients_faults 1 (client_tables t) ++ twice (clients_of t) ∷ []

abbrev pub config_unless : Option ConfigFault → Config → Result Config ConfigFault
config_unless None config = Ok config
config_unless (Some fault) config = Err fault

-- the settings of a document, or its first fault
abbrev pub settled : Members → Result Config ConfigFault
settled t = config_unless (first (faults t)) (config_of t)

-- the TOML document that a text is, where it is one in UTF-8
abbrev pub document : List ℕ → Option Members
document text = if is_utf8 text then parse_document text else None

-- the settings of a text, or its first fault
abbrev pub settings_in : List ℕ → Result Config ConfigFault
settings_in text = option_map_or settled (document text) (Err NotToml)

-- the settings of a text are in limits
abbrev pub SettingsAreInLimits : Type 0
SettingsAreInLimits = (text : List ℕ) (config : Config) → settings_in text ≡ Ok config → InLimits config
