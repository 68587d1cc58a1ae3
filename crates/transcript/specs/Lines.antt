-- What the words of a transcript's lines tell, each of its kind and within its limits (profile).
use Rattle.std.specs.Prelude.{ℕ, List, [], ◌∷◌, codes, Option, Some, None, if◌then◌else◌}
use Rattle.radius_packet.specs.declared.reasons.Via.{Via}
use Rattle.agent_settings.specs.declared.client.Client.{Client}
use Rattle.agent_settings.specs.declared.config.Config.{Config}
use Rattle.agent_settings.specs.Config.{are_settings_in_limits, is_client_in_limits}
use Rattle.address_text.specs.Address.{address_in}
use Rattle.agent_events.specs.declared.events.Input.TheVariants as input
use Rattle.text_lines.specs.Words.{◌>>=◌, number_word, hex_word, choice_word, addresses_word}
use Rattle.transcript.specs.declared.control.Control.{Control}
use Rattle.transcript.specs.declared.kind.EventName.{EventName}
use Rattle.transcript.specs.declared.kind.EventName.TheVariants.{Datagram, Link, Up, Ready, Down, Tick, Drain, Leave}
use Rattle.transcript.specs.declared.happening.Happening.{Happening}
use Rattle.transcript.specs.declared.happening.Happening.TheVariants as happening

-- ---- agent HOST REALM HOME ADDRESS BOOT RETENTION CAPACITY BACKLOG WATCHDOG PATIENCE

-- the last word may be missing: the patience is then the retention
abbrev pub patience_of : ℕ → Option (List ℕ) → Option ℕ
patience_of retention None = Some retention
patience_of retention (Some patience) = number_word 18446744073709551615 patience

abbrev pub in_limits : Config → Option Config
in_limits config = if are_settings_in_limits config then Some config else None

-- the settings, still without clients
abbrev pub settings_by : (host realm home address boot retention capacity backlog watchdog : List ℕ) → Option (List ℕ) → Option Config
settings_by host realm home address boot retention capacity backlog watchdog patience = do
  address ← address_in address
  boot ← number_word 4294967295 boot
  retention ← number_word 18446744073709551615 retention
  capacity ← number_word 4294967295 capacity
  backlog ← number_word 4294967295 backlog
  watchdog ← number_word 18446744073709551615 watchdog
  patience ← patience_of retention patience
  in_limits (record {
    host = host;
    realm = realm;
    home_realm = home;
    address = address;
    boot = Some boot;
    retention = retention;
    patience = patience;
    capacity = capacity;
    backlog = backlog;
    watchdog = watchdog;
    clients = [];
  })

abbrev pub first_of : List (List ℕ) → Option (List ℕ)
first_of [] = None
first_of (word ∷ words) = Some word

abbrev pub settings_of : List (List ℕ) → Option Config
settings_of (line ∷ host ∷ realm ∷ home ∷ address ∷ boot ∷ retention ∷ capacity ∷ backlog ∷ watchdog ∷ more) =
    settings_by host realm home address boot retention capacity backlog watchdog (first_of more)
settings_of words = None

-- ---- client NAME ADDRESS SECRET OHOST OREALM SEAL KEYS NAS

abbrev pub client_in_limits : Client → Option Client
client_in_limits client = if is_client_in_limits client then Some client else None

abbrev pub client_by : (name address secret host realm seal keys nas : List ℕ) → Option Client
client_by name address secret host realm seal keys nas = do
  address ← address_in address
  secret ← hex_word secret
  require_seal ← choice_word (codes "seal") (codes "plain") seal
  omit_keys ← choice_word (codes "omit") (codes "refuse") keys
  nas ← addresses_word nas
  client_in_limits (record {
    name = name;
    address = address;
    secret = secret;
    origin_host = host;
    origin_realm = realm;
    require_seal = require_seal;
    omit_keys = omit_keys;
    nas = nas;
  })

abbrev pub client_of : List (List ℕ) → Option Client
client_of (line ∷ name ∷ address ∷ secret ∷ host ∷ realm ∷ seal ∷ keys ∷ nas ∷ []) =
    client_by name address secret host realm seal keys nas
client_of words = None

-- ---- events

-- ADDRESS PORT HEX
abbrev pub datagram_of : Via → List (List ℕ) → Option Happening
datagram_of via (address ∷ port ∷ hex ∷ []) = do
  address ← address_in address
  port ← number_word 65535 port
  octets ← hex_word hex
  Some (happening.Input (input.Datagram via address port octets))
datagram_of via words = None

-- HEX
abbrev pub link_of : List (List ℕ) → Option Happening
link_of (hex ∷ []) = do
  octets ← hex_word hex
  Some (happening.Link octets)
link_of words = None

-- what stands behind the name
abbrev pub happening_of : EventName → List (List ℕ) → Option Happening
happening_of (Datagram via) words = datagram_of via words
happening_of Link words = link_of words
happening_of Up words = Some (happening.Input input.Up)
happening_of Ready words = Some (happening.Input input.Ready)
happening_of Down words = Some (happening.Input input.Down)
happening_of Tick words = Some (happening.Input input.Tick)
happening_of Drain words = Some (happening.Input input.Drain)
happening_of Leave words = Some (happening.Input input.Leave)

-- the moment, and what happened then
abbrev pub event_of : EventName → List (List ℕ) → Option (ℕ × Happening)
event_of name (moment ∷ word ∷ words) = do
  moment ← number_word 18446744073709551615 moment
  told ← happening_of name words
  Some (moment, told)
event_of name words = None

-- ---- MOMENT control ADDRESS PORT HEX

abbrev pub control_of : List (List ℕ) → Option Control
control_of (moment ∷ word ∷ address ∷ port ∷ hex ∷ []) = do
  moment ← number_word 18446744073709551615 moment
  address ← address_in address
  port ← number_word 65535 port
  octets ← hex_word hex
  Some (record { moment = moment; address = address; port = port; octets = octets })
control_of words = None
