-- The grammar of a transcript's lines: what a line is, and what it says, apart from how it is read (profile).
use Rattle.std.specs.Prelude.{◌≡◌, ◌≢◌, ℕ, ◌<◌, ◌≤◌, ◌⊎◌, Bool, true, false, List, [], ◌∷◌, ◌++◌, length, map, codes, decimal, All, Some, Ok, Err, ◌↔◌}
use Rattle.std.specs.Char.{to_ascii_lowercase}
use Rattle.std.specs.List.{AllZip, join_with_byte}
use Rattle.std.specs.Net.Grammar.{IsDotted}
use Rattle.wire_core.specs.Counts.{one_more}
use Rattle.wire_core.specs.Numbers.{AreOctets, number}
use Rattle.hex.specs.Hex.{encode_lower}
use Rattle.radius_packet.specs.declared.reasons.Via.{Via}
use Rattle.agent_settings.specs.declared.client.Client.{Client}
use Rattle.agent_settings.specs.declared.config.Config.{Config}
use Rattle.agent_settings.specs.Config.{ClientInLimits, InLimits}
use Rattle.agent_events.specs.declared.events.Input.{Input}
use Rattle.agent_events.specs.declared.events.Input.TheVariants as input
use Rattle.printed_lines.specs.Text.{via_name}
use Rattle.transcript.specs.Inputs.{inputs_of, stream_after}
use Rattle.transcript.specs.Reading.{At, read_line}
use Rattle.transcript.specs.declared.control.Control.{Control}
use Rattle.transcript.specs.declared.happening.Happening.{Happening}
use Rattle.transcript.specs.declared.happening.Happening.TheVariants as happening
use Rattle.transcript.specs.declared.line.Line.{Line}
use Rattle.transcript.specs.declared.line.Line.TheVariants as line
use Rattle.transcript.specs.declared.position.Section.TheVariants.{Start, Settings, Events}

-- none of them is this one
abbrev pub Lacks : ℕ → List ℕ → Type 0
Lacks x xs = All (λ y. y ≢ x) xs

-- ---- words

-- a decimal number up to a limit, without leading zeros
abbrev pub IsNumber : ℕ → List ℕ → ℕ → Type 0
IsNumber limit word n = (word ≡ decimal n) × (n ≤ limit)

-- '-' for no octets; others as pairs of hex digits, of either case
abbrev pub IsHex : List ℕ → List ℕ → Type 0
IsHex word [] = word ≡ codes "-"
IsHex word (x ∷ xs) = AreOctets (x ∷ xs) × (map to_ascii_lowercase word ≡ encode_lower (x ∷ xs))

-- one of two words: the first stands for true, the second for false
abbrev pub IsChoice : List ℕ → List ℕ → List ℕ → Bool → Type 0
IsChoice on off word true = word ≡ on
IsChoice on off word false = word ≡ off

-- the octets of an IPv4 address in decimal, with dots between them
abbrev pub IsAddress : List ℕ → ℕ → Type 0
IsAddress word address = (octets : List ℕ) × IsDotted word octets × (address ≡ number octets)

-- '-' for no addresses; others with ',' between them
abbrev pub IsAddresses : List ℕ → List ℕ → Type 0
IsAddresses word [] = word ≡ codes "-"
IsAddresses word (a ∷ addresses) =
    (pieces : List (List ℕ)) × AllZip IsAddress pieces (a ∷ addresses) × (word ≡ join_with_byte 44 pieces)

-- one or more words without spaces, with one space between them
pub record IsLine (octets : List ℕ) (words : List (List ℕ)) : Type 0 where
  pub some : 1 ≤ length words
  pub spaceless : All (Lacks 32) words
  pub spelled : octets ≡ join_with_byte 32 words

-- ---- the words of a line

-- the patience, or no word: the patience is then the retention
abbrev pub IsPatience : List (List ℕ) → ℕ → ℕ → Type 0
IsPatience [] retention patience = patience ≡ retention
IsPatience (word ∷ []) retention patience = IsNumber 18446744073709551615 word patience
IsPatience (word ∷ next ∷ words) retention patience = ⊥

-- agent HOST REALM HOME ADDRESS BOOT RETENTION CAPACITY BACKLOG WATCHDOG PATIENCE: settings without clients
pub record IsAgent (words : List (List ℕ)) (config : Config) : Type 0 where
  pub address : List ℕ
  pub boot : List ℕ
  pub boot_number : ℕ
  pub retention : List ℕ
  pub capacity : List ℕ
  pub backlog : List ℕ
  pub watchdog : List ℕ
  pub patience : List (List ℕ)
  pub spelled : words
      ≡ codes "agent" ∷ config.host ∷ config.realm ∷ config.home_realm ∷ address ∷ boot ∷ retention ∷ capacity ∷ backlog
      ∷ watchdog ∷ patience
  pub is_address : IsAddress address config.address
  pub is_boot : IsNumber 4294967295 boot boot_number
  pub has_boot : config.boot ≡ Some boot_number
  pub is_retention : IsNumber 18446744073709551615 retention config.retention
  pub is_capacity : IsNumber 4294967295 capacity config.capacity
  pub is_backlog : IsNumber 4294967295 backlog config.backlog
  pub is_watchdog : IsNumber 18446744073709551615 watchdog config.watchdog
  pub is_patience : IsPatience patience config.retention config.patience
  pub no_clients : config.clients ≡ []
  pub limits : InLimits config

-- client NAME ADDRESS SECRET OHOST OREALM SEAL KEYS NAS
pub record IsClient (words : List (List ℕ)) (client : Client) : Type 0 where
  pub address : List ℕ
  pub secret : List ℕ
  pub seal : List ℕ
  pub keys : List ℕ
  pub nas : List ℕ
  pub spelled : words
      ≡ codes "client" ∷ client.name ∷ address ∷ secret ∷ client.origin_host ∷ client.origin_realm ∷ seal ∷ keys ∷ nas ∷ []
  pub is_address : IsAddress address client.address
  pub is_secret : IsHex secret client.secret
  pub is_seal : IsChoice (codes "seal") (codes "plain") seal client.require_seal
  pub is_keys : IsChoice (codes "omit") (codes "refuse") keys client.omit_keys
  pub is_nas : IsAddresses nas client.nas
  pub limits : ClientInLimits client

-- auth ADDRESS PORT HEX, or acct ADDRESS PORT HEX
pub record IsDatagram (words : List (List ℕ)) (via : Via) (address port : ℕ) (octets : List ℕ) : Type 0 where
  pub address_word : List ℕ
  pub port_word : List ℕ
  pub hex : List ℕ
  pub spelled : words ≡ via_name via ∷ address_word ∷ port_word ∷ hex ∷ []
  pub is_address : IsAddress address_word address
  pub is_port : IsNumber 65535 port_word port
  pub is_hex : IsHex hex octets

-- what stands behind a moment: messages and faults of the link come as its octets alone
abbrev pub IsHappening : List (List ℕ) → Happening → Type 0
IsHappening words (happening.Input (input.Datagram via address port octets)) = IsDatagram words via address port octets
IsHappening words (happening.Link octets) = (hex : List ℕ) × (words ≡ codes "link" ∷ hex ∷ []) × IsHex hex octets
IsHappening words (happening.Input input.Up) = words ≡ codes "up" ∷ []
IsHappening words (happening.Input input.Ready) = words ≡ codes "ready" ∷ []
IsHappening words (happening.Input input.Down) = words ≡ codes "down" ∷ []
IsHappening words (happening.Input input.Tick) = words ≡ codes "tick" ∷ []
IsHappening words (happening.Input input.Drain) = words ≡ codes "drain" ∷ []
IsHappening words (happening.Input input.Leave) = words ≡ codes "leave" ∷ []
IsHappening words (happening.Input (input.Message octets)) = ⊥
IsHappening words (happening.Input (input.Broken fault)) = ⊥

-- the moment, and what happened then
pub record IsEvent (words : List (List ℕ)) (moment : ℕ) (told : Happening) : Type 0 where
  pub word : List ℕ
  pub behind : List (List ℕ)
  pub spelled : words ≡ word ∷ behind
  pub is_moment : IsNumber 18446744073709551615 word moment
  pub is_told : IsHappening behind told

-- MOMENT control ADDRESS PORT HEX
pub record IsControl (words : List (List ℕ)) (told : Control) : Type 0 where
  pub moment : List ℕ
  pub address : List ℕ
  pub port : List ℕ
  pub hex : List ℕ
  pub spelled : words ≡ moment ∷ codes "control" ∷ address ∷ port ∷ hex ∷ []
  pub is_moment : IsNumber 18446744073709551615 moment told.moment
  pub is_address : IsAddress address told.address
  pub is_port : IsNumber 65535 port told.port
  pub is_hex : IsHex hex told.octets

-- ---- a line at its place

-- the agent line comes first
pub record SaysAgent (at : At) (words : List (List ℕ)) (number : ℕ) (config : Config) (next : At) : Type 0 where
  pub first : at.section ≡ Start
  pub is : IsAgent words config
  pub counts : number ≡ one_more at.lines
  pub goes_on : next ≡ (record at { section = Settings; lines = one_more at.lines })

-- client lines follow directly, at most 1,024, each with an address of its own
pub record SaysClient (at : At) (words : List (List ℕ)) (number : ℕ) (client : Client) (next : At) : Type 0 where
  pub follows : at.section ≡ Settings
  pub few : length at.addresses < 1024
  pub own : Lacks client.address at.addresses
  pub is : IsClient words client
  pub counts : number ≡ one_more at.lines
  pub goes_on : next ≡ (record at { addresses = at.addresses ++ client.address ∷ []; lines = one_more at.lines })

-- all further lines are events,
pub record SaysEvent (at : At) (words : List (List ℕ)) (number moment : ℕ) (inputs : List Input) (next : At) : Type 0 where
  pub further : at.section ≢ Start
  pub told : Happening
  pub is : IsEvent words moment told
  pub counts : number ≡ one_more at.lines
  pub gives : inputs ≡ inputs_of at.stream told
  pub goes_on : next ≡ (record at { section = Events; stream = stream_after at.stream told; lines = one_more at.lines })

-- or control lines where these may stand; the stream of the link goes on
pub record SaysControl (at : At) (words : List (List ℕ)) (number : ℕ) (told : Control) (next : At) : Type 0 where
  pub may_stand : at.controls ≡ true
  pub further : at.section ≢ Start
  pub is : IsControl words told
  pub counts : number ≡ one_more at.lines
  pub goes_on : next ≡ (record at { section = Events; lines = one_more at.lines })

abbrev pub SaysWords : At → List (List ℕ) → Line → At → Type 0
SaysWords at words (line.Agent number config) next = SaysAgent at words number config next
SaysWords at words (line.Client number client) next = SaysClient at words number client next
SaysWords at words (line.Event number moment inputs) next = SaysEvent at words number moment inputs next
SaysWords at words (line.Control number moment address port octets) next =
    SaysControl at words number (record { moment = moment; address = address; port = port; octets = octets }) next

-- the words of a line of at most 140,000 octets say this at its place, and the next line stands there
pub record Says (at : At) (octets : List ℕ) (said : Line) (next : At) : Type 0 where
  pub short : length octets ≤ 140000
  pub words : List (List ℕ)
  pub is_line : IsLine octets words
  pub says : SaysWords at words said next

-- the reader accepts exactly the lines of the grammar, and reads of each what it says
abbrev pub LinesHaveAGrammar : Type 0
LinesHaveAGrammar = (at : At) (octets : List ℕ) (said : Line) (next : At)
    → read_line at octets ≡ Ok (said, next) ↔ Says at octets said next

-- ---- why a line is bad

abbrev pub BeginsWith : List ℕ → List (List ℕ) → Type 0
BeginsWith name words = (behind : List (List ℕ)) × (words ≡ name ∷ behind)

-- the second word is one of these
abbrev pub IsNamed : List (List ℕ) → List (List ℕ) → Type 0
IsNamed [] words = ⊥
IsNamed (name ∷ names) words = ((first : List ℕ) × ((behind : List (List ℕ)) × (words ≡ first ∷ name ∷ behind))) ⊎ IsNamed names words

-- so many words as a line of this kind has, and its fixed words
abbrev pub IsAgentForm : List (List ℕ) → Type 0
IsAgentForm words = ((length words ≡ 10) ⊎ (length words ≡ 11)) × BeginsWith (codes "agent") words

abbrev pub IsClientForm : List (List ℕ) → Type 0
IsClientForm words = (length words ≡ 9) × BeginsWith (codes "client") words

abbrev pub IsEventForm : List (List ℕ) → Type 0
IsEventForm words =
    ((length words ≡ 5) × IsNamed (codes "auth" ∷ codes "acct" ∷ []) words)
    ⊎ ((length words ≡ 3) × IsNamed (codes "link" ∷ []) words)
    ⊎ ((length words ≡ 2)
    × IsNamed (codes "up" ∷ codes "ready" ∷ codes "down" ∷ codes "tick" ∷ codes "drain" ∷ codes "leave" ∷ []) words)

abbrev pub IsControlForm : List (List ℕ) → Type 0
IsControlForm words = (length words ≡ 5) × IsNamed (codes "control" ∷ []) words

-- a line of this count of words and with these fixed words may stand here
abbrev pub MayStand : At → List (List ℕ) → Type 0
MayStand at words =
    ((at.section ≡ Start) × IsAgentForm words)
    ⊎ ((at.section ≡ Settings) × (length at.addresses < 1024) × IsClientForm words)
    ⊎ ((at.section ≢ Start) × IsEventForm words)
    ⊎ ((at.section ≢ Start) × (at.controls ≡ true) × IsControlForm words)

-- each of its words is of its kind and within its limits
abbrev pub AreOfKinds : List (List ℕ) → Type 0
AreOfKinds words =
    ((config : Config) × IsAgent words config)
    ⊎ ((client : Client) × IsClient words client)
    ⊎ ((moment : ℕ) × ((told : Happening) × IsEvent words moment told))
    ⊎ ((told : Control) × IsControl words told)

-- a client's address came before
abbrev pub IsSecondClient : At → List (List ℕ) → Type 0
IsSecondClient at words = (client : Client) × IsClient words client × ¬ Lacks client.address at.addresses

-- 2, no line of this count of words and with these fixed words may stand here; 3, a word isn't of its kind or not within its
-- limits; 4, a client's address came before
abbrev pub AreBadFor : At → List (List ℕ) → ℕ → Type 0
AreBadFor at words reason =
    ((reason ≡ 2) × ¬ MayStand at words)
    ⊎ ((reason ≡ 3) × MayStand at words × ¬ AreOfKinds words)
    ⊎ ((reason ≡ 4) × MayStand at words × IsSecondClient at words)

-- 1, the line has more than 140,000 octets; or its words are bad
abbrev pub IsBadFor : At → List ℕ → ℕ → Type 0
IsBadFor at octets reason =
    ((reason ≡ 1) × (140000 < length octets))
    ⊎ ((length octets ≤ 140000) × ((words : List (List ℕ)) × IsLine octets words × AreBadFor at words reason))

-- the reader refuses exactly these lines, and each for its reason
abbrev pub LinesAreBadForAReason : Type 0
LinesAreBadForAReason = (at : At) (octets : List ℕ) (reason : ℕ) → read_line at octets ≡ Err reason ↔ IsBadFor at octets reason
