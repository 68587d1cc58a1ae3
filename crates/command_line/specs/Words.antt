-- The words of commands (profile).
use Rattle.std.specs.Prelude.{ℕ, ◌^◌, ◌≤◌, ◌==◌, nat_le, Bool, true, false, List, [], ◌∷◌, Option, Some, None, String, string_bytes, bytes_eq, codes, option_map, if◌then◌else◌}
use Rattle.std.specs.declared.alloc.Global.{Global}
use Rattle.address_text.specs.Address.{address_in}
use Rattle.text_lines.specs.Words.{◌>>=◌, number_word}
use Rattle.command_line.specs.declared.command.Places.{Places}
use Rattle.command_line.specs.declared.command.Places.TheVariants as places
use Rattle.command_line.specs.declared.command.Places.TheVariants.{Record}
use Rattle.command_line.specs.declared.command.TextCommand.{TextCommand}
use Rattle.command_line.specs.declared.command.TextCommand.TheVariants.{Replay, Trace, Count, Dynamic, Reverse, Check, Show, Generate, Measure}
use Rattle.command_line.specs.declared.command.Command.{Command}
use Rattle.command_line.specs.declared.command.Command.TheVariants.{Text, Run}

-- ---- from text to text

-- one word
abbrev pub plain_command : List ℕ → Option TextCommand
plain_command word =
    if bytes_eq word (codes "replay") then Some Replay
    else if bytes_eq word (codes "trace") then Some Trace
    else if bytes_eq word (codes "dynamic") then Some Dynamic
    else if bytes_eq word (codes "reverse") then Some Reverse
    else if bytes_eq word (codes "check") then Some Check
    else if bytes_eq word (codes "show") then Some Show
    else None

-- the time between blocks of counters: a second to a day
abbrev pub span_word : List ℕ → Option ℕ
span_word word = number_word 86400000 word >>= (λ millis. if nat_le 1000 millis then Some millis else None)

-- a word and a time
abbrev pub counting_command : List ℕ → List ℕ → Option TextCommand
counting_command word millis = do
  millis ← span_word millis
  if bytes_eq word (codes "count") then Some (Count millis) else None

-- how many logins: 1 to 1,000,000
abbrev pub count_word : List ℕ → Option ℕ
count_word word = number_word 1000000 word >>= (λ count. if count == 0 then None else Some count)

-- a word and two numbers
abbrev pub command_with : List ℕ → ℕ → ℕ → Option TextCommand
command_with word count seed =
    if bytes_eq word (codes "generate") then Some (Generate count seed)
    else if bytes_eq word (codes "measure") then Some (Measure count seed)
    else None

abbrev pub sized_command : List ℕ → List ℕ → List ℕ → Option TextCommand
sized_command word count seed = do
  count ← count_word count
  seed ← number_word 4294967295 seed
  command_with word count seed

-- ---- over sockets

-- 1 to 65535
abbrev pub port_word : List ℕ → Option ℕ
port_word word = number_word 65535 word >>= (λ port. if port == 0 then None else Some port)

-- at most 2^63
abbrev pub millis_word : List ℕ → Option ℕ
millis_word word = number_word (2 ^ 63) word

abbrev pub peer_at : List ℕ → ℕ → ℕ → ℕ → Option Command
peer_at word address port millis =
    if bytes_eq word (codes "home") then Some (Run (places.Home address port) millis)
    else if bytes_eq word (codes "nas") then Some (Run (places.Nas address port) millis)
    else None

abbrev pub peer_command : List ℕ → List ℕ → List ℕ → List ℕ → Option Command
peer_command word address port millis = do
  address ← address_in address
  port ← port_word port
  millis ← millis_word millis
  peer_at word address port millis

abbrev pub server_at : List ℕ → ℕ → ℕ → ℕ → ℕ → ℕ → Option Places
server_at word address auth acct peer port =
    if bytes_eq word (codes "serve") then Some (places.Serve address auth acct peer port)
    else if bytes_eq word (codes "record") then Some (places.Record address auth acct peer port)
    else None

abbrev pub server_command : List ℕ → List ℕ → List ℕ → List ℕ → List ℕ → List ℕ → List ℕ → Option Command
server_command word address auth acct peer port millis = do
  address ← address_in address
  auth ← port_word auth
  acct ← port_word acct
  peer ← address_in peer
  port ← port_word port
  millis ← millis_word millis
  at ← server_at word address auth acct peer port
  Some (Run at millis)

-- ---- all words

-- replay, trace, dynamic, reverse, check, show, count MILLIS, generate COUNT SEED, measure COUNT SEED, home ADDRESS PORT MILLIS,
-- nas ADDRESS PORT MILLIS, or serve or record ADDRESS AUTH ACCT PEER PEERPORT MILLIS
abbrev pub parsed_command : List (String Global) → Option Command
parsed_command (word ∷ []) = option_map (λ c. Text c) (plain_command (string_bytes word))
parsed_command (word ∷ millis ∷ []) = option_map (λ c. Text c) (counting_command (string_bytes word) (string_bytes millis))
parsed_command (word ∷ count ∷ seed ∷ []) =
    option_map (λ c. Text c) (sized_command (string_bytes word) (string_bytes count) (string_bytes seed))
parsed_command (word ∷ address ∷ port ∷ millis ∷ []) =
    peer_command (string_bytes word) (string_bytes address) (string_bytes port) (string_bytes millis)
parsed_command (word ∷ address ∷ auth ∷ acct ∷ peer ∷ port ∷ millis ∷ []) =
    server_command (string_bytes word) (string_bytes address) (string_bytes auth) (string_bytes acct) (string_bytes peer) (string_bytes port) (string_bytes millis)
parsed_command words = None

-- the places of the sockets that a command wants
abbrev pub places_of : Option Command → Option Places
places_of None = None
places_of (Some (Text command)) = None
places_of (Some (Run at millis)) = Some at

-- whether a command records a run
abbrev pub is_recorded : Option Command → Bool
is_recorded (Some (Run (Record address auth acct peer port) millis)) = true
is_recorded command = false

-- ---- what a command asks for

-- so many logins can be generated
pub record CanGenerate (count : ℕ) : Type 0 where
  pub some : 1 ≤ count
  pub few : count ≤ 1000000

abbrev pub IsSized : TextCommand → Type 0
IsSized Replay = Unit {0}
IsSized Trace = Unit {0}
IsSized (Count millis) = Unit {0}
IsSized Dynamic = Unit {0}
IsSized Reverse = Unit {0}
IsSized Check = Unit {0}
IsSized Show = Unit {0}
IsSized (Generate count seed) = CanGenerate count
IsSized (Measure count seed) = CanGenerate count

abbrev pub IsSizedCommand : Command → Type 0
IsSizedCommand (Text command) = IsSized command
IsSizedCommand (Run at millis) = Unit {0}
