-- The lines of a script: settings, and then what comes from the home side and from the RADIUS server (profile).
use Rattle.std.specs.Prelude.{ℕ, Bool, true, false, nat_le, nat_lt, not, ◌==◌, ◌&&◌, List, [], ◌∷◌, length, codes, Option, Some, None, Result, Ok, Err, if◌then◌else◌}
use Rattle.std.specs.Str.{bytes_eq}
use Rattle.address_text.specs.Address.{address_in}
use Rattle.agent_settings.specs.Config.{is_between, is_name}
use Rattle.text_lines.specs.Words.{◌>>=◌, hex_word, number_word, words_of}
use Rattle.reverse_map.specs.declared.own.Reverse.{Reverse}
use Rattle.reverse_core.specs.Places.{ReverseEvent}
use Rattle.reverse_core.specs.declared.events.ReverseInput.{ReverseInput}
use Rattle.reverse_core.specs.declared.events.ReverseInput.TheVariants as input
use Rattle.reverse_script.specs.declared.kind.EventName.{EventName}
use Rattle.reverse_script.specs.declared.kind.EventName.TheVariants.{Request, Reply, Tick}
use Rattle.reverse_script.specs.declared.kind.Kind.{Kind}
use Rattle.reverse_script.specs.declared.kind.Kind.TheVariants.{Own, Event}

-- ---- which line words are, by their count and their fixed words

abbrev pub event_name : List ℕ → Option EventName
event_name word =
    if bytes_eq word (codes "request") then Some Request
    else if bytes_eq word (codes "reply") then Some Reply
    else if bytes_eq word (codes "tick") then Some Tick
    else None

abbrev pub words_behind : EventName → ℕ
words_behind Request = 2
words_behind Reply = 1
words_behind Tick = 0

abbrev pub named_kind : Option EventName → ℕ → Option Kind
named_kind None behind = None
named_kind (Some name) behind = if behind == words_behind name then Some (Event name) else None

-- MOMENT request HEX HEX, MOMENT reply HEX, MOMENT tick
abbrev pub event_kind : List (List ℕ) → Option Kind
event_kind [] = None
event_kind (moment ∷ []) = None
event_kind (moment ∷ name ∷ words) = named_kind (event_name name) (length words)

abbrev pub begins_with : List ℕ → List (List ℕ) → Bool
begins_with name [] = false
begins_with name (word ∷ words) = bytes_eq word name

-- reverse HOST REALM SERVER PORT SECRET RETENTION, or an event
abbrev pub kind_of : List (List ℕ) → Option Kind
kind_of words =
    if length words == 7 && begins_with (codes "reverse") words then Some Own else event_kind words

-- ---- what the words tell, each of its kind and within its limits

-- names of at most 64 octets, a secret of 1 to 128 octets, a retention of 1 to 300 seconds
abbrev pub is_own_in_limits : Reverse → Bool
is_own_in_limits own =
    is_name own.host && is_name own.realm && is_between 1 128 (length own.secret) && is_between 1000 300000 own.retention

abbrev pub own_in_limits : Reverse → Option Reverse
own_in_limits own = if is_own_in_limits own then Some own else None

abbrev pub own_by : (host realm server port secret retention : List ℕ) → Option Reverse
own_by host realm server port secret retention = do
  server ← address_in server
  port ← number_word 65535 port
  secret ← hex_word secret
  retention ← number_word 18446744073709551615 retention
  own_in_limits (record { host = host; realm = realm; server = server; port = port; secret = secret; retention = retention })

abbrev pub own_of : List (List ℕ) → Option Reverse
own_of (line ∷ host ∷ realm ∷ server ∷ port ∷ secret ∷ retention ∷ more) = own_by host realm server port secret retention
own_of words = None

-- sixteen octets
abbrev pub random_word : List ℕ → Option (List ℕ)
random_word word = do
  octets ← hex_word word
  if length octets == 16 then Some octets else None

-- a message, of at most 65,536 octets
abbrev pub message_word : List ℕ → Option (List ℕ)
message_word word = do
  octets ← hex_word word
  if nat_le (length octets) 65536 then Some octets else None

-- the message and sixteen random octets
abbrev pub request_of : List (List ℕ) → Option ReverseInput
request_of (message ∷ random ∷ []) = do
  octets ← message_word message
  random ← random_word random
  Some (input.Request octets random)
request_of words = None

abbrev pub reply_of : List (List ℕ) → Option ReverseInput
reply_of (packet ∷ []) = do
  octets ← hex_word packet
  Some (input.Reply octets)
reply_of words = None

-- what stands behind the name
abbrev pub input_of : EventName → List (List ℕ) → Option ReverseInput
input_of Request words = request_of words
input_of Reply words = reply_of words
input_of Tick words = Some input.Tick

-- the moment, and what came in then
abbrev pub event_of : EventName → List (List ℕ) → Option (ℕ × ReverseInput)
event_of name (moment ∷ word ∷ words) = do
  moment ← number_word 18446744073709551615 moment
  told ← input_of name words
  Some (moment, told)
event_of name words = None

-- ---- one line

-- what a line says
pub data Said : Type 0 where
  Tells : Reverse → Said
  Comes : ReverseEvent → Said

-- the settings come first, and once
abbrev pub may_stand : Bool → Kind → Bool
may_stand begun Own = not begun
may_stand begun (Event name) = begun

-- 3: a word isn't of its kind or not within its limits
abbrev pub told_own : Option Reverse → Result Said ℕ
told_own None = Err 3
told_own (Some own) = Ok (Tells own)

abbrev pub told_event : Option (ℕ × ReverseInput) → Result Said ℕ
told_event None = Err 3
told_event (Some told) = Ok (Comes (record { moment = told.0; input = told.1 }))

abbrev pub told_by : Kind → List (List ℕ) → Result Said ℕ
told_by Own words = told_own (own_of words)
told_by (Event name) words = told_event (event_of name words)

-- 2: the count of words and the fixed words are those of no line that may stand there
abbrev pub read_words : Bool → Option Kind → List (List ℕ) → Result Said ℕ
read_words begun None words = Err 2
read_words begun (Some kind) words = if may_stand begun kind then told_by kind words else Err 2

-- What a line says, behind the settings or before them, or the reason why it is bad. 1: it has more than 140,000 octets.
abbrev pub read_line : Bool → List ℕ → Result Said ℕ
read_line begun line =
    if nat_lt 140000 (length line) then Err 1 else read_words begun (kind_of (words_of line)) (words_of line)
