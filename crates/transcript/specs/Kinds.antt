-- Which line of a transcript words are, by their count and their fixed words (profile). No words are of two kinds.
use Rattle.std.specs.Prelude.{ℕ, Bool, false, ◌==◌, ◌&&◌, ◌||◌, List, [], ◌∷◌, length, codes, Option, Some, None, if◌then◌else◌}
use Rattle.std.specs.Str.{bytes_eq}
use Rattle.radius_packet.specs.declared.reasons.Via.TheVariants.{Auth, Acct}
use Rattle.transcript.specs.declared.kind.EventName.{EventName}
use Rattle.transcript.specs.declared.kind.EventName.TheVariants.{Datagram, Link, Up, Ready, Down, Tick, Drain, Leave}
use Rattle.transcript.specs.declared.kind.Kind.{Kind}
use Rattle.transcript.specs.declared.kind.Kind.TheVariants.{Agent, Client, Event, Control}

-- MOMENT auth ADDRESS PORT HEX, MOMENT acct ADDRESS PORT HEX, MOMENT link HEX, or a MOMENT and one of the others
abbrev pub event_name : List ℕ → Option EventName
event_name word =
    if bytes_eq word (codes "auth") then Some (Datagram Auth)
    else if bytes_eq word (codes "acct") then Some (Datagram Acct)
    else if bytes_eq word (codes "link") then Some Link
    else if bytes_eq word (codes "up") then Some Up
    else if bytes_eq word (codes "ready") then Some Ready
    else if bytes_eq word (codes "down") then Some Down
    else if bytes_eq word (codes "tick") then Some Tick
    else if bytes_eq word (codes "drain") then Some Drain
    else if bytes_eq word (codes "leave") then Some Leave
    else None

abbrev pub words_behind : EventName → ℕ
words_behind (Datagram via) = 3
words_behind Link = 1
words_behind Up = 0
words_behind Ready = 0
words_behind Down = 0
words_behind Tick = 0
words_behind Drain = 0
words_behind Leave = 0

abbrev pub named_kind : Option EventName → ℕ → Option Kind
named_kind None behind = None
named_kind (Some name) behind = if behind == words_behind name then Some (Event name) else None

abbrev pub event_kind : List (List ℕ) → Option Kind
event_kind [] = None
event_kind (moment ∷ []) = None
event_kind (moment ∷ name ∷ words) = named_kind (event_name name) (length words)

-- MOMENT control ADDRESS PORT HEX
abbrev pub is_control : List (List ℕ) → Bool
is_control [] = false
is_control (moment ∷ []) = false
is_control (moment ∷ name ∷ words) = bytes_eq name (codes "control") && length words == 3

abbrev pub begins_with : List ℕ → List (List ℕ) → Bool
begins_with name [] = false
begins_with name (word ∷ words) = bytes_eq word name

-- agent HOST REALM HOME ADDRESS BOOT RETENTION CAPACITY BACKLOG WATCHDOG, and perhaps PATIENCE;
-- client NAME ADDRESS SECRET OHOST OREALM SEAL KEYS NAS; a control line; or an event
abbrev pub kind_of : List (List ℕ) → Option Kind
kind_of words =
    if (length words == 10 || length words == 11) && begins_with (codes "agent") words then Some Agent
    else if length words == 9 && begins_with (codes "client") words then Some Client
    else if is_control words then Some Control
    else event_kind words
