-- The packet that a line of the client's input names, or what is wrong with the line (profile).
use Rattle.std.specs.Prelude.{◌≡◌, ℕ, nat_lt, if◌then◌else◌, List, [], ◌∷◌, length, Option, Some, None, Result, Ok, Err, ⊤}
use Rattle.std.specs.Result.{is_ok}
use Rattle.radius_packet.specs.Packet.{read_packet}
use Rattle.test_peers.specs.declared.packet_lines.LineFault.{LineFault}
use Rattle.test_peers.specs.declared.packet_lines.LineFault.TheVariants.{Bad, NoMemory}
use Rattle.test_peers.specs.Lines.{words_of}
use Rattle.test_peers.specs.Users.{hex_word}

-- the word of a line that has one
abbrev pub one_of : List (List ℕ) → Option (List ℕ)
one_of [] = None
one_of (word ∷ []) = Some word
one_of (word ∷ next ∷ words) = None

-- reason 3: the word isn't HEX, or its octets are no packet
abbrev pub packet_of : Option (List ℕ) → Result (List ℕ) ℕ
packet_of None = Err 3
packet_of (Some octets) = if is_ok (read_packet octets) then Ok octets else Err 3

-- reason 2: there isn't one word
abbrev pub packet_word : Option (List ℕ) → Result (List ℕ) ℕ
packet_word None = Err 2
packet_word (Some word) = packet_of (hex_word word)

-- reason 1: the line is too long
abbrev pub packet_in : List ℕ → Result (List ℕ) ℕ
packet_in line = if nat_lt 140000 (length line) then Err 1 else packet_word (one_of (words_of line))

-- exactly what is read, but for want of memory
abbrev pub ReadsPacket : Result (List ℕ) LineFault → Result (List ℕ) ℕ → Type 0
ReadsPacket (Ok octets) read = read ≡ Ok octets
ReadsPacket (Err (Bad reason)) read = read ≡ Err reason
ReadsPacket (Err NoMemory) read = ⊤
