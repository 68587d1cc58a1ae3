-- What is shown of a line `radius HEX` or `diameter HEX` (profile).
use Rattle.std.specs.Prelude.{◌≡◌, ℕ, nat_lt, List, [], ◌∷◌, ◌++◌, length, codes, decimal, Option, Some, None, unwrap_or, Result, Ok, Err, if◌then◌else◌}
use Rattle.std.specs.List.{flat_map}
use Rattle.std.specs.Str.{bytes_eq}
use Rattle.radius_packet.specs.declared.fault.PacketFault.{PacketFault}
use Rattle.radius_packet.specs.declared.fault.PacketFault.TheVariants as packet
use Rattle.radius_packet.specs.Packet.{AttributeParts, PacketParts, packet_text, read_packet}
use Rattle.diameter_avp.specs.declared.fault.AvpFault.{AvpFault}
use Rattle.diameter_avp.specs.declared.fault.AvpFault.TheVariants as avp
use Rattle.diameter_avp.specs.Avps.{AvpParts, avp_items}
use Rattle.diameter_message.specs.declared.header.Header.{Header}
use Rattle.diameter_message.specs.declared.fault.MessageFault.{MessageFault}
use Rattle.diameter_message.specs.declared.fault.MessageFault.TheVariants as message
use Rattle.diameter_message.specs.Message.{MessageParts, read_message}
use Rattle.printed_lines.specs.Text.{hex_text, line_text}
use Rattle.text_lines.specs.Words.{hex_word, words_of}
use Rattle.printed_lines.specs.declared.showing.Protocol.{Protocol}
use Rattle.printed_lines.specs.declared.showing.Protocol.TheVariants.{Radius, Diameter}
use Rattle.printed_lines.specs.declared.showing.ShowFault.{ShowFault}
use Rattle.printed_lines.specs.declared.showing.ShowFault.TheVariants.{Bad, NoMemory}

-- the line of a fault: its number, its name and, where it has one, its place
abbrev pub fault_line : ℕ → List ℕ → List (List ℕ) → List ℕ
fault_line number name place = line_text (codes "fault" ∷ decimal number ∷ name ∷ place)

-- ---- RADIUS packets

abbrev pub packet_fault_line : PacketFault → List ℕ
packet_fault_line packet.Short = fault_line 1 (codes "Short") []
packet_fault_line packet.BadLength = fault_line 2 (codes "BadLength") []
packet_fault_line (packet.BadAttribute place) = fault_line 3 (codes "BadAttribute") (decimal place ∷ [])

-- radius CODE ID LENGTH
abbrev pub packet_line : PacketParts → List ℕ
packet_line p = line_text (codes "radius" ∷ decimal p.code ∷ decimal p.id ∷ decimal (length (packet_text p)) ∷ [])

-- attribute TYPE HEX
abbrev pub attribute_line : AttributeParts → List ℕ
attribute_line a = line_text (codes "attribute" ∷ decimal a.code ∷ hex_text a.value ∷ [])

abbrev pub shown_packet : Result PacketParts PacketFault → List ℕ
shown_packet (Ok p) = packet_line p ++ flat_map attribute_line p.attributes
shown_packet (Err fault) = packet_fault_line fault

-- ---- Diameter messages

abbrev pub message_fault_line : MessageFault → List ℕ
message_fault_line message.Short = fault_line 1 (codes "Short") []
message_fault_line message.BadVersion = fault_line 2 (codes "BadVersion") []
message_fault_line message.BadLength = fault_line 3 (codes "BadLength") []

-- diameter FLAGS COMMAND APPLICATION HOP END
abbrev pub header_line : Header → List ℕ
header_line h = line_text (codes "diameter" ∷ hex_text (h.flags ∷ []) ∷ decimal h.command ∷ decimal h.application
    ∷ decimal h.hop ∷ decimal h.end ∷ [])

-- the place counts from the beginning of the list of AVPs
abbrev pub avp_fault_line : AvpFault → List ℕ
avp_fault_line (avp.Short place) = fault_line 1 (codes "Short") (decimal place ∷ [])
avp_fault_line (avp.BadLength place) = fault_line 2 (codes "BadLength") (decimal place ∷ [])

-- avp CODE FLAGS VENDOR HEX, with vendor 0 where the V flag is clear
abbrev pub avp_line : AvpParts → List ℕ
avp_line a = line_text (codes "avp" ∷ decimal a.code ∷ hex_text (a.flags ∷ []) ∷ decimal (unwrap_or a.vendor 0) ∷ hex_text a.body ∷ [])

abbrev pub item_line : Result AvpParts AvpFault → List ℕ
item_line (Ok a) = avp_line a
item_line (Err fault) = avp_fault_line fault

-- each AVP up to the first fault, and then that fault
abbrev pub shown_message : Result MessageParts MessageFault → List ℕ
shown_message (Ok m) = header_line m.header ++ flat_map item_line (avp_items m.avps)
shown_message (Err fault) = message_fault_line fault

-- ---- lines

-- by the first word
abbrev pub protocol_of : List ℕ → Option Protocol
protocol_of name =
    if bytes_eq name (codes "radius") then Some Radius
    else if bytes_eq name (codes "diameter") then Some Diameter
    else None

-- what octets show, whether they can be read or not
abbrev pub shown : Protocol → List ℕ → List ℕ
shown Radius octets = shown_packet (read_packet octets)
shown Diameter octets = shown_message (read_message octets)

-- reason 3: the second word isn't octets in hex
abbrev pub show_hex : Protocol → Option (List ℕ) → Result (List ℕ) ℕ
show_hex protocol (Some octets) = Ok (shown protocol octets)
show_hex protocol None = Err 3

-- reason 2: the first word is neither name, or there aren't two words
abbrev pub show_named : Option Protocol → List ℕ → Result (List ℕ) ℕ
show_named (Some protocol) hex = show_hex protocol (hex_word hex)
show_named None hex = Err 2

abbrev pub show_words : List (List ℕ) → Result (List ℕ) ℕ
show_words (name ∷ hex ∷ []) = show_named (protocol_of name) hex
show_words words = Err 2

-- What a line shows, or the first reason for which it may not stand. Reason 1: it has more than 140,000 octets.
abbrev pub show_line : List ℕ → Result (List ℕ) ℕ
show_line line = if nat_lt 140000 (length line) then Err 1 else show_words (words_of line)

-- exactly that, but for want of memory
abbrev pub Shows : Result (List ℕ) ShowFault → Result (List ℕ) ℕ → Type 0
Shows (Ok text) said = said ≡ Ok text
Shows (Err (Bad reason)) said = said ≡ Err reason
Shows (Err NoMemory) said = Unit {0}
