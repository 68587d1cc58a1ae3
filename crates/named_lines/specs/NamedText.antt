-- What stands in packets and messages, in the names of the RFCs (profile).
use Rattle.std.specs.Prelude.{ℕ, zero, suc, ◌+◌, Bool, ◌==◌, ◌||◌, nat_le, nat_lt, List, [], ◌∷◌, ◌++◌, length, replicate, codes, decimal, Option, Some, None, Result, Ok, Err, if◌then◌else◌}
use Rattle.std.specs.List.{flat_map}
use Rattle.hex.specs.Hex.{encode_lower}
use Rattle.wire_core.specs.Numbers.{u32}
use Rattle.radius_packet.specs.declared.fault.PacketFault.{PacketFault}
use Rattle.radius_packet.specs.declared.reasons.Reason.{Reason}
use Rattle.radius_packet.specs.declared.reasons.Reason.TheVariants.{BadValue}
use Rattle.radius_packet.specs.Packet.{AttributeParts, PacketParts, packet_text, read_packet}
use Rattle.diameter_avp.specs.declared.fault.AvpFault.{AvpFault}
use Rattle.diameter_avp.specs.Avps.{AvpParts, avp_items}
use Rattle.diameter_message.specs.declared.header.Header.{Header}
use Rattle.diameter_message.specs.declared.fault.MessageFault.{MessageFault}
use Rattle.diameter_message.specs.Message.{MessageParts, read_message}
use Rattle.attribute_table.specs.Known.{is_key}
use Rattle.attribute_table.specs.Vendors.{VendorPart, vendor_parts}
use Rattle.agent_events.specs.declared.events.Input.{Input}
use Rattle.agent_events.specs.declared.events.Input.TheVariants.{Datagram, Up, Ready, Message, Broken, Down, Tick, Drain, Leave}
use Rattle.agent_events.specs.declared.events.Output.{Output}
use Rattle.agent_events.specs.declared.events.Output.TheVariants.{Reply, Send, Dropped, Closed}
use Rattle.names.specs.declared.avps.Kind.{Kind}
use Rattle.names.specs.declared.avps.Kind.TheVariants.{Text, Number, Group}
use Rattle.names.specs.Names.{avp_named, command_named, packet_named}
use Rattle.printed_lines.specs.Show.{avp_fault_line, message_fault_line, packet_fault_line}
use Rattle.printed_lines.specs.Text.{address_text, fault_name, output_line, reason_name, via_name}
use Rattle.named_lines.specs.Values.{in_hex, value_text}

-- NAME = VALUE, behind so many spaces
abbrev pub line : ℕ → List ℕ → List ℕ → List ℕ
line indent name value = replicate indent 32 ++ name ++ codes " = " ++ value ++ 10 ∷ []

-- the name of what a vendor has defined: of a part of an attribute, and of an AVP
unfoldable pub part_name : ℕ → ℕ → List ℕ
part_name vendor code = codes "Vendor-" ++ decimal vendor ++ codes "-Attr-" ++ decimal code

unfoldable pub vendor_name : ℕ → ℕ → List ℕ
vendor_name vendor code = codes "Vendor-" ++ decimal vendor ++ codes "-AVP-" ++ decimal code

-- of a vendor's value nobody is to read a key
abbrev pub vendor_value : ℕ → ℕ → List ℕ → List ℕ
vendor_value vendor code body = if is_key code (Some vendor) then codes "hidden" else in_hex body

-- ---- attributes of RADIUS

abbrev pub indent_of_attributes : ℕ
indent_of_attributes = 4

-- a part of a Vendor-Specific attribute
abbrev pub part_line : VendorPart → List ℕ
part_line p = line indent_of_attributes (part_name p.vendor p.code) (vendor_value p.vendor p.code p.body)

abbrev pub vendor_lines : Option (List VendorPart) → List ℕ → List ℕ
vendor_lines (Some parts) value = flat_map part_line parts
vendor_lines None value = line indent_of_attributes (codes "Vendor-Specific") (in_hex value)

-- the attributes whose value a tag stands before (RFC 2868, section 3)
abbrev pub is_tagged : ℕ → Bool
is_tagged code = code == 64 || code == 65 || code == 66 || code == 67 || code == 81 || code == 82 || code == 83 || code == 90 || code == 91

-- the tag, and the value without it: a number has three octets behind its tag, and a tag of a text is up to 31
abbrev pub tag_of : Kind → List ℕ → Option ℕ
tag_of Number (tag ∷ a ∷ b ∷ c ∷ []) = Some tag
tag_of Text (tag ∷ text) = if nat_le tag 31 then Some tag else None
tag_of kind value = None

abbrev pub behind_tag : Kind → List ℕ → List ℕ
behind_tag Number (tag ∷ a ∷ b ∷ c ∷ []) = 0 ∷ a ∷ b ∷ c ∷ []
behind_tag Text (tag ∷ text) = if nat_le tag 31 then text else tag ∷ text
behind_tag kind value = value

-- NAME:TAG
abbrev pub with_tag : List ℕ → Option ℕ → List ℕ
with_tag name (Some tag) = name ++ 58 ∷ decimal tag
with_tag name None = name

abbrev pub tagged_line : ℕ → List ℕ → Kind → List ℕ → List ℕ
tagged_line code name kind value = line indent_of_attributes (with_tag name (tag_of kind value)) (value_text code kind (behind_tag kind value))

abbrev pub attribute_line : ℕ → List ℕ → Option (List ℕ × Kind) → List ℕ
attribute_line code value (Some (name, kind)) =
    if is_tagged code then tagged_line code name kind value else line indent_of_attributes name (value_text code kind value)
attribute_line code value None = line indent_of_attributes (codes "Attr-" ++ decimal code) (in_hex value)

abbrev pub attribute_lines : AttributeParts → List ℕ
attribute_lines a = if a.code == 26 then vendor_lines (vendor_parts a.value) a.value else attribute_line a.code a.value (avp_named a.code)

-- ---- AVPs of Diameter

-- an AVP without a vendor, whose group isn't looked into
abbrev pub named_line : ℕ → ℕ → List ℕ → Option (List ℕ × Kind) → List ℕ
named_line indent code body (Some (name, kind)) = line indent name (value_text code kind body)
named_line indent code body None = line indent (codes "AVP-" ++ decimal code) (in_hex body)

abbrev pub avp_line : ℕ → AvpParts → Option ℕ → List ℕ
avp_line indent a None = named_line indent a.code a.body (avp_named a.code)
avp_line indent a (Some vendor) = line indent (vendor_name vendor a.code) (vendor_value vendor a.code a.body)

-- the same of an item of a list, which may be a fault
abbrev pub item_line : ℕ → Result AvpParts AvpFault → List ℕ
item_line indent (Ok a) = avp_line indent a a.vendor
item_line indent (Err fault) = replicate indent 32 ++ avp_fault_line fault

-- the name of a group and what is in it
abbrev pub group_named : List ℕ → Option (List ℕ × Kind) → Option (List ℕ × List ℕ)
group_named body (Some (name, Group)) = Some (name, body)
group_named body named = None

abbrev pub group_in : AvpParts → Option ℕ → Option (List ℕ × List ℕ)
group_in a None = group_named a.body (avp_named a.code)
group_in a (Some vendor) = None

abbrev pub group : Result AvpParts AvpFault → Option (List ℕ × List ℕ)
group (Ok a) = group_in a a.vendor
group (Err fault) = None

-- NAME = and no value
abbrev pub heading : ℕ → List ℕ → List ℕ
heading indent name = replicate indent 32 ++ name ++ codes " =" ++ 10 ∷ []

-- a group that is looked into, or an item that is none
abbrev pub opened : (List ℕ → List ℕ) → ℕ → Result AvpParts AvpFault → Option (List ℕ × List ℕ) → List ℕ
opened within indent item (Some (name, body)) = heading indent name ++ within body
opened within indent item None = item_line indent item

-- the AVPs of a list up to the first fault, and that fault; groups are looked into so many deep
unfoldable pub list_lines : ℕ → ℕ → List ℕ → List ℕ
list_lines zero indent octets = flat_map (item_line indent) (avp_items octets)
list_lines (suc depth) indent octets = flat_map (λ item. opened (list_lines depth (indent + 4)) indent item (group item)) (avp_items octets)

-- the same of one item
abbrev pub lines_at : ℕ → ℕ → Result AvpParts AvpFault → List ℕ
lines_at zero indent item = item_line indent item
lines_at (suc depth) indent item = opened (list_lines depth (indent + 4)) indent item (group item)

-- ---- packets and messages

unfoldable pub packet_name : ℕ → Option (List ℕ) → List ℕ
packet_name code (Some name) = name
packet_name code None = codes "Code-" ++ decimal code

-- NAME ID (LENGTH)
abbrev pub packet_heading : PacketParts → List ℕ
packet_heading p = packet_name p.code (packet_named p.code) ++ 32 ∷ decimal p.id ++ codes " (" ++ decimal (length (packet_text p)) ++ 41 ∷ 10 ∷ []

-- a packet with its attributes, or what is wrong with it
abbrev pub packet_lines : Result PacketParts PacketFault → List ℕ
packet_lines (Ok p) = packet_heading p ++ flat_map attribute_lines p.attributes
packet_lines (Err fault) = packet_fault_line fault

-- by the R flag of the header
abbrev pub direction : ℕ → List ℕ
direction flags = if nat_lt flags 128 then codes "-Answer" else codes "-Request"

unfoldable pub command_name : ℕ → ℕ → Option (List ℕ) → List ℕ
command_name command flags (Some name) = name ++ direction flags
command_name command flags None = codes "Command-" ++ decimal command

abbrev pub four_octets : ℕ → List ℕ
four_octets n = codes "0x" ++ encode_lower (u32 n)

-- NAME HOP END (LENGTH)
abbrev pub message_heading : Header → ℕ → List ℕ
message_heading h size =
    command_name h.command h.flags (command_named h.command) ++ 32 ∷ four_octets h.hop ++ 32 ∷ four_octets h.end ++ codes " (" ++ decimal size ++ 41 ∷ 10 ∷ []

-- groups in groups are looked into eight deep
abbrev pub deepest : ℕ
deepest = 8

-- a message with its AVPs, or what is wrong with it
abbrev pub message_lines : ℕ → Result MessageParts MessageFault → List ℕ
message_lines size (Ok m) = message_heading m.header size ++ list_lines deepest 4 m.avps
message_lines size (Err fault) = message_fault_line fault

-- ---- what comes in

-- VIA ADDRESS:PORT
abbrev pub place_text : ℕ → ℕ → List ℕ
place_text address port = address_text address ++ 58 ∷ decimal port

abbrev pub datagram_lines : ℕ → ℕ → List ℕ → List ℕ
datagram_lines address port octets = place_text address port ++ 32 ∷ packet_lines (read_packet octets)

-- what an input is, without its line's number and its moment
abbrev pub input_lines : Input → List ℕ
input_lines (Datagram via address port octets) = via_name via ++ 32 ∷ datagram_lines address port octets
input_lines (Message octets) = codes "link " ++ message_lines (length octets) (read_message octets)
input_lines (Broken fault) = codes "link fault " ++ fault_name fault ++ 10 ∷ []
input_lines Up = codes "up\n"
input_lines Ready = codes "ready\n"
input_lines Down = codes "down\n"
input_lines Tick = codes "tick\n"
input_lines Drain = codes "drain\n"
input_lines Leave = codes "leave\n"

-- N MOMENT INPUT
abbrev pub event_lines : ℕ → ℕ → Input → List ℕ
event_lines number moment x = decimal number ++ 32 ∷ decimal moment ++ 32 ∷ input_lines x

-- ---- what goes out

-- the type of the attribute with a bad value
abbrev pub type_name : ℕ → Option (List ℕ × Kind) → List ℕ
type_name code (Some (name, kind)) = name
type_name code None = codes "Attr-" ++ decimal code

abbrev pub reason_text : Reason → List ℕ
reason_text (BadValue code) = codes "BadValue " ++ type_name code (avp_named code)
reason_text reason = reason_name reason

-- N OUTPUT
abbrev pub output_lines : ℕ → Output → List ℕ
output_lines number (Reply via address port octets) = decimal number ++ codes " reply " ++ datagram_lines address port octets
output_lines number (Send octets) = decimal number ++ codes " send " ++ message_lines (length octets) (read_message octets)
output_lines number (Dropped reason) = decimal number ++ codes " drop " ++ reason_text reason ++ 10 ∷ []
output_lines number (Closed cause) = output_line number (Closed cause)
