-- What the RFCs name. The lists are the code's own.
use Rattle.std.specs.Prelude.{ℕ, ◌==◌, ◌&&◌, List, find, Option, option_map}
use Rattle.names.specs.declared.avps.Kind.{Kind}
use Rattle.names.specs.declared.avps.TheConstants.{AVPS}
use Rattle.names.specs.declared.messages.TheConstants.{COMMANDS, PACKETS}
use Rattle.names.specs.declared.values.TheConstants.{VALUES}

-- the name and the kind of an attribute or an AVP (RFC 2865, RFC 6733)
unfoldable pub avp_named : ℕ → Option (List ℕ × Kind)
avp_named code = option_map (λ row. (row.1.now, row.2)) (find (λ row. row.0 == code) AVPS)

-- the name of a value
unfoldable pub value_named : ℕ → ℕ → Option (List ℕ)
value_named code value = option_map (λ row. row.2.now) (find (λ row. (row.0 == code) && (row.1 == value)) VALUES)

-- the name of a packet by its code (RFC 2865, section 3), and of a message by its command, without the word behind it
unfoldable pub packet_named : ℕ → Option (List ℕ)
packet_named code = option_map (λ row. row.1.now) (find (λ row. row.0 == code) PACKETS)

unfoldable pub command_named : ℕ → Option (List ℕ)
command_named code = option_map (λ row. row.1.now) (find (λ row. row.0 == code) COMMANDS)
