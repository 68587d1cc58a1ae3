-- The lines of what comes in, as a transcript has them (profile).
use Rattle.std.specs.Prelude.{ℕ, List, [], ◌∷◌, codes, decimal}
use Rattle.diameter_message.specs.declared.fault.FrameFault.{FrameFault}
use Rattle.diameter_message.specs.declared.fault.FrameFault.TheVariants.{BadVersion, BadLength, TooLong}
use Rattle.agent_events.specs.declared.events.Input.{Input}
use Rattle.agent_events.specs.declared.events.Input.TheVariants.{Datagram, Up, Ready, Message, Broken, Down, Tick, Drain, Leave}
use Rattle.printed_lines.specs.Text.{address_text, hex_text, line_of, line_text, via_name}

-- the fewest octets that show this fault where a message should begin: version 2; a length of 1; a length of 65,540
abbrev pub fault_octets : FrameFault → List ℕ
fault_octets BadVersion = 2 ∷ []
fault_octets BadLength = 1 ∷ 0 ∷ 0 ∷ 1 ∷ []
fault_octets TooLong = 1 ∷ 1 ∷ 0 ∷ 4 ∷ []

-- a message and a fault of the link are octets of its stream
abbrev pub input_words : Input → List (List ℕ)
input_words (Datagram via address port octets) =
    via_name via ∷ address_text address ∷ decimal port ∷ hex_text octets ∷ []
input_words Up = codes "up" ∷ []
input_words Ready = codes "ready" ∷ []
input_words (Message octets) = codes "link" ∷ hex_text octets ∷ []
input_words (Broken fault) = codes "link" ∷ hex_text (fault_octets fault) ∷ []
input_words Down = codes "down" ∷ []
input_words Tick = codes "tick" ∷ []
input_words Drain = codes "drain" ∷ []
input_words Leave = codes "leave" ∷ []

-- the words of an input at its moment, and their line
abbrev pub event_words : ℕ → Input → List (List ℕ)
event_words moment input = decimal moment ∷ input_words input

abbrev pub event_line : ℕ → Input → List ℕ
event_line moment input = line_text (event_words moment input)

-- MOMENT link HEX, without its end
abbrev pub link_line : List ℕ → List ℕ → List ℕ
link_line moment hex = line_of (moment ∷ codes "link" ∷ hex ∷ [])
