-- A request that is sent once more (RFC 6733, section 3: flag T; section 5.5.4).
use Rattle.std.specs.Prelude.{ℕ, bit_or}
use Rattle.diameter_message.specs.declared.header.Header.{Header}

-- flag T is set, and the hop is another; the End-to-End Identifier stays
abbrev pub retransmission_header : Header → ℕ → Header
retransmission_header h hop = record h { flags = bit_or h.flags 16; hop = hop }
