-- Diameter messages (RFC 6733, section 3).
use Rattle.std.specs.Prelude.{◌≡◌, ℕ, ◌+◌, ◌%◌, ◌^◌, ◌<◌, nat_lt, not, ◌==◌, ◌&&◌, if◌then◌else◌, List, ◌∷◌, ◌++◌, length, drop, slice_index, Result, Ok, Err}
use Rattle.wire_core.specs.Numbers.{number, octets_at, u24, u32}
use Rattle.diameter_message.specs.declared.header.Header.{Header}
use Rattle.diameter_message.specs.declared.fault.MessageFault.{MessageFault}
use Rattle.diameter_message.specs.declared.fault.MessageFault.TheVariants.{Short, BadVersion, BadLength}

-- the 20 octets of a header, in a message of so many octets
unfoldable pub header_text : ℕ → Header → List ℕ
header_text size h = 1 ∷ u24 size ++ h.flags ∷ u24 h.command ++ u32 h.application ++ u32 h.hop ++ u32 h.end

-- a message: its header, and then its AVPs
unfoldable pub message_text : Header → List ℕ → List ℕ
message_text h avps = header_text (20 + length avps) h ++ avps

-- each number fits its field
pub record IsHeader (h : Header) : Type 0 where
  pub flags : h.flags < 2 ^ 8
  pub command : h.command < 2 ^ 24
  pub application : h.application < 2 ^ 32
  pub hop : h.hop < 2 ^ 32
  pub end : h.end < 2 ^ 32

-- these octets are this message, whatever the AVPs are
pub record IsMessage (octets : List ℕ) (h : Header) (avps : List ℕ) : Type 0 where
  pub header : IsHeader h
  pub text : octets ≡ message_text h avps
  pub words : length octets % 4 ≡ 0
  pub counted : length octets < 2 ^ 24

-- ---- reading

-- a message without where it lies
pub record MessageParts : Type 0 where
  pub header : Header
  pub avps : List ℕ

abbrev pub length_of : List ℕ → ℕ
length_of octets = number (octets_at octets 1 3)

abbrev pub parts_of : List ℕ → MessageParts
parts_of octets = record {
  header = record {
    flags = slice_index octets 4;
    command = number (octets_at octets 5 3);
    application = number (octets_at octets 8 4);
    hop = number (octets_at octets 12 4);
    end = number (octets_at octets 16 4);
  };
  avps = drop 20 octets;
}

-- The message that octets are, or the first of the faults in their order.
unfoldable pub read_message : List ℕ → Result MessageParts MessageFault
read_message octets =
    if nat_lt (length octets) 20
    then Err Short
    else (
    if not (slice_index octets 0 == 1)
    then Err BadVersion
    else (if length_of octets == length octets && length_of octets % 4 == 0 then Ok (parts_of octets) else Err BadLength))
