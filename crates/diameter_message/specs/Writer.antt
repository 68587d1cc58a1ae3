-- A message in the making.
use Rattle.std.specs.Prelude.{◌≡◌, ℕ, ◌+◌, ◌≤◌, List, ◌++◌, length}
use Rattle.diameter_avp.specs.Avps.{AvpParts, avps_text}
use Rattle.diameter_avp.specs.Writer.{WriterParts}
use Rattle.diameter_message.specs.declared.header.Header.{Header}
use Rattle.diameter_message.specs.Message.{header_text}

-- its header, and its AVPs behind their front
pub record MessageWriterParts : Type 0 where
  pub header : Header
  pub avps : WriterParts

-- a message of these AVPs, whose front is the header without its length
abbrev pub begun : Header → List AvpParts → MessageWriterParts
begun header avps = record { header = header; avps = record { front = header_text 0 header; list = avps } }

-- the front is still the header's
abbrev pub KeepsFront : MessageWriterParts → Type 0
KeepsFront w = w.avps.front ≡ header_text 0 w.header

-- ---- AVPs that are put

-- how many octets its AVPs have
abbrev pub list_length : MessageWriterParts → ℕ
list_length w = length (avps_text w.avps.list)

abbrev pub with_avps : MessageWriterParts → List AvpParts → MessageWriterParts
with_avps w avps = record w { avps = record w.avps { list = w.avps.list ++ avps } }

-- these AVPs, of at most so many octets, were put at the end
pub record Puts (old new : MessageWriterParts) (avps : List AvpParts) (most : ℕ) : Type 0 where
  pub list : new ≡ with_avps old avps
  pub length : list_length new ≤ list_length old + most

-- the first of these AVPs were put at the end, and the others weren't
pub record PutsPart (old new : MessageWriterParts) (avps : List AvpParts) : Type 0 where
  pub first : List AvpParts
  pub others : List AvpParts
  pub parts : avps ≡ first ++ others
  pub list : new ≡ with_avps old first
