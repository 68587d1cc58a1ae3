-- The AVPs of a message, lent to be written.
use Rattle.std.specs.Borrow.{Lends, MutBor, Fml}
use Rattle.diameter_avp.specs.Writer.{WriterParts}
use Rattle.diameter_avp.specs.contracts.writer.AvpWriter as avp_writer
use Rattle.diameter_message.specs.Writer.{MessageWriterParts}
use Rattle.diameter_message.specs.contracts.writer.MessageWriter.{the_row}

-- w ends with the AVPs that are left behind r
abbrev pub LendsAvps : MutBor MessageWriterParts → MutBor WriterParts → Fml
LendsAvps w r = Lends the_row avp_writer.the_row w r (λ avps. record w.now { avps = avps })
