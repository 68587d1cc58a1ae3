use Rattle.std.proofs.Common.{refl}
use Rattle.wire_core.specs.Numbers.{u24, u32}
use Rattle.diameter_message.specs.Message.{header_text}
use Rattle.diameter_message.proofs.writer.header_octets.Goals as goal

pub returns : goal.returns
unfolding header_text u24 u32
returns c = rw (c.put_u32-3.ensures, c.put_u32-2.ensures, c.put_u32.ensures, c.put_u24.ensures) refl
