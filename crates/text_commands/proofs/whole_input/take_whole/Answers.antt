use Rattle.std.proofs.Common.{◌++◌, take, arith}
use Rattle.std.proofs.lemmas.List.{length-append, length-take}
use Rattle.wire_core.proofs.SourceLaws.{Consumes-append}
use Rattle.text_commands.proofs.whole_input.take_whole.Goals as goal

pub returns-then-len-eq-MOST-clause-not : goal.returns-then-len-eq-MOST-clause-not
returns-then-len-eq-MOST-clause-not g c = (
  c.loop-chunk.text.items ++ take c.in-Some.count c.read_front.new.chunk,
  Consumes-append c.loop-chunk.invariant.taken c.in-Some.ensures.reads.1,
  omega (arith, length-append c.loop-chunk.text.items (take c.in-Some.count c.read_front.new.chunk), length-take c.in-Some.count c.read_front.new.chunk, c.if-len-eq-MOST.true, c.len-in-Some.ensures, c.len.ensures, c.room_after-room.ensures.last, c.in-Some.ensures.reads.0, c.in-Some.count-test, c.read_front.ensures.kept, c.deref_mut.ensures.len, c.loop-chunk.invariant.room),
)

pub returns-then-is_err-clause-not : goal.returns-then-is_err-clause-not
returns-then-is_err-clause-not g c = (
  c.loop-chunk.text.items ++ take c.in-Some.count c.read_front.new.chunk,
  Consumes-append c.loop-chunk.invariant.taken c.in-Some.ensures.reads.1,
  omega (arith, length-append c.loop-chunk.text.items (take c.in-Some.count c.read_front.new.chunk), length-take c.in-Some.count c.read_front.new.chunk, c.if-len-eq-MOST.false, c.len-in-Some.ensures, c.len.ensures, c.room_after-room.ensures.within, c.in-Some.ensures.reads.0, c.loop-chunk.invariant.few),
)
