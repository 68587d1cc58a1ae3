use Rattle.std.specs.Slice.Iter.{chunks_rest}
use Rattle.record_text.proofs.LineLemmas.{WroteTo}
use Rattle.record_text.proofs.writer.write_lines.Given as goal

-- the pieces so far were written
abbrev pub invariant-loop-piece : goal.invariant-loop-piece
invariant-loop-piece g l = WroteTo (g.K.Sink.written l.initial.sink) (g.K.Sink.written l.sink) l.entries (chunks_rest l.piece-iterator)
