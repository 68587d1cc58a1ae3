use Rattle.std.proofs.Common.{ap, ◌∙◌}
use Rattle.std.specs.Slice.Iter.{chunks_rest}
use Rattle.record_text.proofs.LineLemmas.{last-piece, next-piece, wrote-all, wrote-none}
use Rattle.record_text.proofs.writer.write_lines.Goals as goal

pub loop-piece-init : goal.loop-piece-init
loop-piece-init g c = wrote-none _ _ _ (ap chunks_rest c.into_iter-piece-iterator.ensures.into_iter_gives ∙ c.chunks-piece-items.ensures.rest)

pub loop-piece-preserved : goal.loop-piece-preserved
loop-piece-preserved g c =
    let step = rw c.in-Some.is at c.next.ensures.steps in
    next-piece _ _ _ _ _ c.in-Some.piece.now _ step.1.0 c.loop-piece.invariant c.if-not-write_piece.ensures

pub returns-then-not-write_piece : goal.returns-then-not-write_piece
returns-then-not-write_piece g c =
    let step = rw c.in-Some.is at c.next.ensures.steps in
    last-piece _ _ _ _ _ c.in-Some.piece.now _ step.1.0 c.loop-piece.invariant c.if-not-write_piece.ensures

pub returns : goal.returns
returns g c =
    let step = rw c.in-None.is at c.next.ensures.steps in
    wrote-all _ _ _ _ step.1.0 c.loop-piece.invariant
