use Rattle.std.proofs.Common.{◌∙◌, ap, arith}
use Rattle.std.proofs.lemmas.Result.{err_from_is_err_and}
use Rattle.text_lines.specs.Streams.{Cutting}
use Rattle.text_lines.proofs.StreamLemmas.{cut-fault, cut-whole, refill-fault}
use Rattle.text_lines.proofs.raw_lines.RawLines.next_line.Goals as goal

pub returns-in_err-cut-clause-fault : goal.returns-in_err-cut-clause-fault
returns-in_err-cut-clause-fault g c =
    let p = err_from_is_err_and c.from_residual.result c.from_residual.ensures.1 in
    let kept = c.loop-self.invariant in
    rw (p.1, p.2) (cut-fault _ _ _ c.args.self.now c.loop-self.self c.cut.new.self kept.taken kept.unended kept.passed kept.within kept.limit c.in_err-cut.ensures.cuts)

pub returns-in_err-refill-clause-fault : goal.returns-in_err-refill-clause-fault
returns-in_err-refill-clause-fault g c =
    let p = err_from_is_err_and c.from_residual-in_err-refill.result c.from_residual-in_err-refill.ensures.1 in
    let kept = c.loop-self.invariant in
    let (taken, unended, passed) = cut-whole _ _ c.args.self.now c.loop-self.self c.cut.new.self kept.taken kept.unended kept.passed (rw c.if-branch.false at c.in_ok-cut.ensures.cuts) in
    let same = ap (λ (cutting : Cutting). cutting.held.passed) c.self-in-loop-self.view_is in
    rw p.1 (refill-fault _ _ _ _ _ c.args.self.now _ c.self-in-loop-self.inside.intake c.refill.new.self c.cut.new.self.line p.2 taken unended (omega (arith, kept.limit, c.in_ok-cut.ensures.short)) (same ∙ passed) c.in_err-refill.ensures.refills)
