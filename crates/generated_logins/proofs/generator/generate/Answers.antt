-- The lines so far were written, and of the next one a prefix.
use Rattle.std.proofs.Common.{◌∙◌}
use Rattle.std.proofs.lemmas.Result.{err_from_is_err_and}
use Rattle.generated_logins.proofs.GeneratorLemmas.{writes-line, writes-part, writes-part-line}
use Rattle.generated_logins.proofs.generator.generate.Goals as goal

pub loop-line-preserved : goal.loop-line-preserved
loop-line-preserved g c =
    let kept = c.loop-line.invariant in
    let line = rw c.in-Some.is at c.in_ok-line.ensures.line in
    record {
      writes = writes-line _ _ _ _ _ _ _ kept.writes line c.in_ok-write_line.ensures.ok;
      faults = c.in_ok-write_line.ensures.counts_faults.stays (λ e. cc) ∙ kept.faults;
    }

pub returns-in_err-line-clause-err : goal.returns-in_err-line-clause-err
returns-in_err-line-clause-err g c =
    let p = err_from_is_err_and c.from_residual.result c.from_residual.ensures.1 in
    rw p.1 (writes-part _ _ _ _ c.loop-line.invariant.writes)

pub returns-in_err-write_line-clause-err : goal.returns-in_err-write_line-clause-err
returns-in_err-write_line-clause-err g c =
    let p = err_from_is_err_and c.from_residual-in_err-write_line.result c.from_residual-in_err-write_line.ensures.1 in
    let line = rw c.in-Some.is at c.in_ok-line.ensures.line in
    rw p.1 (writes-part-line _ _ _ _ _ _ _ c.loop-line.invariant.writes line c.in_err-write_line.ensures.err)
