use Rattle.std.proofs.Common.{◌≡◌, true, Ok, sym, ◌∙◌, subst, arith, rules}
use Rattle.text_lines.specs.Streams.{SourceEnded}
use Rattle.text_lines.specs.declared.raw_lines.RawLine.TheVariants.{Line, LastLine, End}
use Rattle.peer_runs.proofs.NasRunLemmas.{completes, ends-end, ends-last-line, ends-none, ends-undone, ends-untaken, runs-first, runs-line}
use Rattle.peer_runs.proofs.nas_run.nas.Goals as goal

pub returns-in_default-clause-ends : goal.returns-in_default-clause-ends
returns-in_default-clause-ends g c = ends-none _ _ _ _ _ _

pub loop-next-init : goal.loop-next-init
loop-next-init g c = record {
  runs = runs-first c.args.place c.args.patience c.in-Ok.lines _ _ _ _ c.in-Ok.ensures.0 c.in-Ok.ensures.1 c.in-Ok.ensures.2;
  row = sym c.requires;
  few = omega arith;
  ends = search rules;
  reads = search rules;
  writes = omega arith;
  faults = omega arith;
}

pub returns-in-Err-clause-ends : goal.returns-in-Err-clause-ends
returns-in-Err-clause-ends g c =
    ends-untaken c.loop-next.invariant.runs c.in-Err.fault c.fault_status.result c.next_line.new.self _ c.in-Err.ensures.fault c.fault_status.ensures

pub returns-in-Err-clause-complete : goal.returns-in-Err-clause-complete
returns-in-Err-clause-complete g c = λ X told sound short reads writes faults.
    completes c.fault_status.result X (g.S.Source.ends c.args.input.now) (g.S.Source.ends c.next_line.new.source) _ _ _ _ (returns-in-Err-clause-ends g c) told
    (search rules) (search rules) (search rules) (search rules) sound short reads writes faults

pub returns-then-eq-clause-ends : goal.returns-then-eq-clause-ends
returns-then-eq-clause-ends g c =
    let end : c.in-Ok-next_line.next ≡ End = search rules in
    ends-end c.loop-next.invariant.runs c.next_line.new.self _ (rw end at c.in-Ok-next_line.ensures.line) c.in-Ok-next_line.ensures.within

pub returns-in-Err-ask_line-clause-ends : goal.returns-in-Err-ask_line-clause-ends
returns-in-Err-ask_line-clause-ends g c =
    ends-undone c.loop-next.invariant.runs c.in-Ok-next_line.next c.next_line.new.self _ _ _ c.in-Ok-next_line.ensures.line
    (λ e. let yes : c.eq.result ≡ true = rw e at c.eq.ensures in cc) c.in-Ok-next_line.ensures.unended c.in-Ok-next_line.ensures.within _ c.in-Err-ask_line.status
    (rw c.line.ensures at c.in-Err-ask_line.ensures.line)

pub returns-in-Err-ask_line-clause-complete : goal.returns-in-Err-ask_line-clause-complete
returns-in-Err-ask_line-clause-complete g c = λ X told sound short reads writes faults.
    completes c.in-Err-ask_line.status X (g.S.Source.ends c.args.input.now) (g.S.Source.ends c.next_line.new.source) _ _ _ _ (returns-in-Err-ask_line-clause-ends g c) told
    (search rules) (search rules) (search rules) (search rules) sound short reads writes faults

pub returns-then-eq-2-clause-ends : goal.returns-then-eq-2-clause-ends
returns-then-eq-2-clause-ends g c =
    let last : c.in-Ok-next_line.next ≡ LastLine = search rules in
    ends-last-line c.loop-next.invariant.runs c.next_line.new.self _ _ _ _ (rw last at c.in-Ok-next_line.ensures.line) c.in-Ok-next_line.ensures.unended c.in-Ok-next_line.ensures.within
    (rw c.line.ensures at c.in_default-ask_line.ensures.line)

pub loop-next-preserved : goal.loop-next-preserved
loop-next-preserved g c =
    let more : c.in-Ok-next_line.next ≡ Line = search rules in
    let so_far = c.loop-next.invariant in
    let line = c.in-Ok-next_line.ensures in
    let asked = c.in_default-ask_line.ensures in
    record {
      runs = runs-line so_far.runs c.ask_line.new.counts.lines c.next_line.new.self _ _ _ _ (rw more at line.line) line.unended line.limit (rw c.line.ensures at asked.line) asked.lines;
      row = asked.row;
      few = let few : c.ask_line.new.counts.failures ≡ 16 → ⊥ = λ e. cc (asked.many.1 e) in omega (arith, asked.most, few);
      ends = line.counts_ends.stays (λ x. subst (λ n. SourceEnded (Ok n)) more x) ∙ so_far.ends;
      reads = line.counts_faults.stays (λ e. cc) ∙ so_far.reads;
      writes = omega (arith, so_far.writes, asked.writes_stay);
      faults = omega (arith, so_far.faults, asked.faults_stay);
    }
