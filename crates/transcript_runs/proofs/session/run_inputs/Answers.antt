-- The inputs so far were run, and of what the next one prints a prefix was written.
use Rattle.std.proofs.Common.{◌≡◌, ◌<◌, ◌∙◌, [], drop, length, refl, rules, arith}
use Rattle.std.proofs.lemmas.List.{drop_all}
use Rattle.std.proofs.lemmas.Option.{slice_get_read}
use Rattle.wire_core.proofs.SinkLaws.{AppendsPrefix-whole}
use Rattle.transcript_runs.proofs.SessionLemmas.{in-run-all, in-run-first, in-run-next, in-run-part, part-as, runs-as}
use Rattle.transcript_runs.proofs.session.run_inputs.Goals as goal

pub loop-input-init : goal.loop-input-init
loop-input-init g c = record {
  same = refl;
  runs = λ config ps runs. in-run-first g.T.Teller.told (g.T.Teller.telling c.args.teller.now) _ _ config ps _ _ _ _ _ refl runs;
  faults = omega arith;
}

pub loop-input-preserved : goal.loop-input-preserved
loop-input-preserved g c =
    let inside : c.loop-input.input-index < length c.args.inputs.now = search rules in
    let at = slice_get_read _ (length c.args.inputs.now) _ _ refl inside c.input-item.is in
    let telling = g.T.Teller.telling c.args.teller.now in
    record {
      same = c.in-Ok.ensures.same ∙ c.loop-input.invariant.same;
      runs = λ config ps runs.
          let so_far = c.loop-input.invariant.runs config ps runs in
          in-run-next g.T.Teller.told telling _ _ _ _ config ps _ _ c.args.inputs.now c.loop-input.input-index _ _ at so_far
          (runs-as g.T.Teller.told telling _ c.loop-input.invariant.same _ _ _ _ _ _ _ _ (c.in-Ok.ensures.runs config so_far.so_far so_far.runs));
      faults = omega (arith, c.loop-input.invariant.faults, c.in-Ok.ensures.faults_stay);
    }

pub returns-in-Err-clause-part : goal.returns-in-Err-clause-part
returns-in-Err-clause-part g c = λ config ps runs.
    let inside : c.loop-input.input-index < length c.args.inputs.now = search rules in
    let at = slice_get_read _ (length c.args.inputs.now) _ _ refl inside c.input-item.is in
    let telling = g.T.Teller.telling c.args.teller.now in
    let so_far = c.loop-input.invariant.runs config ps runs in
    in-run-part g.T.Teller.told telling _ _ config ps _ _ c.args.inputs.now c.loop-input.input-index _ _ at so_far
    (part-as g.T.Teller.told telling _ c.loop-input.invariant.same _ _ _ _ _ _ (c.in-Err.ensures.part config so_far.so_far so_far.runs))

pub returns-clause-runs : goal.returns-clause-runs
returns-clause-runs g c = λ config ps runs.
    let none : drop c.loop-input.input-index c.args.inputs.now ≡ [] = search (rules, drop_all) in
    in-run-all g.T.Teller.told (g.T.Teller.telling c.args.teller.now) _ _ config ps _ _ c.args.inputs.now _ none (c.loop-input.invariant.runs config ps runs)

pub returns-clause-part : goal.returns-clause-part
returns-clause-part g c = λ config ps runs.
    let none : drop c.loop-input.input-index c.args.inputs.now ≡ [] = search (rules, drop_all) in
    AppendsPrefix-whole (in-run-all g.T.Teller.told (g.T.Teller.telling c.args.teller.now) _ _ config ps _ _ c.args.inputs.now _ none (c.loop-input.invariant.runs config ps runs)).1
