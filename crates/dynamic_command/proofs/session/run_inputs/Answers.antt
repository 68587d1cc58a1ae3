-- The inputs so far were run, and of what the next one prints a prefix was written.
use Rattle.std.proofs.Common.{◌≡◌, [], length, map, sym, ap, ◌∙◌, arith, rules}
use Rattle.std.specs.Vec.Iter.{into_iter_items}
use Rattle.wire_core.proofs.SinkLaws.{AppendsPrefix-whole}
use Rattle.session_book.specs.declared.events.BookInput.TheVariants.{Core}
use Rattle.dynamic_command.proofs.RunLemmas.{in-run-all, in-run-first, in-run-next, in-run-part, none-left}
use Rattle.dynamic_command.proofs.session.run_inputs.Goals as goal

pub loop-input-init : goal.loop-input-init
loop-input-init g c =
    let all : into_iter_items c.into_iter-input-iterator.result ≡ c.args.inputs.items = c.into_iter-input-iterator.ensures.into_iter_gives.0 in
    record {
      runs = λ config ps runs. in-run-first _ _ config ps _ _ _ _ _ (ap (map Core) all) runs;
      left = search rules;
      faults = omega arith;
    }

pub loop-input-preserved : goal.loop-input-preserved
loop-input-preserved g c = record {
  runs = λ config ps runs.
      let so_far = c.loop-input.invariant.runs config ps runs in
      in-run-next _ _ _ _ config ps _ _ _ _ (map Core (into_iter_items c.next.new.self)) (Core c.in-Some.input) _ (ap (map Core) c.in-Some.ensures.steps.0) so_far
      (c.in-Ok.ensures.runs config so_far.so_far so_far.runs);
  left =
      let was = c.loop-input.invariant.left in
      let gone = c.in-Some.ensures.steps.1 in
      let short = ap length c.in-Some.ensures.steps.0 in
      omega arith;
  faults = omega (arith, c.loop-input.invariant.faults, c.in-Ok.ensures.faults_stay);
}

pub returns-in-Err-clause-part : goal.returns-in-Err-clause-part
returns-in-Err-clause-part g c = λ config ps runs.
    let so_far = c.loop-input.invariant.runs config ps runs in
    in-run-part _ _ config ps _ _ _ _ (map Core (into_iter_items c.next.new.self)) (Core c.in-Some.input) _ (ap (map Core) c.in-Some.ensures.steps.0) so_far
    (c.in-Err.ensures.part config so_far.so_far so_far.runs)

pub returns-clause-runs : goal.returns-clause-runs
returns-clause-runs g c = λ config ps runs.
    let none : into_iter_items c.loop-input.input-iterator ≡ [] = none-left _ (sym c.loop-input.invariant.left ∙ c.in-None.ensures.steps.0) in
    in-run-all _ _ config ps _ _ _ _ (ap (map Core) none) (c.loop-input.invariant.runs config ps runs)

pub returns-clause-part : goal.returns-clause-part
returns-clause-part g c = λ config ps runs.
    let none : into_iter_items c.loop-input.input-iterator ≡ [] = none-left _ (sym c.loop-input.invariant.left ∙ c.in-None.ensures.steps.0) in
    AppendsPrefix-whole (in-run-all _ _ config ps _ _ _ _ (ap (map Core) none) (c.loop-input.invariant.runs config ps runs)).1
