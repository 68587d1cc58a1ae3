use Rattle.std.proofs.Common.{[], ◌∷◌, ◌++◌}
use Rattle.text_commands.proofs.TaskLemmas.{closes-known, finish-err, finish-ok, works-known}
use Rattle.text_commands.proofs.work.finish.Goals as goal

pub returns-in-Ok-clause-finishes : goal.returns-in-Ok-clause-finishes
returns-in-Ok-clause-finishes g c = λ lines took.
    let (further, (text, adds, wrote)) = c.in-Ok.ensures.works lines took in
    finish-ok (g.W.Work.task c.args.work.now) c.close.result lines c.args.line.now text _ _ _ adds wrote (rw c.in-Ok.ensures.same at (c.close.ensures.closes (lines ++ c.args.line.now ∷ []) further))

pub returns-in-Err-clause-finishes : goal.returns-in-Err-clause-finishes
returns-in-Err-clause-finishes g c = λ lines took.
    finish-err (g.W.Work.task c.args.work.now) c.in-Err.status lines c.args.line.now _ _ (c.in-Err.ensures.works lines took)

pub returns-in-Ok-clause-known : goal.returns-in-Ok-clause-known
returns-in-Ok-clause-known g c =
    let (lines, took) = c.requires in
    let (further, adds) = c.in-Ok.ensures.works lines took in
    closes-known (g.W.Work.task c.take.new.self) c.close.result (lines ++ c.args.line.now ∷ []) _ _ (c.close.ensures.closes (lines ++ c.args.line.now ∷ []) further)

pub returns-in-Err-clause-known : goal.returns-in-Err-clause-known
returns-in-Err-clause-known g c =
    let (lines, took) = c.requires in
    works-known (g.W.Work.task c.args.work.now) c.in-Err.status lines c.args.line.now _ _ (c.in-Err.ensures.works lines took)
