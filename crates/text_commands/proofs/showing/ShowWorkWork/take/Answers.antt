use Rattle.text_commands.proofs.ShowLemmas.{adds, refused, shows-on, unwritten}
use Rattle.text_commands.proofs.showing.ShowWorkWork.take.Goals as goal

pub returns-in-Err-clause-works : goal.returns-in-Err-clause-works
returns-in-Err-clause-works g c = λ lines shows.
    refused c.in-Err.status lines c.args.line.now _ c.args.self.now _ shows c.number_after-number.ensures c.in-Err.ensures.err

pub returns-clause-works : goal.returns-clause-works
returns-clause-works g c = λ lines shows.
    unwritten c.in-Err-write_text.status lines c.args.line.now c.in-Ok.text _ _ shows.sound c.in-Ok.ensures.ok (rw c.as_slice.ensures at c.in-Err-write_text.ensures.failed)

pub returns-in-Ok-write_text-clause-works : goal.returns-in-Ok-write_text-clause-works
returns-in-Ok-write_text-clause-works g c = λ lines shows. (
  shows-on lines c.args.line.now c.in-Ok.text _ _ shows.sound c.in-Ok.ensures.ok shows.count c.number_after-number.ensures,
  (c.in-Ok.text, adds lines c.args.line.now _ shows.sound c.in-Ok.ensures.ok, rw c.as_slice.ensures at c.in-Ok-write_text.ensures.done),
)
