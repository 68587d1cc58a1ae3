use Rattle.std.proofs.Common.{◌∷◌, [], ◌++◌, ap, ◌∙◌, sym, subst}
use Rattle.agent_status.specs.declared.status.Status.{Status}
use Rattle.text_commands.specs.Tasks.{Task, WorksNot}
use Rattle.journal.specs.Journal.{last_seal}
use Rattle.journal.specs.Writing.{write_task}
use Rattle.journal.proofs.WriteLemmas.{write-adds, write-seal}
use Rattle.journal.proofs.writer.WriterWork.take.Goals as goal

pub returns-in-Ok-write_text-clause-works : goal.returns-in-Ok-write_text-clause-works
returns-in-Ok-write_text-clause-works g c = λ lines is.
    let task = g.W.Work.task c.args.self.now.work in
    let key = c.args.self.now.key in
    let line = c.args.line.now in
    let (taken, adds) = c.in-Ok.ensures.prints lines is.taken in
    let block = rw (c.as_slice.ensures, c.as_slice-given.ensures, is.seal) at c.in-Ok-seal_block.ensures.sealed in (
      record {
        taken = taken;
        sound = ap (λ (t : Task). t.stop (lines ++ line ∷ [])) c.in-Ok.ensures.same ∙ adds.sound;
        seal = block.seal ∙ write-seal task key c.is_task.ensures lines line _ adds ∙ sym (ap (λ t. last_seal t key (lines ++ line ∷ [])) c.in-Ok.ensures.same);
      },
      (_, write-adds task key c.is_task.ensures lines line _ adds, rw (c.deref.ensures.value, block.text) at c.in-Ok-write_text.ensures.done),
    )

pub returns-clause-works : goal.returns-clause-works
returns-clause-works g c = λ lines is.
    let task = g.W.Work.task c.args.self.now.work in
    let key = c.args.self.now.key in
    let (taken, adds) = c.in-Ok.ensures.prints lines is.taken in
    let block = rw (c.as_slice.ensures, c.as_slice-given.ensures, is.seal) at c.in-Ok-seal_block.ensures.sealed in
    let (status, wrote) = rw (c.deref.ensures.value, block.text) at c.in-Err-write_text.ensures.failed in
    subst (λ (s : Status). WorksNot (write_task task key) s lines c.args.line.now (g.K.Sink.written c.args.sink.now) (g.K.Sink.written c.write_text.new.sink)) (sym status)
    (_, write-adds task key c.is_task.ensures lines c.args.line.now _ adds, wrote)
