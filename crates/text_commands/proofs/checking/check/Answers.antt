use Rattle.text_commands.proofs.CheckLemmas.{known, not-printed, not-taken, printed}
use Rattle.text_commands.proofs.checking.check.Goals as goal

pub returns-in-Err-clause-ends : goal.returns-in-Err-clause-ends
returns-in-Err-clause-ends g c = λ X told. not-taken c.in-Err.status X _ _ _ told c.in-Err.ensures.not

pub returns-in-Err-lines_of-clause-ends : goal.returns-in-Err-lines_of-clause-ends
returns-in-Err-lines_of-clause-ends g c = λ X told.
    not-printed c.in-Err-lines_of.status X c.in-Ok.config _ _ _ told c.in-Ok.ensures.taken c.in-Err-lines_of.ensures.memory

pub returns-in-Ok-write_text-clause-ends : goal.returns-in-Ok-write_text-clause-ends
returns-in-Ok-write_text-clause-ends g c = λ X told.
    printed X c.in-Ok-lines_of.lines c.in-Ok.config _ _ _ _ told c.in-Ok.ensures.taken c.in-Ok-lines_of.ensures.ok
    (rw c.as_slice.ensures at c.in-Ok-write_text.ensures.done)

pub returns-in-Err-clause-known : goal.returns-in-Err-clause-known
returns-in-Err-clause-known g c = known c.in-Err.status _ _ c.in-Err.ensures.not
