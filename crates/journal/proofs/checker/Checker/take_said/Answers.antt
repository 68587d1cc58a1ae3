use Rattle.std.proofs.Common.{◌+◌, length, drop, ap, ◌∙◌, refl}
use Rattle.journal.proofs.StepLemmas.{behind-said, said-steps}
use Rattle.journal.proofs.checker.Checker.take_said.Goals as goal

pub returns : goal.returns
returns g c = λ lines seal at.
    let (taken, adds) = c.in-Ok.ensures.prints lines at.works.0 in
    let block = c.in-Ok-seal_block.ensures in
    said-steps g.W.Work.task g.W.Work.took c.args.self.now _ lines seal c.args.said.now c.in-Ok.printed.written at taken adds refl
    (rw (c.as_slice.ensures, c.as_slice-given.ensures) at block.sealed.seal)
    (rw (c.as_slice.ensures, c.as_slice-given.ensures) at (c.behind.ensures ∙ ap (λ xs. drop (length c.args.said.now + 3) xs) block.sealed.text ∙ behind-said c.args.said.now _))
    (rw (c.as_slice.ensures, c.as_slice-given.ensures) at block.short) c.number_after-self.ensures
    (record { same_task = c.in-Ok.ensures.same; same_key = refl; same_lines = refl })
