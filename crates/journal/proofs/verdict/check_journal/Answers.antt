use Rattle.std.proofs.Common.{None, Ok, Err, refl, arith}
use Rattle.journal.proofs.VerdictLemmas.{check-completes, checks-not}
use Rattle.journal.proofs.verdict.check_journal.Goals as goal

pub returns-in-Err-clause-checks : goal.returns-in-Err-clause-checks
returns-in-Err-clause-checks g c = λ X told. checks-not (g.W.Work.task c.args.work) c.args.key X _ _ c.in-Err.status (c.in-Err.ensures.judges X told)

pub returns-in-Err-clause-complete : goal.returns-in-Err-clause-complete
returns-in-Err-clause-complete g c = λ X text told sound is short reads writes.
    check-completes (g.W.Work.task c.args.work) c.is_task.ensures c.args.key (Err c.in-Err.status) text X _ None None _ _ _ _ _ _ sound is short
    (checks-not (g.W.Work.task c.args.work) c.args.key X _ None c.in-Err.status (c.in-Err.ensures.judges X told)) c.in-Err.ensures.counts reads (λ rose. omega (arith, rose))

pub returns-in-Ok-write_text-clause-complete : goal.returns-in-Ok-write_text-clause-complete
returns-in-Ok-write_text-clause-complete g c = λ X text told sound is short reads writes.
    let judges = c.in-Ok.ensures.judges X told in
    check-completes (g.W.Work.task c.args.work) c.is_task.ensures c.args.key (Ok c.in-Ok.verdict) text X _ None None _ _ _ _ _ _ sound is short
    (judges.0, judges.1, record { after = refl }) c.in-Ok.ensures.counts reads (λ rose. omega (arith, rose))
