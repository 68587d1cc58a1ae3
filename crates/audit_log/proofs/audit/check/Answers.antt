use Rattle.audit_log.proofs.EndLemmas.{audits}
use Rattle.audit_log.proofs.ReplayLemmas.{replay-is-short}
use Rattle.audit_log.proofs.audit.check.Goals as goal

pub check_journal-requires-clause-short : goal.check_journal-requires-clause-short
check_journal-requires-clause-short g c = replay-is-short

pub returns-in-Err-clause-checks : goal.returns-in-Err-clause-checks
returns-in-Err-clause-checks g c = λ X told. rw c.audit_status.ensures.is (audits c.in-Err.status c.args.key X _ _ _ (c.in-Err.ensures.checks X told))
