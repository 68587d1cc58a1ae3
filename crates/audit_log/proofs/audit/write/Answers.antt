use Rattle.audit_log.proofs.EndLemmas.{nothing, writes}
use Rattle.audit_log.proofs.audit.write.Goals as goal

pub returns-in_default-clause-writes : goal.returns-in_default-clause-writes
returns-in_default-clause-writes g c = λ X told. nothing c.args.key X _ _ told

pub returns-clause-writes : goal.returns-clause-writes
returns-clause-writes g c = λ X told. rw c.audit_status.ensures.is (writes c.write_journal.result c.args.key X _ _ _ (c.write_journal.ensures.ends X told))
