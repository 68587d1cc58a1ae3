use Rattle.audit_log.proofs.EndLemmas.{nothing}
use Rattle.audit_log.proofs.audit.audit.Goals as goal

pub returns-in-Err-NoMemory-clause-writes : goal.returns-in-Err-NoMemory-clause-writes
returns-in-Err-NoMemory-clause-writes g c = λ key X is told. nothing key X _ _ told
