use Rattle.transcript_runs.proofs.session.SessionFollower.close.Goals as goal

pub returns-clause-closes : goal.returns-clause-closes
returns-clause-closes g c = λ lines at. c.close.ensures.closes _ (rw c.as_ref.ensures.value at.1)
