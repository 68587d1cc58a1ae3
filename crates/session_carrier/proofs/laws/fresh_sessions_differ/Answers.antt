use Rattle.session_carrier.proofs.Sessions as lemmas
use Rattle.session_carrier.proofs.laws.fresh_sessions_differ.Goals as goal

pub returns : goal.returns
returns c = lemmas.fresh_sessions_differ
