use Rattle.session_carrier.proofs.Sessions as lemmas
use Rattle.session_carrier.proofs.laws.accounting_sessions_have_length.Goals as goal

pub returns : goal.returns
returns c = lemmas.accounting_sessions_have_length
