use Rattle.agent_core.proofs.LawLemmas.LawOfLinks as lemmas
use Rattle.agent_core.proofs.laws.requests_go_where_the_link_serves.Goals as goal

pub returns : goal.returns
returns c = lemmas.requests_go
