use Rattle.agent_core.proofs.LawLemmas.LawOfReplies as lemmas
use Rattle.agent_core.proofs.laws.replies_go_to_clients.Goals as goal

pub returns : goal.returns
returns c = lemmas.only_to_clients
