use Rattle.server_workers.proofs.LinkOverLemmas.{same-ports}
use Rattle.agent_server.proofs.stand.make_twins.Goals as goal

pub returns-clause-ports : goal.returns-clause-ports
returns-clause-ports g c = same-ports c.in_ok-auth.ensures.port c.in_ok-acct.ensures.port
