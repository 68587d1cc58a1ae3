use Rattle.turnstile.specs.Passes.{known}
use Rattle.agent_server.proofs.StartingLemmas.{read-at}
use Rattle.agent_server.proofs.stand.tools_of.Goals as goal

pub returns : goal.returns
returns g c = λ base carries.
    read-at g.C.Clock.readings _ base _ (known c.args.pass).seen _ (c.close-desk.ensures.stands base carries) c.close-desk.ensures.turns c.into_end-tools.ensures
