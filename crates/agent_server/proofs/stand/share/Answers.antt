use Rattle.turnstile.specs.Passes.{known}
use Rattle.agent_server.proofs.StartingLemmas.{read-began}
use Rattle.agent_server.proofs.stand.share.Goals as goal

pub returns-in-Err-clause-began : goal.returns-in-Err-clause-began
returns-in-Err-clause-began g c = λ base carries.
    read-began g.C.Clock.readings c.tools_of.result base (known c.args.pass).seen (c.tools_of.ensures base carries)

pub returns-in-None-clause-began : goal.returns-in-None-clause-began
returns-in-None-clause-began g c = λ base carries.
    read-began g.C.Clock.readings c.tools_of-in-None.result base (known c.args.pass).seen (c.tools_of-in-None.ensures base carries)
