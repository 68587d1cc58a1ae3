use Rattle.agent_server.proofs.StartingLemmas.{socket-ran}
use Rattle.agent_server.proofs.team.socket_ran.Goals as goal

pub returns-clause-back : goal.returns-clause-back
returns-clause-back g c =
    socket-ran g.D.Datagrams.told g.I.LinkIn.told c.args.reader c.in-Reader.socket c.in-Reader.pass c.in-Reader.lost c.in-Reader.fault c.is_some.result
    c.in-Reader.ensures.gives c.is_some.ensures
