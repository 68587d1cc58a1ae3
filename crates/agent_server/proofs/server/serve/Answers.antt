use Rattle.agent_server.proofs.RanLemmas.{ran-with}
use Rattle.agent_server.proofs.server.serve.Goals as goal

pub returns-clause-ran : goal.returns-clause-ran
returns-clause-ran g c =
    ran-with g.C.Clock.readings g.D.Datagrams.told g.L.In.LinkIn.told g.L.Out.LinkOut.told g.L.Dialer.told g.L.Dialer.made g.W.Crew.faults g.W.Crew.started
    _ _ _ _ (λ events has. tt) c.serve_sending-finish.ensures.ran
