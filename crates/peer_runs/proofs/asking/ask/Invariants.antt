use Rattle.std.proofs.Common.{◌≡◌, ◌<◌, ◌≤◌}
use Rattle.peer_runs.proofs.AskingLemmas.{Going}
use Rattle.peer_runs.proofs.asking.ask.Given as goal

abbrev pub invariant-loop : goal.invariant-loop
invariant-loop g l = record {
  going : Going l.place l.initial.nas l.nas l.count l.buf (g.C.Clock.readings l.initial.clock) (g.C.Clock.readings l.clock) (g.D.Datagrams.told l.initial.socket) (g.D.Datagrams.told l.socket);
  row : l.failures ≡ (g.D.Datagrams.told l.socket).row;
  few : l.failures < 16;
  faults : (g.D.Datagrams.told l.initial.socket).faults ≤ (g.D.Datagrams.told l.socket).faults;
}
