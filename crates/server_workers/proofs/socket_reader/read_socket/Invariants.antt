use Rattle.std.proofs.Common.{◌≡◌}
use Rattle.turnstile.specs.Passes.{known, table_of}
use Rattle.server_workers.proofs.SocketReadingLemmas.{ReadsOn}
use Rattle.server_workers.proofs.socket_reader.read_socket.Given as goal

abbrev pub invariant-loop : goal.invariant-loop
invariant-loop g l = record {
  table : table_of l.pass ≡ table_of l.fn.pass;
  so_far : ReadsOn l.via (known l.fn.pass) (known l.pass) (g.D.Datagrams.told l.fn.socket) (g.D.Datagrams.told l.socket) l.counts;
}
