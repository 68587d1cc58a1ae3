use Rattle.std.proofs.Common.{take, flat_map}
use Rattle.server_workers.specs.Entries.{reply_of}
use Rattle.server_workers.specs.SocketReading.{Hands}
use Rattle.server_workers.proofs.socket_reader.send_replies.Given as goal

-- the replies among the outputs so far were handed to it
abbrev pub invariant-loop-output : goal.invariant-loop-output
invariant-loop-output g l = Hands (g.D.Datagrams.told l.fn.socket) (g.D.Datagrams.told l.socket) (flat_map reply_of (take l.output-index l.outputs))
