use Rattle.std.proofs.Common.{take}
use Rattle.wire_devices.specs.Sockets.{datagram}
use Rattle.server_workers.proofs.socket_reader.read_once.Goals as goal

pub returns-in-From-clause-reads : goal.returns-in-From-clause-reads
returns-in-From-clause-reads g c =
    c.take_in.ensures.reads c.args.via (datagram c.in-From.address c.in-From.port (take c.in-From.length c.receive.new.buf)) (g.D.Datagrams.told c.args.socket.now) c.copied-input.ensures c.in-From.ensures.1
