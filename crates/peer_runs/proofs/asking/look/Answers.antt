use Rattle.std.proofs.Common.{Some, take, refl}
use Rattle.wire_devices.specs.Sockets.{datagram}
use Rattle.peer_runs.proofs.asking.look.Goals as goal

pub returns-in-From-clause-looks : goal.returns-in-From-clause-looks
returns-in-From-clause-looks g c =
    let (within, gave) = c.in-From.ensures in
    record {
      got = Some (datagram c.in-From.address c.in-From.port (take c.in-From.length c.receive.new.buf));
      octets = refl;
      within = within;
      received = gave.received;
      handed = gave.handed;
    }
