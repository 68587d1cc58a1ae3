-- Each call gives what the definition says of it.
use Rattle.std.proofs.Common.{refl}
use Rattle.peer_machine.proofs.peer.Peer.step.Goals as goal

pub returns-clause-output : goal.returns-clause-output
returns-clause-output c =
    rw (c.output_of.ensures, c.in_ok-send.ensures, c.if_room-act.ensures, c.act_on.ensures, c.noted-link.ensures.state, c.event_of-event.ensures, ← c.self.view_is) refl
