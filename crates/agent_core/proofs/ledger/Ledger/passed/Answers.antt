-- A steady ledger has room for a further request.
use Rattle.std.proofs.Common.{false, arith}
use Rattle.agent_core.proofs.RoomLemmas.Spare.{outbox-next}
use Rattle.agent_core.proofs.ledger.Ledger.passed.Goals as goal

pub settle-requires-clause-room : goal.settle-requires-clause-room
settle-requires-clause-room c =
    let room = c.requires.steady.rooms.used in
    (omega arith, outbox-next c.args.self.now c.requires.steady false)
