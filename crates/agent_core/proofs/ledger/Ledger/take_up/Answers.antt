-- What isn't refused leaves room in the outbox.
use Rattle.std.proofs.Common.{◌≤◌, arith}
use Rattle.agent_core.specs.Machine.{kept_rooms}
use Rattle.agent_core.proofs.RoomLemmas.Limits.{limits}
use Rattle.agent_core.proofs.RequestLemmas.Refusals.{refusal-none}
use Rattle.agent_core.proofs.ledger.Ledger.take_up.Goals as goal

pub overflow_add-self-2 : goal.overflow_add-self-2
overflow_add-self-2 c =
    let l = limits _ c.requires.steady.limits.settings in
    let few : c.args.self.now.config.backlog ≤ 65536 = l.backlog in
    let admits = refusal-none c.args.self.now.config (kept_rooms c.args.self.now) c.requires.admits in
    let room = admits.backlog in
    omega arith
