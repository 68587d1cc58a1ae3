-- The counts of a steady ledger have room for what a step adds.
use Rattle.std.proofs.Common.{ℕ, ◌+◌, ◌≤◌, Bool, true, false, cond, length, arith}
use Rattle.agent_core.specs.declared.ledger.Ledger.{Ledger}
use Rattle.agent_core.specs.Machine.{kept_waiting}
use Rattle.agent_core.specs.Standing.{IsSteady}
use Rattle.agent_core.proofs.RoomLemmas.Limits.{limits}

pub anew-less : (begins : Bool) (n : ℕ) → cond begins 0 n ≤ n
anew-less true n = omega arith
anew-less false n = omega arith

pub outbox-small : (S : Ledger) → IsSteady S → S.outbox + length (kept_waiting S) ≤ 65600
outbox-small S steady =
    let l = limits S.config steady.limits.settings in
    let few = l.backlog in
    let room = steady.rooms.outbox in
    omega arith

-- the first message of a link that begins, or one more
pub outbox-next : (S : Ledger) → IsSteady S → (begins : Bool) → cond begins 0 S.outbox + 1 ≤ 4294967295
outbox-next S steady begins =
    let small = outbox-small S steady in
    let less = anew-less begins S.outbox in
    omega arith

pub outbox-all : (S : Ledger) → IsSteady S → (begins : Bool) (n : ℕ) → n ≤ 1 → (cond begins 0 S.outbox + n) + length (kept_waiting S) ≤ 4294967295
outbox-all S steady begins n one =
    let small = outbox-small S steady in
    let less = anew-less begins S.outbox in
    omega arith
