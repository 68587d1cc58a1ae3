-- There is room for what waits.
use Rattle.std.proofs.Common.{◌≡◌, List, length, subst, arith}
use Rattle.agent_settings.specs.declared.config.Config.{Config}
use Rattle.agent_core.specs.Places.{Place, now, waiting}
use Rattle.agent_core.specs.Machine.{kept_waiting}
use Rattle.agent_core.specs.LawsOfSends.{LeavesRoom, RoomIsLeft}
use Rattle.agent_core.proofs.StandingLemmas.Agreeing.{waiting-count}
use Rattle.agent_core.proofs.StandingLemmas.Histories.{Standing}
use Rattle.agent_core.proofs.LawLemmas.LawPlaces.{known}

leaves-room : (config : Config) (ps : List Place) → Standing config ps → LeavesRoom config ps
leaves-room config ps s =
    let S = s.ledger in
    let count : length (kept_waiting S) ≡ length (waiting S.config ps (now ps)) = waiting-count ps (now ps) S s.stands in
    let out = s.stands.outbox in
    let used = s.stands.used in
    let rooms = s.roomy.rooms in
    subst (λ (c : Config). LeavesRoom c ps) s.same (record {
      outbox = let h = rooms.outbox in omega arith;
      again = let h = rooms.again in omega arith;
      used = let h = rooms.used in omega arith;
    })

pub room_is_left : RoomIsLeft
room_is_left config history within = leaves-room config _ (known config within history)
