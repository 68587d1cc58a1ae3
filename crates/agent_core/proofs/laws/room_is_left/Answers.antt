use Rattle.agent_core.proofs.LawLemmas.LawOfRooms as lemmas
use Rattle.agent_core.proofs.laws.room_is_left.Goals as goal

pub returns : goal.returns
returns c = lemmas.room_is_left
