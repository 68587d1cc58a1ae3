use Rattle.tunnel_map.proofs.RoundTripLemmas.{groups_are_read_back}
use Rattle.tunnel_map.proofs.laws.groups_are_read_back.Goals as goal

pub returns : goal.returns
returns c = groups_are_read_back
