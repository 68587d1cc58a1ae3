use Rattle.tunnel_map.proofs.RoundTripLemmas.{written_groups_are_accepted}
use Rattle.tunnel_map.proofs.laws.written_groups_are_accepted.Goals as goal

pub returns : goal.returns
returns c = written_groups_are_accepted
