use Rattle.diameter_avp.proofs.TextLemmas.{avp_items-IsAvps}
use Rattle.diameter_avp.proofs.FaultLemmas.{HoldUpTo-from_IsFault, IsAvps-before_fault}
use Rattle.diameter_avp.proofs.laws.items_by_place.Goals as goal

pub returns-clause-whole : goal.returns-clause-whole
returns-clause-whole c = avp_items-IsAvps

pub returns-clause-rotten : goal.returns-clause-rotten
returns-clause-rotten c = HoldUpTo-from_IsFault

pub returns-clause-readable : goal.returns-clause-readable
returns-clause-readable c = IsAvps-before_fault
