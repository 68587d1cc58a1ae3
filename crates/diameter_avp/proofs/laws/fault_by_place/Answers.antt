use Rattle.diameter_avp.proofs.FaultLemmas.{IsFault-from_found, found-from_IsFault}
use Rattle.diameter_avp.proofs.laws.fault_by_place.Goals as goal

pub returns-clause-found : goal.returns-clause-found
returns-clause-found c = IsFault-from_found

pub returns-clause-only : goal.returns-clause-only
returns-clause-only c = found-from_IsFault
