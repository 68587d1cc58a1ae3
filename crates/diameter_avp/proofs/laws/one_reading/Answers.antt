use Rattle.diameter_avp.proofs.TextLemmas.{read_avps-IsAvps}
use Rattle.diameter_avp.proofs.CallerLemmas.{IsAvps-read_avps}
use Rattle.diameter_avp.proofs.laws.one_reading.Goals as goal

pub returns-clause-read : goal.returns-clause-read
returns-clause-read c = read_avps-IsAvps

pub returns-clause-only : goal.returns-clause-only
returns-clause-only c = IsAvps-read_avps
