use Rattle.diameter_avp.proofs.CallerLemmas.{read_avps-avps_text}
use Rattle.diameter_avp.proofs.laws.written_is_read.Goals as goal

pub returns : goal.returns
returns c = read_avps-avps_text
