use Rattle.diameter_avp.proofs.CallerLemmas.{avps_text-append}
use Rattle.diameter_avp.proofs.laws.text_by_parts.Goals as goal

pub returns : goal.returns
returns c = avps_text-append
