use Rattle.answer_causes.proofs.CauseLemmas.{access-is, accounting-is}
use Rattle.answer_causes.proofs.laws.causes_are_right.Goals as goal

pub returns : goal.returns
returns c = record { access = access-is; accounting = accounting-is }
