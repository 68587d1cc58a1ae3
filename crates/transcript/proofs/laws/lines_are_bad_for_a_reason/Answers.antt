use Rattle.transcript.proofs.Grammar.GrammarReasonLemmas.{lines-are-bad-for-a-reason}
use Rattle.transcript.proofs.laws.lines_are_bad_for_a_reason.Goals as goal

pub returns : goal.returns
returns c = lines-are-bad-for-a-reason
