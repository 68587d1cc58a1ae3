use Rattle.transcript.proofs.Grammar.GrammarLemmas.{lines-have-a-grammar}
use Rattle.transcript.proofs.laws.lines_have_a_grammar.Goals as goal

pub returns : goal.returns
returns c = lines-have-a-grammar
