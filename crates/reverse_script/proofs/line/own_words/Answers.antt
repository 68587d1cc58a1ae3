use Rattle.reverse_script.proofs.WordLemmas.{by_place, too_few}
use Rattle.reverse_script.proofs.line.own_words.Goals as goal

pub returns-in_default-clause-none : goal.returns-in_default-clause-none
returns-in_default-clause-none c = too_few c.args.words.now c.in_default.len_below

pub returns-clause-some : goal.returns-clause-some
returns-clause-some c = by_place c.args.words.now _ c.in-len7-up.len_at_least
