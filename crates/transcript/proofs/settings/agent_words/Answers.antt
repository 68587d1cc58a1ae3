use Rattle.std.proofs.lemmas.List.{take_rest}
use Rattle.transcript.proofs.Reading.SettingsLemmas.{by_place, too_few}
use Rattle.transcript.proofs.settings.agent_words.Goals as goal

pub returns-in_default-clause-none : goal.returns-in_default-clause-none
returns-in_default-clause-none c = too_few c.args.words.now c.in_default.len_below

pub returns-clause-some : goal.returns-clause-some
returns-clause-some c =
    rw (c.first_word.ensures, take_rest c.args.words.now 10) (by_place c.args.words.now _ c.in-len10-up.len_at_least)
