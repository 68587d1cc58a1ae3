use Rattle.std.proofs.Common.{◌≡◌, length, arith, rules, tests}
use Rattle.transcript.proofs.Reading.SettingsLemmas.{client_by_place, not_nine}
use Rattle.transcript.proofs.settings.client_words.Goals as goal

pub returns-in_default-clause-none : goal.returns-in_default-clause-none
returns-in_default-clause-none c =
    not_nine c.args.words.now (λ nine. search (rules, tests))

pub returns-clause-some : goal.returns-clause-some
returns-clause-some c =
    let nine : length c.args.words.now ≡ 9 = omega arith in
    client_by_place c.args.words.now _ nine
