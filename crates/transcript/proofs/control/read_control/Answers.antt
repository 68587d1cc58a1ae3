use Rattle.std.proofs.Common.{◌≡◌, length, Option, subst, sym, arith, rules, tests}
use Rattle.text_lines.specs.Reads.{Reads}
use Rattle.transcript.specs.declared.control.Control.{Control}
use Rattle.transcript.proofs.Reading.ControlLemmas.{control_by_place, not_five}
use Rattle.transcript.proofs.control.read_control.Goals as goal

pub returns-in_default : goal.returns-in_default
returns-in_default c =
    not_five c.args.words.now (λ five. search (rules, tests))

pub returns-in-len5 : goal.returns-in-len5
returns-in-len5 c =
    let five : length c.args.words.now ≡ 5 = omega arith in
    let Told : Option Control → Type 0 = λ told. Reads c.control_by.result told in
    subst Told (sym (control_by_place c.args.words.now _ five)) c.control_by.ensures
