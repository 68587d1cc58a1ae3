use Rattle.std.proofs.Common.{◌≡◌, ◌∙◌, sym, ap, None, Some, [], unwrap_or, refl, rules}
use Rattle.std.specs.Option.{option_or}
use Rattle.diameter_avp.specs.Avps.{avps_fault, readable_avps}
use Rattle.diameter_avp.proofs.CallerLemmas.{read_avps-none, read_avps-some}
use Rattle.diameter_message.specs.Finding.{first_number}
use Rattle.diameter_message.proofs.FindingLemmas.{or-none}
use Rattle.diameter_message.proofs.results.result_code.Goals as goal

pub returns-in_default : goal.returns-in_default
returns-in_default c =
    let some : avps_fault c.args.octets.now ≡ Some c.in_default.field-0 = search rules in
    rw (read_avps-some c.args.octets.now c.in_default.field-0 some) refl

pub returns : goal.returns
returns c =
    let none : avps_fault c.args.octets.now ≡ None = search rules in
    let found : option_or c.loop-item.found (first_number 268 []) ≡ first_number 268 (readable_avps c.args.octets.now) = search rules in
    rw (read_avps-none c.args.octets.now none)
    (c.unwrap_or.ensures ∙ ap (λ found. unwrap_or found 0) (sym (or-none c.loop-item.found) ∙ found))
