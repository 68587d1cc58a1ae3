use Rattle.std.proofs.Common.{rules, ◌<◌, length, sym, ◌∙◌}
use Rattle.std.proofs.lemmas.List.{take_rest}
use Rattle.printed_lines.proofs.SettingsTextLemmas.{first_of_addresses}
use Rattle.printed_lines.proofs.settings_printing.addresses_word.Goals as goal

pub returns : goal.returns
returns c =
    let some : 0 < length c.args.addresses.now = search rules in
    c.in_ok-push_further.ensures
    ∙ simp (c.in_ok-word.ensures, take_rest) (sym (first_of_addresses c.args.addresses.now some))
