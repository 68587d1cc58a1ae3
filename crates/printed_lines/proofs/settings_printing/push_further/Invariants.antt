use Rattle.std.proofs.Common.{◌≡◌, ◌++◌, drop}
use Rattle.std.specs.List.{flat_map}
use Rattle.printed_lines.specs.SettingsText.{further_text}
use Rattle.printed_lines.proofs.settings_printing.push_further.Given as goal

-- what is left completes what was written
abbrev pub invariant-loop-address : goal.invariant-loop-address
invariant-loop-address l =
    l.word.items ++ flat_map further_text (drop l.address-index l.addresses)
    ≡ l.initial.word.items ++ flat_map further_text l.addresses
