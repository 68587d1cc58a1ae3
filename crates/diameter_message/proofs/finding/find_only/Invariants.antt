use Rattle.std.proofs.Common.{◌≡◌, None}
use Rattle.std.specs.Prelude.{option_copied}
use Rattle.diameter_avp.specs.Avps.{avp_items}
use Rattle.diameter_message.proofs.OnlyLemmas.{only_after}
use Rattle.diameter_message.proofs.finding.find_only.Given as goal

-- what was found, and what is left
abbrev pub invariant-loop-item : goal.invariant-loop-item
invariant-loop-item l =
    only_after l.code (option_copied l.found) l.item-iterator ≡ only_after l.code None (avp_items l.octets)
