use Rattle.std.proofs.Common.{◌≡◌}
use Rattle.std.specs.Prelude.{find}
use Rattle.std.specs.Result.{ok_prefix}
use Rattle.diameter_avp.specs.Avps.{readable_avps}
use Rattle.diameter_message.specs.Finding.{has_size}
use Rattle.diameter_message.proofs.finding.find_avp.Given as goal

-- what is looked for is not among the AVPs so far
abbrev pub invariant-loop-item : goal.invariant-loop-item
invariant-loop-item l =
    find (has_size l.code l.least l.most) (ok_prefix l.item-iterator) ≡ find (has_size l.code l.least l.most) (readable_avps l.octets)
