use Rattle.std.proofs.Common.{◌≡◌}
use Rattle.std.specs.Prelude.{find}
use Rattle.std.specs.Result.{ok_prefix}
use Rattle.diameter_avp.specs.Avps.{readable_avps}
use Rattle.diameter_message.specs.Finding.{has_code}
use Rattle.test_peers.proofs.finding.first_avp.Given as goal

-- what is looked for is not among the AVPs so far
abbrev pub invariant-loop-item : goal.invariant-loop-item
invariant-loop-item l =
    find (has_code l.code) (ok_prefix l.item-iterator) ≡ find (has_code l.code) (readable_avps l.octets)
