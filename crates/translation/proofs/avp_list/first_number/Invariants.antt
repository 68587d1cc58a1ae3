use Rattle.std.proofs.Common.{◌≡◌, drop}
use Rattle.diameter_message.specs.Finding.{first_number}
use Rattle.translation.specs.AvpList.{list_view}
use Rattle.translation.proofs.avp_list.first_number.Given as goal

abbrev pub invariant-loop-avp : goal.invariant-loop-avp
invariant-loop-avp l =
    first_number l.code (list_view (drop l.avp-index l.list)) ≡ first_number l.code (list_view l.list)
