use Rattle.std.proofs.Common.{◌≡◌, drop}
use Rattle.translation.specs.AvpList.{list_view}
use Rattle.answer_causes.specs.Causes.{first_faulty}
use Rattle.answer_causes.proofs.access.bad_value.Given as goal

-- the first of what is left is the first of all
abbrev pub invariant-loop-avp : goal.invariant-loop-avp
invariant-loop-avp l = first_faulty l.class l.number (list_view (drop l.avp-index l.list)) ≡ first_faulty l.class 1 (list_view l.list)
