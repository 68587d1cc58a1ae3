use Rattle.std.proofs.Common.{◌≡◌, fold}
use Rattle.accounting_map.specs.Statuses.{statuses_with}
use Rattle.accounting_map.proofs.statuses.status.Given as goal

-- what is left leads on to what is found in the whole packet
abbrev pub invariant-loop-attribute : goal.invariant-loop-attribute
invariant-loop-attribute l = fold statuses_with l.found l.attribute-iterator ≡ fold statuses_with l.initial.found l.packet.attributes
