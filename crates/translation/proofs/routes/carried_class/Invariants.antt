use Rattle.std.proofs.Common.{◌≡◌}
use Rattle.translation.specs.Routes.{carried_class}
use Rattle.translation.proofs.routes.carried_class.Given as goal

-- what is left says what all of them say
abbrev pub invariant-loop-attribute : goal.invariant-loop-attribute
invariant-loop-attribute l = carried_class l.attribute-iterator ≡ carried_class l.packet.attributes
