use Rattle.std.proofs.Common.{◌≡◌}
use Rattle.translation.specs.Routes.{carried_state}
use Rattle.translation.proofs.routes.carried_state.Given as goal

-- what is left says what all of them say
abbrev pub invariant-loop-attribute : goal.invariant-loop-attribute
invariant-loop-attribute l = carried_state l.attribute-iterator ≡ carried_state l.packet.attributes
