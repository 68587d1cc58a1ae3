use Rattle.std.proofs.Common.{◌≡◌}
use Rattle.translation.specs.Routes.{name_realm}
use Rattle.translation.proofs.routes.name_realm.Given as goal

-- what is left says what all of them say
abbrev pub invariant-loop-attribute : goal.invariant-loop-attribute
invariant-loop-attribute l = name_realm l.attribute-iterator ≡ name_realm l.packet.attributes
