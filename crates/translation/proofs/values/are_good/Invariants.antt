use Rattle.std.proofs.Common.{◌≡◌}
use Rattle.translation.specs.Values.{first_bad}
use Rattle.translation.proofs.values.are_good.Given as goal

-- the first bad value is among what is left
abbrev pub invariant-loop-attribute : goal.invariant-loop-attribute
invariant-loop-attribute l = first_bad l.direction l.attribute-iterator ≡ first_bad l.direction l.packet.attributes
