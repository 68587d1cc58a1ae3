use Rattle.std.proofs.Common.{◌≡◌}
use Rattle.accounting_map.specs.Numbers.{first_value}
use Rattle.accounting_map.proofs.numbers.first_value.Given as goal

-- the first in what is left is the first in the packet
abbrev pub invariant-loop-attribute : goal.invariant-loop-attribute
invariant-loop-attribute l = first_value l.code l.attribute-iterator ≡ first_value l.code l.packet.attributes
